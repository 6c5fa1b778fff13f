use Rattle.std.proofs.Common.{take, drop, sym, ◌∙◌}
use Rattle.std.proofs.lemmas.List.{take-append-drop}
use Rattle.pointed_tables.proofs.pointed.PointedTables.apply.Goals as goal

pub returns-then-make-count-clause-err : goal.returns-then-make-count-clause-err
returns-then-make-count-clause-err c =
    let changes = c.into_changes-changes.result.items in
    (take c.make.result changes, drop c.make.result changes, sym c.into_changes-changes.ensures.all ∙ sym (take-append-drop c.make.result changes), c.make.ensures.made.rows)
