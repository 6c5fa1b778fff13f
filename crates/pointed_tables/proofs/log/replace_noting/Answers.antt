use Rattle.std.proofs.Common.{◌+◌, ◌∷◌, ◌++◌, [], Some, ap, ◌∙◌}
use Rattle.pointed_tables.specs.Logs.{Olds}
use Rattle.pointed_tables.proofs.Exchanging.{step-appended}
use Rattle.pointed_tables.proofs.Replacing.{back-swapped}
use Rattle.pointed_tables.proofs.log.replace_noting.Goals as goal

pub returns-clause-step : goal.returns-clause-step
returns-clause-step g c =
    let key = c.args.key.now in
    let left = g.R.TableRow.row_of c.swap_row.new.row in
    let later : Olds = (key, Some left) ∷ [] in
    step-appended c.args.log.now c.note.new.self later 0 c.args.store.now.rows c.swap_row.new.self.rows
    (c.note.ensures.olds ∙ ap (λ (os : Olds). os ++ (key, Some c.into_row.result) ∷ []) c.prepare.ensures.same.olds ∙ ap (λ x. c.args.log.now.olds.items ++ (key, Some x) ∷ []) c.into_row.ensures)
    (c.note.ensures.removals ∙ ap (λ n. n + 0) c.prepare.ensures.same.removals)
    (λ within. c.note.ensures.bounded (c.prepare.ensures.same.bounded within))
    (back-swapped key (g.R.TableRow.row_of c.args.row) left c.args.store.now.rows c.swap_row.new.self.rows c.swap_row.result c.if-not-swap_row.false c.swap_row.ensures.value)
