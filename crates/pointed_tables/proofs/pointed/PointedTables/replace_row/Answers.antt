use Rattle.std.proofs.Common.{[], Some, subst}
use Rattle.std.specs.Option.{option_map}
use Rattle.rollback.specs.Pointed.{Pointed}
use Rattle.rollback.proofs.Marking.{keeps-changed}
use Rattle.pointed_tables.specs.Logs.{IsReplaced}
use Rattle.pointed_tables.proofs.pointed.PointedTables.replace_row.Goals as goal

pub returns-in-None-clause-clean : goal.returns-in-None-clause-clean
returns-in-None-clause-clean g c =
    let new : Pointed = record { rows = c.replace_noting_newest.new.store.rows; points = []; dirty = c.add.new.self } in
    let row = g.R.TableRow.row_of c.args.row in
    let replaced = subst (λ back. IsReplaced c.args.key.now row (option_map g.R.TableRow.row_of back) c.self.inside.store.rows new.rows) c.in-None.is c.in_ok-row.ensures.ok in
    keeps-changed _ c.args.self.now new c.args.key.now c.leaf.result (Some row) c.self.view_is c.leaf.ensures.value replaced.1 c.add.ensures
