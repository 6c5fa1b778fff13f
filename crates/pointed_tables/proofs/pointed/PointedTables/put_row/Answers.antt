use Rattle.std.proofs.Common.{[], Some}
use Rattle.rollback.specs.Pointed.{Pointed}
use Rattle.rollback.proofs.Marking.{keeps-changed}
use Rattle.pointed_tables.proofs.pointed.PointedTables.put_row.Goals as goal

pub returns-clause-clean : goal.returns-clause-clean
returns-clause-clean g c =
    let new : Pointed = record { rows = c.put_noting_newest.new.store.rows; points = []; dirty = c.add.new.self } in
    keeps-changed _ c.args.self.now new c.args.key.now c.leaf.result (Some (g.R.TableRow.row_of c.args.row)) c.self.view_is c.leaf.ensures.value c.in_ok-put_noting_newest.ensures.ok c.add.ensures
