use Rattle.std.proofs.Common.{[]}
use Rattle.rollback.specs.Pointed.{Pointed}
use Rattle.pointed_tables.proofs.Pointing.{keeps-tried}
use Rattle.pointed_tables.proofs.pointed.PointedTables.change.Goals as goal

pub returns-clause-clean : goal.returns-clause-clean
returns-clause-clean c =
    let e = c.change_noting_newest.ensures in
    let new : Pointed = record { rows = c.change_noting_newest.new.store.rows; points = []; dirty = c.change_noting_newest.new.dirty } in
    keeps-tried c.change_noting_newest.result _ c.args.self.now new c.args.key c.args.new_row c.self.view_is e.ok e.dirty e.err e.same
