use Rattle.std.proofs.Common.{sym, ◌∙◌}
use Rattle.pointed_tables.proofs.Bounding.{gone-later}
use Rattle.pointed_tables.proofs.pointed.PointedTables.is_gone.Goals as goal

pub returns-in-Some : goal.returns-in-Some
returns-in-Some c gone =
    let inside = c.self.inside in
    let e = c.is_gone_from.ensures in
    gone-later c.args.key.now inside.points.items c.in-Some.later.now c.in-Some.field-0-0.now inside.store.rows inside.store.room inside.dirty c.args.self.now c.self.view_is (sym c.as_slice.ensures.value ∙ c.in-Some.ensures.cases.0) c.self.invariant (e.present gone) (e.noted gone)
