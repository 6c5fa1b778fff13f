use Rattle.std.proofs.Common.{◌≡◌, ◌<◌, [], ◌∷◌, ◌++◌, length, sym, ap, subst, ◌∙◌, arith}
use Rattle.rollback.specs.Pointed.{Pointed}
use Rattle.rollback.specs.declared.points.TheConstants.{POINTS}
use Rattle.pointed_tables.specs.Logs.{IsPointed, points_of}
use Rattle.pointed_tables.proofs.Pointing.{length-points, pointed-mark, points-mark}
use Rattle.pointed_tables.proofs.pointed.PointedTables.push_point.Goals as goal

pub push-requires : goal.push-requires
push-requires c =
    let same : length c.self.inside.points.items ≡ length c.args.self.now.points = sym (length-points c.self.inside.points.items c.self.inside.store.rows) ∙ ap (λ (p : Pointed). length p.points) c.self.view_is in
    let few : length c.self.inside.points.items < POINTS = omega arith in
    (omega arith, few)

pub invariant_of-self : goal.invariant_of-self
invariant_of-self c =
    subst (λ ls. IsPointed ls c.self.inside.store.rows c.self.inside.store.room) (sym c.push.ensures.items)
    (pointed-mark c.emptied.result c.self.inside.store.rows c.emptied.ensures.olds c.emptied.ensures.removals c.self.inside.points.items c.self.inside.store.room c.self.invariant)

pub returns-clause-points : goal.returns-clause-points
returns-clause-points c =
    ap (λ ls. points_of ls c.self.inside.store.rows) c.push.ensures.items
    ∙ points-mark c.emptied.result c.self.inside.store.rows c.emptied.ensures.olds c.emptied.ensures.removals c.self.inside.points.items
    ∙ ap (λ (p : Pointed). p.points ++ p.rows ∷ []) c.self.view_is
