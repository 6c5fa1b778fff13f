use Rattle.std.proofs.Common.{sym, subst, ◌∙◌}
use Rattle.rollback.specs.Pointed.{Pointed}
use Rattle.row_store.specs.Leaves.{AreLeaves, without_oldest}
use Rattle.row_store.proofs.Listing.{leaves-dropped, leaves-alike}
use Rattle.row_store.proofs.pointed.PointedStore.drop_oldest.Goals as goal

pub invariant_of-self : goal.invariant_of-self
invariant_of-self c =
    let e = c.drop_oldest.ensures in
    let fewer = c.unlist_gone.ensures (leaves-alike _ _ _ c.deref.ensures c.self.invariant) in
    let same = c.deref.ensures ∙ sym c.deref_mut.ensures.value in
    leaves-dropped c.unlist_gone.new.leaves c.deref_mut.result.now c.drop_oldest.new.self
    (subst (λ (s : Pointed). AreLeaves c.unlist_gone.new.leaves (without_oldest s)) same fewer) c.drop_oldest.result e.points e.rows e.none e.err
