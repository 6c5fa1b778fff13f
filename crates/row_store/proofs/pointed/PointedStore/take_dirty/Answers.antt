use Rattle.row_store.proofs.Listing.{leaves-same, leaves-alike}
use Rattle.row_store.proofs.pointed.PointedStore.take_dirty.Goals as goal

pub invariant_of-self : goal.invariant_of-self
invariant_of-self c =
    let e = c.take_dirty.ensures in
    leaves-same c.self.inside.leaves c.deref_mut.result.now c.take_dirty.new.self (leaves-alike _ _ _ c.deref_mut.ensures.value c.self.invariant) e.rows e.points
