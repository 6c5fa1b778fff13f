use Rattle.row_store.proofs.Listing.{leaves-marked, leaves-alike}
use Rattle.row_store.proofs.pointed.PointedStore.mark.Goals as goal

pub invariant_of-self : goal.invariant_of-self
invariant_of-self c =
    let e = c.mark.ensures in
    leaves-marked c.self.inside.leaves c.deref_mut.result.now c.mark.new.self (leaves-alike _ _ _ c.deref_mut.ensures.value c.self.invariant) c.mark.result e.points e.rows e.err
