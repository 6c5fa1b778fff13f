use Rattle.row_store.proofs.Listing.{leaves-removed, leaves-alike}
use Rattle.row_store.proofs.pointed.PointedStore.remove.Goals as goal

pub invariant_of-self : goal.invariant_of-self
invariant_of-self c =
    let e = c.remove.ensures in
    leaves-removed c.self.inside.leaves c.deref_mut.result.now c.remove.new.self (leaves-alike _ _ _ c.deref_mut.ensures.value c.self.invariant) c.remove.result c.args.key.now e.rows e.points e.err
