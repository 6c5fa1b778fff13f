use Rattle.row_store.proofs.Listing.{leaves-back, leaves-alike}
use Rattle.row_store.proofs.pointed.PointedStore.rewind.Goals as goal

pub invariant_of-self : goal.invariant_of-self
invariant_of-self c =
    let e = c.rewind.ensures in
    leaves-back c.self.inside.leaves c.deref_mut.result.now c.rewind.new.self (leaves-alike _ _ _ c.deref_mut.ensures.value c.self.invariant) c.rewind.result c.args.point _ e.rows e.points e.err
