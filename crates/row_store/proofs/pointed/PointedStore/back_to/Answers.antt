use Rattle.row_store.proofs.Listing.{leaves-back, leaves-alike}
use Rattle.row_store.proofs.pointed.PointedStore.back_to.Goals as goal

pub invariant_of-self : goal.invariant_of-self
invariant_of-self c =
    let e = c.back_to.ensures in
    leaves-back c.self.inside.leaves c.deref_mut.result.now c.back_to.new.self (leaves-alike _ _ _ c.deref_mut.ensures.value c.self.invariant) c.back_to.result c.args.point c.args.point e.rows e.points e.err
