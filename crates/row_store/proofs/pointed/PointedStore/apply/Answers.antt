use Rattle.std.proofs.Common.{sym, subst, ◌∙◌}
use Rattle.row_store.specs.Leaves.{AreNewListed}
use Rattle.row_store.proofs.Listing.{leaves-alike, leaves-applied}
use Rattle.row_store.proofs.pointed.PointedStore.apply.Goals as goal

pub invariant_of-self-2 : goal.invariant_of-self-2
invariant_of-self-2 c =
    let e = c.apply.ensures in
    let leaves = leaves-alike _ _ _ c.deref.ensures c.self.invariant in
    let now = leaves-alike _ _ _ (c.deref_mut.ensures.value ∙ sym c.deref.ensures) (c.list_all_new.ensures.kept leaves) in
    let listed = subst (AreNewListed c.list_all_new.new.leaves) c.as_slice.ensures.all (c.in_ok-list_all_new.ensures.ok leaves) in
    leaves-applied c.list_all_new.new.leaves c.deref_mut.result.now c.apply.new.self now c.apply.result c.args.delta listed e.ok e.err e.points
