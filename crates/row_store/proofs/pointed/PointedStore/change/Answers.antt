use Rattle.std.proofs.Common.{sym, ◌∙◌}
use Rattle.row_store.proofs.Listing.{leaves-changed, leaves-alike}
use Rattle.row_store.proofs.pointed.PointedStore.change.Goals as goal

pub invariant_of-self : goal.invariant_of-self
invariant_of-self c =
    leaves-alike _ _ _ (sym c.deref.ensures) (c.list_new.ensures.kept (leaves-alike _ _ _ c.deref.ensures c.self.invariant))

pub invariant_of-self-2 : goal.invariant_of-self-2
invariant_of-self-2 c =
    let e = c.change.ensures in
    let leaves = leaves-alike _ _ _ c.deref.ensures c.self.invariant in
    let now = leaves-alike _ _ _ (c.deref_mut.ensures.value ∙ sym c.deref.ensures) (c.list_new.ensures.kept leaves) in
    leaves-changed c.list_new.new.leaves c.deref_mut.result.now c.change.new.self now c.change.result c.args.key c.args.new_row (c.in_ok-list_new.ensures.ok leaves) e.rows e.points e.err
