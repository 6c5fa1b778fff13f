use Rattle.std.proofs.Common.{◌≡◌, ◌+◌, ◌++◌, ◌∷◌, [], take, sym, ap, subst, ◌∙◌, add-one, take-suc}
use Rattle.row_store.specs.Leaves.{AreNewListed}
use Rattle.row_store.proofs.Listing.{new-listed-more, new-listed-still}
use Rattle.row_store.proofs.pointed.list_all_new.Goals as goal

pub loop-n-preserved : goal.loop-n-preserved
loop-n-preserved c h =
    let (leaves, listed) = c.loop-n.invariant h in
    let changes = c.args.changes.now in
    let change = c.index-changes-n.result in
    let taken : take (c.loop-n.n + 1) changes ≡ take c.loop-n.n changes ++ change ∷ [] =
    ap (λ k. take k changes) (add-one c.loop-n.n) ∙ take-suc changes c.loop-n.n change c.loop-n-test.true ∙ ap (λ x. take c.loop-n.n changes ++ x ∷ []) (sym c.index-changes-n.is) in (
      c.list_new.ensures.kept leaves,
      subst (AreNewListed c.list_new.new.leaves) (sym taken)
          (new-listed-more _ _ change (new-listed-still _ _ _ c.list_new.ensures.others listed) (c.in_ok-list_new.ensures.ok leaves)),
    )
