use Rattle.std.proofs.Common.{sym, subst}
use Rattle.std.specs.Prelude.{⊤}
use Rattle.tables.specs.ByRank.{ByRank}
use Rattle.row_store.specs.Leaves.{AreLeaves, without_oldest}
use Rattle.row_store.proofs.Listing.{leaves-less}
use Rattle.row_store.proofs.pointed.unlist_gone.Goals as goal
use Rattle.row_store.proofs.pointed.unlist_gone.Goals.{then-is_new_order+then-is_some+then-is_gone, else-is_new_order}

pub loop-n-preserved : goal.loop-n-preserved
loop-n-preserved c h =
    let before = c.loop-n.invariant h in
    elim c.if-is_new_order.branch [
      | then-is_new_order+then-is_some+then-is_gone w ↦
          subst (λ (m : ByRank ⊤). AreLeaves m (without_oldest c.args.tables.now)) (sym w.leaves-is)
          (leaves-less c.loop-n.leaves w.unlist.new.leaves c.index-changes-n.result.0 c.args.tables.now w.unlist.ensures.limits w.unlist.ensures.value (w.is_gone.ensures w.if-is_gone.true) before)
      | else-is_new_order w ↦ subst (λ (m : ByRank ⊤). AreLeaves m (without_oldest c.args.tables.now)) (sym w.leaves-is) before
    ]
