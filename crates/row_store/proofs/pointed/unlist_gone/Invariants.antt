use Rattle.row_store.specs.Leaves.{AreLeaves, without_oldest}
use Rattle.row_store.proofs.pointed.unlist_gone.Given as goal

abbrev pub invariant-loop-n : goal.invariant-loop-n
invariant-loop-n l = AreLeaves l.fn.leaves l.tables → AreLeaves l.leaves (without_oldest l.tables)
