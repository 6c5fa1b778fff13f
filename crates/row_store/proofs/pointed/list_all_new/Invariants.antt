use Rattle.std.proofs.Common.{take}
use Rattle.row_store.specs.Leaves.{AreLeaves, AreNewListed}
use Rattle.row_store.proofs.pointed.list_all_new.Given as goal

-- those of n changes are listed
abbrev pub invariant-loop-n : goal.invariant-loop-n
invariant-loop-n l = AreLeaves l.fn.leaves l.tables → AreLeaves l.leaves l.tables × AreNewListed l.leaves (take l.n l.changes)
