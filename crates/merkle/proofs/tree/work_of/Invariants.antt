use Rattle.std.proofs.Common.{◌≤◌, ◌-◌}
use Rattle.tpcc_rows.specs.declared.codes.TheConstants.{LEAVES}
use Rattle.merkle.proofs.tree.work_of.Given as goal

abbrev pub invariant-loop-n : goal.invariant-loop-n
invariant-loop-n l = l.next ≤ LEAVES

abbrev pub decreases-loop-n : goal.decreases-loop-n
decreases-loop-n l = LEAVES - l.next
