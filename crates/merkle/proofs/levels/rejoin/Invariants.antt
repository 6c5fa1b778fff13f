use Rattle.std.proofs.Common.{length, ◌≡◌, ◌≤◌, ℕ}
use Rattle.bit_sets.specs.BitSets.{has_bit}
use Rattle.merkle.specs.Nodes.{AreJoinedTo, at, in_branch}
use Rattle.merkle.specs.declared.marks.TheConstants.{BRANCH_LEAVES}
use Rattle.merkle.proofs.levels.rejoin.Given as goal

-- the levels from `high` on are joined
abbrev pub invariant-loop-high : goal.invariant-loop-high
invariant-loop-high l = record {
  some : 1 ≤ l.high;
  inside : l.high ≤ BRANCH_LEAVES;
  len : length l.nodes ≡ length l.fn.nodes;
  to : (low : ℕ) → AreJoinedTo low l.high 0 l.nodes (has_bit l.marks.words);
  leaves : (i : ℕ) → BRANCH_LEAVES ≤ in_branch i → at l.nodes i ≡ at l.fn.nodes i;
}

abbrev pub decreases-loop-high : goal.decreases-loop-high
decreases-loop-high l = l.high
