use Rattle.std.proofs.Common.{length, ◌-◌, ◌≡◌, ◌≤◌, ℕ}
use Rattle.bit_sets.specs.BitSets.{has_bit}
use Rattle.merkle.specs.Nodes.{AreJoinedTo, at, in_branch}
use Rattle.merkle.specs.declared.marks.TheConstants.{BRANCH_LEAVES}
use Rattle.merkle.proofs.levels.rejoin_level.Given as goal

-- the nodes of the level before the next one are joined
abbrev pub invariant-loop-next : goal.invariant-loop-next
invariant-loop-next l = record {
  inside : l.next ≤ length l.nodes;
  len : length l.nodes ≡ length l.fn.nodes;
  to : AreJoinedTo l.level.low l.level.high l.next l.nodes (has_bit l.marks.words);
  leaves : (i : ℕ) → BRANCH_LEAVES ≤ in_branch i → at l.nodes i ≡ at l.fn.nodes i;
}

abbrev pub decreases-loop-next : goal.decreases-loop-next
decreases-loop-next l = length l.nodes - l.next
