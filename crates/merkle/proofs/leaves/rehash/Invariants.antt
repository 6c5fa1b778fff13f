use Rattle.std.proofs.Common.{◌-◌, ◌≡◌, ◌<◌, ◌≤◌, ◌+◌, ◌*◌, ℕ, length}
use Rattle.merkle.specs.Nodes.{at, in_branch, leaf_place, rehashed}
use Rattle.merkle.specs.declared.marks.TheConstants.{BRANCH_LEAVES}
use Rattle.merkle.proofs.leaves.rehash.Given as goal

-- the leaves before the next one are rehashed, those from it on are as they were
abbrev pub invariant-loop-next : goal.invariant-loop-next
invariant-loop-next l = record {
  low : l.first ≤ l.next;
  high : 2 * l.next ≤ 2 * l.first + length l.fn.nodes;
  len : length l.nodes ≡ length l.fn.nodes;
  done : (m : ℕ) → l.first + m < l.next → at l.nodes (leaf_place m) ≡ rehashed l.change.dirty.now l.change.leaves.store.now.rows (at l.fn.nodes (leaf_place m)) (l.first + m);
  left : (m : ℕ) → l.next ≤ l.first + m → at l.nodes (leaf_place m) ≡ at l.fn.nodes (leaf_place m);
  inner : (i : ℕ) → in_branch i < BRANCH_LEAVES → at l.nodes i ≡ at l.fn.nodes i;
}

abbrev pub decreases-loop-next : goal.decreases-loop-next
decreases-loop-next l = l.end - l.next
