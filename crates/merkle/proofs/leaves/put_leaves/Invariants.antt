use Rattle.std.proofs.Common.{◌≡◌, ◌<◌, ◌+◌, ◌*◌, ℕ, List, cond, length, take}
use Rattle.merkle.specs.Jobs.{AreHashed, has_place}
use Rattle.merkle.specs.Nodes.{at, in_branch, leaf_place}
use Rattle.merkle.specs.declared.marks.TheConstants.{BRANCH_LEAVES}
use Rattle.merkle.proofs.leaves.put_leaves.Given as goal

-- the hashes of the jobs before this one are at their places
abbrev pub invariant-loop-job : goal.invariant-loop-job
invariant-loop-job l = record {
  len : length l.nodes ≡ length l.fn.nodes;
  put : (value : ℕ → List ℕ) → AreHashed value l.jobs → (m : ℕ) → 2 * m < length l.fn.nodes
      → at l.nodes (leaf_place m) ≡ cond (has_place (take l.job-index l.jobs) (l.first + m)) (value (l.first + m)) (at l.fn.nodes (leaf_place m));
  inner : (i : ℕ) → in_branch i < BRANCH_LEAVES → at l.nodes i ≡ at l.fn.nodes i;
}
