use Rattle.std.proofs.Common.{◌≡◌, ℕ, List, cond, length, take}
use Rattle.merkle.specs.Jobs.{AreHashed, has_place}
use Rattle.merkle.specs.Nodes.{at}
use Rattle.merkle.proofs.jobs.put_hashes.Given as goal

-- the hashes of the jobs before this one are at their places
abbrev pub invariant-loop-job : goal.invariant-loop-job
invariant-loop-job l = record {
  len : length l.hashes ≡ length l.fn.hashes;
  put : (value : ℕ → List ℕ) → AreHashed value l.jobs
      → (i : ℕ) → at l.hashes i ≡ cond (has_place (take l.job-index l.jobs) i) (value i) (at l.fn.hashes i);
}
