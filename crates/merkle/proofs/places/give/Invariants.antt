use Rattle.std.proofs.Common.{◌≡◌, ℕ, ◌≤◌, get_or}
use Rattle.merkle.specs.declared.jobs.Job.{Job}
use Rattle.merkle.proofs.Placing.{IsDoneTo}
use Rattle.merkle.proofs.places.give.Given as goal

-- the jobs before this one have their hashes, those from it on are as they were
abbrev pub invariant-loop-k : goal.invariant-loop-k
invariant-loop-k g l = record {
  left : (k : ℕ) (d : Job) → l.k ≤ k → get_or l.jobs k d ≡ get_or l.fn.jobs k d;
  done : IsDoneTo (g.P.Places.hash l.places) l.k l.fn.jobs l.jobs;
}
