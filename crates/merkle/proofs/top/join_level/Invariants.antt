use Rattle.std.proofs.Common.{◌≡◌, ◌<◌, ◌+◌, ◌*◌, length, take, true}
use Rattle.merkle.specs.Jobs.{AreGathered}
use Rattle.merkle.specs.declared.marks.TheConstants.{BRANCHES}
use Rattle.merkle.proofs.top.join_level.Given as goal

-- the jobs before this one are at the level's first nodes
abbrev pub invariant-loop-n : goal.invariant-loop-n
invariant-loop-n l = record {
  long : 2 * length l.jobs ≡ BRANCHES;
  gathered : AreGathered (λ i. i < 2 * l.width) (λ i. true) l.width (l.width + l.n) (take l.n l.jobs);
}
