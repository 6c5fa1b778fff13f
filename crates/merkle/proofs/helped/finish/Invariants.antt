use Rattle.std.proofs.Common.{◌≡◌, ◌≤◌, ◌-◌, drop, length}
use Rattle.merkle.proofs.Placing.{IsDoneTo}
use Rattle.merkle.proofs.helped.finish.Given as goal

abbrev pub invariant-loop-start : goal.invariant-loop-start
invariant-loop-start g l = record {
  inside : l.start ≤ length l.jobs;
  done : IsDoneTo (g.P.Places.hash l.sharing.places.now) l.start l.fn.jobs l.jobs;
  left : drop l.start l.jobs ≡ drop l.start l.fn.jobs;
}

abbrev pub decreases-loop-start : goal.decreases-loop-start
decreases-loop-start g l = length l.jobs - l.start
