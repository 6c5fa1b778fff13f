use Rattle.std.proofs.Common.{◌≤◌, ◌-◌, length}
use Rattle.merkle.specs.declared.helped.TheConstants.{ROUND}
use Rattle.merkle.proofs.Placing.{IsDoneTo}
use Rattle.merkle.proofs.helped.do_rounds.Given as goal

abbrev pub invariant-loop-start : goal.invariant-loop-start
invariant-loop-start g l = record {
  inside : l.start ≤ length l.jobs;
  room : ROUND ≤ length l.texts;
  done : IsDoneTo (g.P.Places.hash l.sharing.places.now) l.start l.fn.jobs l.jobs;
}

abbrev pub decreases-loop-start : goal.decreases-loop-start
decreases-loop-start g l = length l.jobs - l.start
