use Rattle.std.proofs.Common.{◌≡◌, ◌*◌, min, length}
use Rattle.merkle.proofs.Placing.{IsDoneTo}
use Rattle.merkle.specs.declared.places.TheConstants.{GROUP}
use Rattle.merkle.proofs.places.do_jobs.Given as goal

abbrev pub invariant-loop-window : goal.invariant-loop-window
invariant-loop-window g l = record {
  done : IsDoneTo (g.P.Places.hash l.places) (min (128 * l.window) (length l.fn.jobs)) l.fn.jobs l.jobs;
  room : length l.texts ≡ GROUP;
}
