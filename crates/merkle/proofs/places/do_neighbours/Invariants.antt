use Rattle.std.proofs.Common.{◌≡◌, ◌*◌, min, length}
use Rattle.merkle.proofs.Placing.{IsDoneTo}
use Rattle.merkle.specs.declared.places.TheConstants.{GROUP}
use Rattle.merkle.proofs.places.do_neighbours.Given as goal

abbrev pub invariant-loop-group : goal.invariant-loop-group
invariant-loop-group g l = record {
  done : IsDoneTo (g.P.Places.hash l.places) (min (GROUP * l.group) (length l.fn.jobs)) l.fn.jobs l.jobs;
  room : length l.texts ≡ GROUP;
}
