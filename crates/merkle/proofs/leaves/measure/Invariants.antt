use Rattle.merkle.specs.Jobs.{KeepsPlaces}
use Rattle.merkle.proofs.leaves.measure.Given as goal

abbrev pub invariant-loop-k : goal.invariant-loop-k
invariant-loop-k l = KeepsPlaces l.fn.jobs l.jobs
