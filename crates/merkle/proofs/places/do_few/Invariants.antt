use Rattle.merkle.proofs.Placing.{IsDoneTo}
use Rattle.merkle.proofs.places.do_few.Given as goal

abbrev pub invariant-loop-k : goal.invariant-loop-k
invariant-loop-k g l = IsDoneTo (g.P.Places.hash l.places) l.k l.fn.jobs l.jobs
