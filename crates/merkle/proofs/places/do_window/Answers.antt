use Rattle.merkle.proofs.Placing.{moved-done}
use Rattle.merkle.proofs.places.do_window.Goals as goal

pub returns-clause-done : goal.returns-clause-done
returns-clause-done g c = moved-done (g.P.Places.hash c.args.places.now) c.args.jobs.now _ _ c.arrange.ensures.places.len c.arrange.ensures.places.places c.do_neighbours.ensures.done
