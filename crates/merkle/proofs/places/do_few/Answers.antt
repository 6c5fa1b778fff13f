use Rattle.std.proofs.Common.{arith, refl}
use Rattle.merkle.proofs.Placing.{all-done, all-kept, blank, one-done}
use Rattle.merkle.proofs.places.do_few.Goals as goal

pub hash_one-requires : goal.hash_one-requires
hash_one-requires g c = all-kept (g.P.Places.has c.args.places.now) c.args.jobs.now c.loop-k.jobs c.loop-k.invariant.places c.requires c.loop-k.k blank (omega (arith, c.loop-k-test.true, c.loop-k.auto.jobs))

pub loop-k-preserved : goal.loop-k-preserved
loop-k-preserved g c = one-done (g.P.Places.hash c.args.places.now) c.args.jobs.now c.loop-k.jobs c.loop-k.k _ blank (omega (arith, c.loop-k-test.true, c.loop-k.auto.jobs)) refl c.hash_one.ensures c.loop-k.invariant

pub returns : goal.returns
returns g c = all-done (g.P.Places.hash c.args.places.now) c.loop-k.k c.args.jobs.now c.loop-k.jobs (omega (arith, c.loop-k-test.false, c.loop-k.auto.jobs)) c.loop-k.invariant
