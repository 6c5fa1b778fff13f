use Rattle.std.proofs.Common.{arith}
use Rattle.merkle.proofs.places.encode.Goals as goal

pub returns : goal.returns
returns g c = record { len = c.loop-k.invariant.0; each = λ k d low. c.loop-k.invariant.1 k d (omega (arith, c.loop-k-test.false)) }
