use Rattle.std.proofs.Common.{arith}
use Rattle.signatures_simd.proofs.Words.{has_either}
use Rattle.signatures_simd.proofs.lanes.either.Goals as goal

pub returns : goal.returns
returns c = λ b. has_either c.args.one.now c.args.other.now b (omega arith)
