use Rattle.signatures_simd.proofs.Common.{some_bit}
use Rattle.signatures_simd.proofs.lanes.has_bit.Goals as goal

pub returns : goal.returns
returns c = some_bit c.args.word c.ranges.word.fits
