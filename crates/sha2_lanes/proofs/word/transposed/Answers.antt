use Rattle.sha2_lanes.proofs.Bits.{transposes}
use Rattle.sha2_lanes.proofs.word.transposed.Goals as goal

pub returns : goal.returns
returns c = transposes c.args.first c.args.second c.args.third c.args.fourth c.fits-first.0 c.fits-second.0 c.fits-third.0 c.fits-fourth.0
