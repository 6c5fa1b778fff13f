use Rattle.std.proofs.Common.{rules}
use Rattle.bit_sets.proofs.BitSets.{bit-more}
use Rattle.bit_sets.proofs.bits.Bits.add.Goals as goal

pub returns : goal.returns
returns g c = λ m. bit-more c.args.self.now.words c.args.n m (search (rules, c.requires))
