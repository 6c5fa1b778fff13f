use Rattle.std.proofs.Common.{◌∙◌, arith}
use Rattle.signatures_simd.proofs.Common.{common_words}
use Rattle.signatures_simd.proofs.lanes.have_common.Goals as goal

pub returns : goal.returns
returns c = c.has_bit.ensures ∙ common_words c.args.one.now c.args.other.now (omega arith)
