use Rattle.std.proofs.Common.{arith, sym}
use Rattle.std.proofs.lemmas.List.{length-take-le}
use Rattle.sha2_lanes.proofs.four.first_block.Goals as goal

pub slice_bounds-result-end : goal.slice_bounds-result-end
slice_bounds-result-end c = sym (length-take-le 64 c.args.message.now (omega arith))

pub returns-clause-length : goal.returns-clause-length
returns-clause-length c = length-take-le 64 c.args.message.now (omega arith)
