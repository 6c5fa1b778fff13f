use Rattle.std.proofs.Common.{◌≡◌, ◌∙◌, [], ◌∷◌, arith}
use Rattle.std.proofs.lemmas.List.{take_all}
use Rattle.sha2_lanes.specs.Padding.{second_block}
use Rattle.sha2_lanes.proofs.Messages.{length-ended}
use Rattle.sha2_lanes.proofs.second_blocks.sums_after.Goals as goal

pub returns : goal.returns
returns c =
    let long = length-ended (c.args.last ∷ []) 65 in
    let padded = c.behind-padded.ensures in
    let block : c.block.result.now ≡ second_block c.args.last =
    rw (padded.rest, padded.total) at (c.block.ensures.value (omega (arith, long, padded.count)))
    ∙ take_all 64 (second_block c.args.last) (omega (arith, long)) in
    rw block at c.sums_of.ensures
