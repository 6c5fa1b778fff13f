use Rattle.std.proofs.Common.{◌≤◌, ◌∙◌, arith, length}
use Rattle.tpcc_rows.proofs.Clips.{clip_all}
use Rattle.catalog.proofs.card.DistrictInfos.text_at.Goals as goal

pub returns-in-None : goal.returns-in-None
returns-in-None c =
    let text = c.unpadded.result.now in
    let padded = c.padded_at-padded.ensures in
    let fits : length text ≤ 24 = rw c.unpadded.ensures (omega (arith, padded.padded.text.fits, padded.fits)) in
    c.from_start.ensures ∙ clip_all 24 text fits ∙ c.unpadded.ensures ∙ padded.value
