use Rattle.std.proofs.Common.{◌∙◌, ap, length, sym}
use Rattle.catalog.specs.Infos.{width_of}
use Rattle.catalog.proofs.Packing.{length-texts_within}
use Rattle.catalog.proofs.card.DistrictInfos.len.Goals as goal

pub returns-clause-value : goal.returns-clause-value
returns-clause-value c =
    let bytes = c.self.inside.texts.items in
    sym (length-texts_within 10 (width_of bytes) bytes) ∙ ap length c.self.view_is
