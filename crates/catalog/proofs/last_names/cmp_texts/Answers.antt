use Rattle.std.proofs.Common.{ap₂, ◌∙◌}
use Rattle.std.specs.Cmp.Lexicographic.{slice_cmp}
use Rattle.std.specs.Ordering.{nat_cmp}
use Rattle.catalog.proofs.NumberedTexts.{same_order}
use Rattle.catalog.proofs.last_names.cmp_texts.Goals as goal

pub returns : goal.returns
returns c =
    c.cmp.ensures ∙ ap₂ nat_cmp c.from_be_bytes.ensures c.from_be_bytes-2.ensures
    ∙ same_order c.as_padded-one.result.now c.as_padded-other.result.now c.as_padded-one.ensures.padded c.as_padded-other.ensures.padded
    ∙ ap₂ (slice_cmp nat_cmp) c.as_padded-one.ensures.value c.as_padded-other.ensures.value
