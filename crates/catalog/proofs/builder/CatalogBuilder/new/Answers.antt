use Rattle.std.proofs.Common.{refl, sym, subst, ◌∙◌}
use Rattle.catalog.specs.CardMap.{AreKeyed}
use Rattle.catalog.proofs.Keyed.{keyed-none}
use Rattle.catalog.proofs.Late.{over-none}
use Rattle.catalog.proofs.builder.CatalogBuilder.new.Goals as goal

pub invariant_of-result : goal.invariant_of-result
invariant_of-result c = subst AreKeyed (sym (over-none _ _ c.new-2.ensures.empty ∙ c.new.ensures)) (keyed-none _ refl)

pub returns : goal.returns
returns c = over-none _ _ c.new-2.ensures.empty ∙ c.new.ensures
