use Rattle.std.proofs.Common.{sym, ap, subst, ◌∙◌}
use Rattle.std.specs.FinMap as map
use Rattle.tpcc_rows.proofs.Places.{entries-map_of}
use Rattle.catalog.specs.CardMap.{AreKeyed, card_key_cmp}
use Rattle.catalog.proofs.cards.Catalog.cards.Goals as goal

pub returns-clause-all : goal.returns-clause-all
returns-clause-all c = c.as_slice.ensures.value ∙ sym (entries-map_of card_key_cmp c.self.inside.cards.items c.self.invariant.0) ∙ ap (λ m. map.entries m) c.self.view_is

pub returns-clause-keyed : goal.returns-clause-keyed
returns-clause-keyed c = subst AreKeyed c.self.view_is c.self.invariant.1
