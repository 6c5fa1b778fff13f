use Rattle.std.proofs.Common.{List, sym, subst}
use Rattle.catalog.specs.declared.card.Card.{Card}
use Rattle.catalog.specs.declared.card.CardKey.{CardKey}
use Rattle.catalog.specs.CardMap.{AreKeyed, cards_in}
use Rattle.catalog.specs.LastNames.{customer_cards}
use Rattle.catalog.specs.NameOrder.{AreInOrder}
use Rattle.catalog.proofs.cards.Catalog.from_cards.Goals as goal

pub new-requires-clause-keyed : goal.new-requires-clause-keyed
new-requires-clause-keyed c = subst (λ (es : List (CardKey × Card)). AreKeyed (cards_in es)) (sym c.deref.ensures.value) c.requires.keyed

pub invariant_of-result : goal.invariant_of-result
invariant_of-result c = (c.requires.order, c.requires.keyed, subst (λ (es : List (CardKey × Card)). AreInOrder (customer_cards (cards_in es)) c.in_ok-names.names) c.deref.ensures.value c.in_ok-names.ensures)
