use Rattle.std.proofs.Common.{List, append_assoc, ◌∷◌, ◌++◌, [], sym, ap, subst, ◌∙◌, IsSome, None, ◌≡◌}
use Rattle.std.specs.Prelude.{is_some}
use Rattle.std.specs.FinMap as map
use Rattle.catalog.specs.declared.card.Card.{Card}
use Rattle.catalog.specs.CardKinds.{card_key}
use Rattle.catalog.specs.CardMap.{Cards, has_twins}
use Rattle.catalog.proofs.Keyed.{any-get, cards_of-more, has_twins-fresh, has_twins-seen}
use Rattle.catalog.proofs.cards.Catalog.new.Goals as goal

pub loop-card-preserved : goal.loop-card-preserved
loop-card-preserved c =
    let (so_far, apart, whole) = c.loop-card.invariant in
    let fresh = subst (λ (m : Cards). map.get m (card_key c.in-Some.card) ≡ None) so_far c.in_default.ensures.fresh in (
      c.in_default.ensures.ok ∙ ap (λ (m : Cards). map.insert m (card_key c.in-Some.card) c.in-Some.card) so_far ∙ sym (cards_of-more c.loop-card.yielded c.in-Some.card fresh),
      has_twins-fresh c.loop-card.yielded c.in-Some.card (any-get c.loop-card.yielded (card_key c.in-Some.card) ∙ ap is_some fresh) ∙ apart,
      whole ∙ ap (λ (t : List Card). c.loop-card.yielded ++ t) c.in-Some.ensures.steps.0 ∙ sym (append_assoc c.loop-card.yielded (c.in-Some.card ∷ []) c.next.new.self.rest.items),
    )

pub returns-in-Err-clause-twice : goal.returns-in-Err-clause-twice
returns-in-Err-clause-twice c =
    let (so_far, apart, whole) = c.loop-card.invariant in
    λ twice.
    let there = subst (λ (m : Cards). IsSome (map.get m (card_key c.in-Some.card))) so_far (c.in-Err.ensures.twice twice) in
    ap has_twins (whole ∙ ap (λ (t : List Card). c.loop-card.yielded ++ t) c.in-Some.ensures.steps.0)
    ∙ has_twins-seen c.loop-card.yielded c.in-Some.card c.next.new.self.rest.items (any-get c.loop-card.yielded (card_key c.in-Some.card) ∙ there)
