use Rattle.std.proofs.Common.{◌≡◌, ◌++◌, sym, ap, subst, ◌∙◌}
use Rattle.std.specs.Prelude.{IfOk}
use Rattle.std.specs.FinMap as map
use Rattle.tpcc_rows.proofs.Places.{entries-map_of}
use Rattle.catalog.specs.CardMap.{AreKeyed, Cards, card_key_cmp, firsts}
use Rattle.catalog.proofs.Late.{Entries, none-left, over-none}
use Rattle.catalog.proofs.builder.CatalogBuilder.finish.Goals as goal

pub from_cards-requires-clause-keyed : goal.from_cards-requires-clause-keyed
from_cards-requires-clause-keyed c =
    let none = none-left c.self.inside.late.entries (c.is_empty.ensures.0 c.if-is_empty.true) in
    subst AreKeyed (over-none c.self.inside.late.entries c.self.inside.in_order none ∙ sym c.in_ok-cards.ensures.all) c.self.invariant

pub returns-then-is_empty-clause-cards : goal.returns-then-is_empty-clause-cards
returns-then-is_empty-clause-cards c =
    let none = none-left c.self.inside.late.entries (c.is_empty.ensures.0 c.if-is_empty.true) in
    let whole = c.in_ok-cards.ensures.all ∙ sym (over-none c.self.inside.late.entries c.self.inside.in_order none) ∙ c.self.view_is in
    subst (λ (m : Cards). IfOk c.from_cards.result (λ catalog. catalog ≡ m)) whole c.from_cards.ensures.cards

pub from_cards-requires-2-clause-keyed : goal.from_cards-requires-2-clause-keyed
from_cards-requires-2-clause-keyed c =
    let late = c.self.inside.late.entries in
    let cards = c.in_ok-cards.cards.items in
    let same = ap (λ (m : Cards). map.entries m) (sym c.in_ok-cards.ensures.all) ∙ entries-map_of card_key_cmp cards c.in_ok-cards.ensures.order in
    let whole = c.in_ok-moved.ensures.all ∙ c.in_ok-all.ensures ∙ ap (λ (es : Entries). firsts (late ++ es)) (sym same) in
    subst AreKeyed (sym whole) c.self.invariant

pub returns-clause-cards : goal.returns-clause-cards
returns-clause-cards c =
    let late = c.self.inside.late.entries in
    let cards = c.in_ok-cards.cards.items in
    let same = ap (λ (m : Cards). map.entries m) (sym c.in_ok-cards.ensures.all) ∙ entries-map_of card_key_cmp cards c.in_ok-cards.ensures.order in
    let whole = c.in_ok-moved.ensures.all ∙ c.in_ok-all.ensures ∙ ap (λ (es : Entries). firsts (late ++ es)) (sym same) in
    subst (λ (m : Cards). IfOk c.from_cards-2.result (λ catalog. catalog ≡ m)) (whole ∙ c.self.view_is) c.from_cards-2.ensures.cards
