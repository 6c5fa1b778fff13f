use Rattle.std.proofs.Common.{◌≡◌, ◌||◌, true, sym, ap, subst, ◌∙◌}
use Rattle.std.specs.Prelude.{is_some}
use Rattle.std.specs.FinMap as map
use Rattle.tpcc_rows.specs.Places.{are_in_order}
use Rattle.catalog.specs.CardMap.{Cards, card_key_cmp, cards_in}
use Rattle.catalog.proofs.InOrder.{Entries, back-in_order, front-in_order, has-both}
use Rattle.catalog.proofs.rising.Rising.has.Goals as goal

pub has-requires : goal.has-requires
has-requires c = subst (λ (es : Entries). are_in_order card_key_cmp es ≡ true) (sym c.deref.ensures.value) (front-in_order c.self.inside.others.items c.self.inside.items.items c.self.invariant)

pub has-requires-else-has : goal.has-requires-else-has
has-requires-else-has c = subst (λ (es : Entries). are_in_order card_key_cmp es ≡ true) (sym c.deref-else-has.ensures.value) (back-in_order c.self.inside.others.items c.self.inside.items.items c.self.invariant)

pub returns-then-has : goal.returns-then-has
returns-then-has c =
    let others = c.self.inside.others.items in
    let items = c.self.inside.items.items in
    let there = ap (λ (es : Entries). is_some (map.get (cards_in es) c.args.key.now)) (sym c.deref.ensures.value) ∙ sym c.has.ensures ∙ c.if-has.true in
    c.if-has.true ∙ sym (ap (λ (m : Cards). is_some (map.get m c.args.key.now)) (sym c.self.view_is) ∙ has-both c.args.key.now others items c.self.invariant
    ∙ ap (λ b. b || is_some (map.get (cards_in items) c.args.key.now)) there)

pub returns-else-has : goal.returns-else-has
returns-else-has c =
    let others = c.self.inside.others.items in
    let items = c.self.inside.items.items in
    let absent = ap (λ (es : Entries). is_some (map.get (cards_in es) c.args.key.now)) (sym c.deref.ensures.value) ∙ sym c.has.ensures ∙ c.if-has.false in
    c.has-else-has.ensures ∙ ap (λ (es : Entries). is_some (map.get (cards_in es) c.args.key.now)) c.deref-else-has.ensures.value
    ∙ sym (ap (λ (m : Cards). is_some (map.get m c.args.key.now)) (sym c.self.view_is) ∙ has-both c.args.key.now others items c.self.invariant
    ∙ ap (λ b. b || is_some (map.get (cards_in items) c.args.key.now)) absent)
