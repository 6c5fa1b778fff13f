use Rattle.std.proofs.Common.{◌≡◌, ◌++◌, true, sym, ap, subst, ◌∙◌}
use Rattle.std.specs.FinMap as map
use Rattle.tpcc_rows.specs.Places.{are_in_order}
use Rattle.catalog.specs.CardMap.{Cards, IsBefore, IsBehind, card_key_cmp}
use Rattle.catalog.proofs.InOrder.{Entries, back-in_order, front-in_order, more-in_order, more-map, no-other, put-other}
use Rattle.catalog.proofs.rising.Rising.push_other.Goals as goal

pub is_behind-requires : goal.is_behind-requires
is_behind-requires c = subst (λ (es : Entries). are_in_order card_key_cmp es ≡ true) (sym c.deref.ensures.value) (front-in_order c.self.inside.others.items c.self.inside.items.items c.self.invariant)

pub is_before-requires : goal.is_before-requires
is_before-requires c = subst (λ (es : Entries). are_in_order card_key_cmp es ≡ true) (sym c.deref-else-not-is_behind.ensures.value) (back-in_order c.self.inside.others.items c.self.inside.items.items c.self.invariant)

pub invariant_of-self-2 : goal.invariant_of-self-2
invariant_of-self-2 c =
    let others = c.self.inside.others.items in
    let items = c.self.inside.items.items in
    let behind = subst (λ (es : Entries). IsBehind c.args.key es) c.deref.ensures.value (c.is_behind.ensures c.if-not-is_behind.false) in
    let before = subst (λ (es : Entries). IsBefore c.args.key es) c.deref-else-not-is_behind.ensures.value (c.is_before.ensures c.if-not-is_before.false) in
    more-in_order c.args.key c.args.card (others ++ items) _ c.self.invariant
    (put-other c.args.key c.args.card others items behind before ∙ ap (λ (es : Entries). es ++ items) (sym c.in_ok-push.ensures.items))

pub returns-clause-fresh : goal.returns-clause-fresh
returns-clause-fresh c = λ _.
    let others = c.self.inside.others.items in
    let items = c.self.inside.items.items in
    let behind = subst (λ (es : Entries). IsBehind c.args.key es) c.deref.ensures.value (c.is_behind.ensures c.if-not-is_behind.false) in
    let before = subst (λ (es : Entries). IsBefore c.args.key es) c.deref-else-not-is_behind.ensures.value (c.is_before.ensures c.if-not-is_before.false) in
    ap (λ (m : Cards). map.get m c.args.key) (sym c.self.view_is) ∙ no-other c.args.key others items c.self.invariant behind before

pub returns-clause-taken : goal.returns-clause-taken
returns-clause-taken c = λ _.
    let others = c.self.inside.others.items in
    let items = c.self.inside.items.items in
    let behind = subst (λ (es : Entries). IsBehind c.args.key es) c.deref.ensures.value (c.is_behind.ensures c.if-not-is_behind.false) in
    let before = subst (λ (es : Entries). IsBefore c.args.key es) c.deref-else-not-is_behind.ensures.value (c.is_before.ensures c.if-not-is_before.false) in
    more-map c.args.key c.args.card (others ++ items) _ c.self.invariant
    (put-other c.args.key c.args.card others items behind before ∙ ap (λ (es : Entries). es ++ items) (sym c.in_ok-push.ensures.items))
    ∙ ap (λ (m : Cards). map.insert m c.args.key c.args.card) c.self.view_is
