use Rattle.std.proofs.Common.{◌++◌, sym, ap, ◌∙◌}
use Rattle.std.specs.Prelude.{is_some}
use Rattle.tpcc_rows.proofs.Maps.{one_put}
use Rattle.catalog.specs.CardMap.{firsts}
use Rattle.catalog.proofs.CardKeys.{card_key_cmp_total, exact_cards}
use Rattle.catalog.proofs.Late.{Entries, brought, is-none, left-out, looked-up}
use Rattle.catalog.proofs.builder.with_earlier.Goals as goal

pub loop-key-preserved-in_ok-insert-3 : goal.loop-key-preserved-in_ok-insert-3
loop-key-preserved-in_ok-insert-3 c =
    let all = c.loop-key.all.entries in
    let none = is-none _ (ap is_some (sym (looked-up all c.in-Some.key)) ∙ sym c.contains_key.ensures ∙ c.if-not-contains_key.true) in
    brought all c.insert.new.self.entries c.next.new.self.rest.items c.in-Some.key c.in-Some.card none
    (one_put card_key_cmp_total exact_cards all c.insert.new.self.entries c.in-Some.key c.in-Some.card c.in_ok-insert.ensures.updates.0)
    ∙ ap (λ (es : Entries). firsts (all ++ es)) (sym c.in-Some.ensures.steps.0) ∙ c.loop-key.invariant

pub loop-key-preserved-else-not-contains_key : goal.loop-key-preserved-else-not-contains_key
loop-key-preserved-else-not-contains_key c =
    let all = c.loop-key.all.entries in
    let there = ap is_some (sym (looked-up all c.in-Some.key)) ∙ sym c.contains_key.ensures ∙ c.if-not-contains_key.false in
    sym (left-out all c.next.new.self.rest.items c.in-Some.key c.in-Some.card there)
    ∙ ap (λ (es : Entries). firsts (all ++ es)) (sym c.in-Some.ensures.steps.0) ∙ c.loop-key.invariant

pub loop-key-preserved : goal.loop-key-preserved
loop-key-preserved c =
    let all = c.loop-key.all.entries in
    let there = ap is_some (sym (looked-up all c.in-Some.key)) ∙ sym c.contains_key.ensures ∙ c.if-not-contains_key.false in
    sym (left-out all c.next.new.self.rest.items c.in-Some.key c.in-Some.card there)
    ∙ ap (λ (es : Entries). firsts (all ++ es)) (sym c.in-Some.ensures.steps.0) ∙ c.loop-key.invariant
