use Rattle.std.proofs.Common.{sym, ap, ap₂, subst, ◌∙◌}
use Rattle.std.specs.Option.{option_or}
use Rattle.std.specs.Prelude.{is_some}
use Rattle.std.specs.FinMap as map
use Rattle.catalog.specs.CardKinds.{card_key}
use Rattle.catalog.specs.CardMap.{AreKeyed, Cards, over}
use Rattle.catalog.proofs.Keyed.{keyed-insert}
use Rattle.catalog.proofs.Late.{get-over, is-none, kept, looked-up, over-next}
use Rattle.catalog.proofs.builder.CatalogBuilder.push.Goals as goal

pub invariant_of-self : goal.invariant_of-self
invariant_of-self c =
    let late = c.self.inside.late.entries in
    let m = c.self.inside.in_order in
    let k = c.key-key.result in
    let none = is-none _ (ap is_some (sym (looked-up late k)) ∙ sym c.contains_key.ensures ∙ c.if-contains_key.false) in
    kept c.push.result c.args.card m c.push.new.self (λ n. AreKeyed (over late n))
    (λ done. subst AreKeyed (sym (ap (over late) (c.push.ensures.taken done) ∙ over-next late m k c.args.card none)) (keyed-insert _ k c.args.card (sym c.key-key.ensures) c.self.invariant))
    c.push.ensures.back c.push.ensures.err c.self.invariant

pub returns-clause-fresh : goal.returns-clause-fresh
returns-clause-fresh c = λ done.
    let late = c.self.inside.late.entries in
    let m = c.self.inside.in_order in
    let k = c.key-key.result in
    let none = is-none _ (ap is_some (sym (looked-up late k)) ∙ sym c.contains_key.ensures ∙ c.if-contains_key.false) in
    sym (ap (λ q. map.get (over late m) q) c.key-key.ensures ∙ ap (λ (n : Cards). map.get n (card_key c.args.card)) c.self.view_is)
    ∙ get-over late m k ∙ ap₂ option_or none (c.push.ensures.fresh done)

pub returns-clause-taken : goal.returns-clause-taken
returns-clause-taken c = λ done.
    let late = c.self.inside.late.entries in
    let m = c.self.inside.in_order in
    let k = c.key-key.result in
    let none = is-none _ (ap is_some (sym (looked-up late k)) ∙ sym c.contains_key.ensures ∙ c.if-contains_key.false) in
    ap (over late) (c.push.ensures.taken done) ∙ over-next late m k c.args.card none ∙ ap (λ q. map.insert (over late m) q c.args.card) c.key-key.ensures
    ∙ ap (λ (n : Cards). map.insert n (card_key c.args.card) c.args.card) c.self.view_is
