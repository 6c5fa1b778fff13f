use Rattle.std.proofs.Common.{refl, sym, ap, subst, ◌∙◌}
use Rattle.std.specs.Prelude.{is_some}
use Rattle.std.specs.FinMap as map
use Rattle.catalog.specs.CardKinds.{card_key}
use Rattle.catalog.specs.CardMap.{AreKeyed, Cards, over}
use Rattle.catalog.proofs.Keyed.{keyed-insert}
use Rattle.catalog.proofs.Late.{Entries, looked-up, over-updated, twin-in_order, twin-late}
use Rattle.catalog.proofs.builder.CatalogBuilder.insert.Goals as goal
use Rattle.catalog.proofs.builder.CatalogBuilder.insert.Goals.{then-contains_key, else-contains_key}

pub invariant_of-self : goal.invariant_of-self
invariant_of-self c = subst (λ (es : Entries). AreKeyed (over es c.self.inside.in_order)) (sym c.in_err-insert.ensures.err) c.self.invariant

pub invariant_of-self-2 : goal.invariant_of-self-2
invariant_of-self-2 c =
    let put = over-updated c.self.inside.late.entries c.insert.new.self.entries c.self.inside.in_order c.key-key.result (card_key c.args.card) c.args.card c.key-key.ensures c.in_ok-insert.ensures.updates.0 in
    subst AreKeyed (sym put) (keyed-insert _ (card_key c.args.card) c.args.card refl c.self.invariant)

pub returns-clause-ok : goal.returns-clause-ok
returns-clause-ok c =
    over-updated c.self.inside.late.entries c.insert.new.self.entries c.self.inside.in_order c.key-key.result (card_key c.args.card) c.args.card c.key-key.ensures c.in_ok-insert.ensures.updates.0
    ∙ ap (λ (m : Cards). map.insert m (card_key c.args.card) c.args.card) c.self.view_is

pub returns-clause-twin : goal.returns-clause-twin
returns-clause-twin c =
    let late = c.self.inside.late.entries in
    let m = c.self.inside.in_order in
    let k = c.key-key.result in
    let said = ap (λ q. is_some (map.get (over late m) q)) c.key-key.ensures ∙ ap (λ (n : Cards). is_some (map.get n (card_key c.args.card))) c.self.view_is in
    let found = ap is_some (sym (looked-up late k)) ∙ sym c.contains_key.ensures in
    elim c.if-contains_key.branch [
      | then-contains_key w ↦ w.is_twin-is ∙ w.if-contains_key.true ∙ sym (twin-late late m k (found ∙ w.if-contains_key.true)) ∙ said
      | else-contains_key w ↦ w.is_twin-is ∙ w.has-is_twin.ensures ∙ sym (twin-in_order late m k (found ∙ w.if-contains_key.false)) ∙ said
    ]
