use Rattle.std.proofs.Common.{◌≡◌, ◌∙◌, ℕ, List, [], ◌∷◌, ◌++◌, get_or, refl, sym, ap, subst, arith}
use Rattle.std.proofs.lemmas.List.{length_push}
use Rattle.executor.specs.Chains.{HasNone, Chain, extended}
use Rattle.executor.proofs.ChainFacts.{is-ok}
use Rattle.requests.specs.declared.request.Batch.{Batch}
use Rattle.tpcc_model.specs.Serial.{State}
use Rattle.embed.proofs.keep_granted.Goals as goal

first-of : (earlier : List State) (first last d : State) → earlier ≡ [] → get_or ((earlier ++ first ∷ []) ++ last ∷ []) 0 d ≡ first
first-of [] first last d none = refl
first-of (s ∷ earlier) first last d none = cc

-- a batch that was executed can be taken back
has-first : (old new : Chain) (batch : Batch) (n : ℕ) → old.earlier ≡ [] → new ≡ extended old batch → n ≡ old.present.sequence → HasNone n new → ⊥
has-first old new batch n alone chain is none =
    let after = (extended old batch).present in
    let here = subst (HasNone n) chain none in
    let size = length_push (old.earlier ++ old.present ∷ []) after in
    here 0 old.present (omega (arith, size)) (ap (λ (s : State). s.sequence) (first-of old.earlier old.present after old.present alone) ∙ sym is)

pub unwrap-requires-else-is_kept : goal.unwrap-requires-else-is_kept
unwrap-requires-else-is_kept g c =
    is-ok c.rollback_to.result c.rollback_to.ensures.none (has-first c.args.executor.now c.execute.new.self c.args.batch.now c.sequence-before.result c.requires.alone c.in_ok-record.ensures.chain c.sequence-before.ensures)
