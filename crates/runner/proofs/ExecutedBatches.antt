-- A batch that was executed, and its record.
use Rattle.std.proofs.Common.{◌≡◌, ◌∙◌, ◌+◌, ◌++◌, ℕ, Bool, true, false, length, Some, None, inl, inr, refl, ap, subst}
use Rattle.std.specs.Prelude.{nat_lt, if◌then◌else◌}
use Rattle.std.proofs.lemmas.Bool.{cases_Bool, ltb-false}
use Rattle.serializability.proofs.Folding.{length-fold_replies}
use Rattle.catalog.specs.CardMap.{Cards}
use Rattle.executor.specs.Executions.{IsRecordOf, exhausts, refusal_for}
use Rattle.executor.specs.Chains.{Chain, extended}
use Rattle.executor.specs.Paths.{path_of}
use Rattle.executor.specs.States.{IsSoundState}
use Rattle.executor.specs.declared.next_batch.TheConstants.{LAST_NUMBER, MOST_REQUESTS}
use Rattle.executor.specs.declared.path.Path.{Path}
use Rattle.executor.specs.declared.record.Record.{Record}
use Rattle.executor.specs.declared.refusal.Refusal.TheVariants as refusal
use Rattle.requests.specs.declared.request.Batch.{Batch}
use Rattle.rollback.specs.declared.points.TheConstants.{POINTS}
use Rattle.runner.specs.Runs.{Completes, NumbersFit}
use Rattle.runner.specs.Text.{batch_record_text, batch_text, completed_text, replies_text}
use Rattle.tpcc_model.specs.Serial.{State}
use Rattle.tpcc_model.specs.Steps.{steps_at}
use Rattle.tpcc_rows.specs.declared.id.TheConstants.{END_OF_NUMBERS}

-- ---- admitted
-- where none of three reasons holds, the second doesn't
second_of : (long spent room : Bool) → (if long then Some refusal.BatchTooLong else if spent then Some refusal.NumbersExhausted else if room then None else Some refusal.PointsFull) ≡ None → spent ≡ false
second_of true spent room e = cc
second_of false true room e = cc
second_of false false room e = refl

fit_by : (state : State) (batch : Batch) → exhausts state batch ≡ false → NumbersFit state batch
fit_by state batch e = elim (cases_Bool (nat_lt LAST_NUMBER (state.sequence + 1))) [
  | inl past ↦ absurd (let yes : true ≡ false = rw past at e in cc)
  | inr sequence ↦ elim (cases_Bool (nat_lt END_OF_NUMBERS (state.next + length batch.requests))) [
    | inl past ↦ absurd (let yes : true ≡ false = rw (sequence, past) at e in cc)
    | inr next ↦ (ltb-false LAST_NUMBER (state.sequence + 1) sequence, ltb-false END_OF_NUMBERS (state.next + length batch.requests) next)
  ]
]

pub admitted_fits : (most : ℕ) (chain : Chain) (batch : Batch) → refusal_for most chain batch ≡ None → NumbersFit chain.present batch
admitted_fits most chain batch e = fit_by chain.present batch (second_of (nat_lt MOST_REQUESTS (length batch.requests)) (exhausts chain.present batch) (nat_lt (length chain.earlier) most) e)

pub completes : (old new : Chain) (batch : Batch) → refusal_for POINTS old batch ≡ None → new ≡ extended old batch → IsSoundState new.cards new.present → Completes old.cards old.present batch
completes old new batch admitted chain sound = (admitted_fits POINTS old batch admitted, subst (λ (l : Chain). IsSoundState l.cards l.present) chain sound)

-- ---- recorded
pub count_of_replies : (how : Path) (cards : Cards) (state : State) (batch : Batch) (r : Record) → IsRecordOf cards state batch how r → length r.replies.items ≡ length batch.requests
count_of_replies how cards state batch r is = ap length is.replies ∙ length-fold_replies (steps_at cards batch.moment) state.rows state.next batch.requests

-- the text of what was recorded is that of the batch
pub recorded_text : (cards : Cards) (state : State) (batch : Batch) (r : Record) → IsRecordOf cards state batch (path_of cards state batch) r
    → replies_text r.first r.replies.items ++ batch_record_text r.sequence r.path r.token ≡ batch_text cards state batch
unfolding batch_text
recorded_text cards state batch r is =
    (λ i. completed_text (record { sequence = is.sequence i; first = is.first i; replies = is.replies i; token = is.token i; path = is.path i }))
