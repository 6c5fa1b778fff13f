-- The headline of records that are those of a run.
use Rattle.std.proofs.Common.{◌≡◌, ◌⊎◌, inl, inr, ℕ, zero, suc, ◌+◌, ◌≤◌, List, [], ◌∷◌, length, map, take, Result, Ok, Err, IfOk, OnOk, refl, sym, ap, subst, ◌∙◌, arith}
use Rattle.std.proofs.lemmas.List.{length-map, take_all}
use Rattle.catalog.specs.CardMap.{Cards}
use Rattle.requests.specs.declared.request.Batch.{Batch}
use Rattle.tpcc_model.specs.Database.{Database, database}
use Rattle.tpcc_model.specs.Serial.{State, after_batch, opening, serial}
use Rattle.tpcc_model.specs.Soundness.{IsSound}
use Rattle.executor.specs.Executions.{IsRecordOf}
use Rattle.executor.specs.Headline.{Headline, MeetsConditions, all_serially, completed, completed_serially}
use Rattle.executor.specs.Laws.{BatchesKeep, ExecutionsHaveHeadline, OpeningIsSound, RunsHaveHeadline, SerialBatchesHaveHeadline}
use Rattle.executor.specs.Chains.{Chain, extended, opening_chain}
use Rattle.executor.specs.Paths.{path_of}
use Rattle.executor.specs.Runs.{AreRecordsOf, chain_after}
use Rattle.executor.specs.States.{AreAllWithin, IsSoundState}
use Rattle.executor.specs.declared.record.Record.{Record}
use Rattle.executor.specs.declared.refusal.Refusal.{Refusal}

meets_conditions : (db : Database) → IsSound db → MeetsConditions db.rows
meets_conditions db sound = record { condition_1 = sound.condition_1; conditions_2_to_4 = sound.districts }

one_as_serial : (cards : Cards) (state : State) (batch : Batch) (r : Record) → IsRecordOf cards state batch (path_of cards state batch) r → completed r ≡ completed_serially cards state batch
one_as_serial cards state batch r is =
    (λ i. record { sequence = is.sequence i; first = is.first i; replies = is.replies i; token = is.token i; path = is.path i })

records_as_serial : (cards : Cards) (state : State) (batches : List Batch) (records : List Record) → AreRecordsOf cards state batches records
    → map completed records ≡ all_serially cards state (take (length records) batches)
records_as_serial cards state [] [] are = refl
records_as_serial cards state [] (r ∷ records) are = absurd are
records_as_serial cards state (batch ∷ batches) [] are = refl
records_as_serial cards state (batch ∷ batches) (r ∷ records) are =
    let here = one_as_serial cards state batch r are.0 in
    let rest = records_as_serial cards (after_batch cards state batch) batches records are.1 in
    (λ i. here i ∷ rest i)

-- records that are those of a run, on states that are sound
pub headline_of : (cards : Cards) (start : State) (batches : List Batch) (records : List Record) (present : State) → AreRecordsOf cards start batches records → present ≡ serial cards start (take (length records) batches)
    → ((count : ℕ) → count ≤ length records → IsSoundState cards (serial cards start (take count batches))) → Headline cards start batches (map completed records) present
headline_of cards start batches records present are left sound =
    let counted : length records ≡ length (map completed records) = sym (length-map records completed) in
    let within : (count : ℕ) → count ≤ length (map completed records) → count ≤ length records = λ count low. omega (arith, low, counted) in
    record {
      batches_as_serial = records_as_serial cards start batches records are ∙ ap (λ n. all_serially cards start (take n batches)) counted;
      state_as_serial = left ∙ ap (λ n. serial cards start (take n batches)) counted;
      sound = λ count low. (sound count (within count low)).database;
      conditions = λ count low. let db : Database = database cards (serial cards start (take count batches)).rows in meets_conditions db (sound count (within count low)).database;
    }

-- one batch that was executed
pub headline_of_one : (old new : Chain) (batch : Batch) (r : Record) → IsRecordOf old.cards old.present batch (path_of old.cards old.present batch) r → new ≡ extended old batch
    → IsSoundState old.cards old.present → IsSoundState new.cards new.present → Headline old.cards old.present (batch ∷ []) (completed r ∷ []) new.present
headline_of_one old new batch r is chain sound sound_after =
    headline_of old.cards old.present (batch ∷ []) (r ∷ []) new.present (is, tt) (ap (λ (l : Chain). l.present) chain) each
  where
    each : (count : ℕ) → count ≤ 1 → IsSoundState old.cards (serial old.cards old.present (take count (batch ∷ [])))
    each zero low = sound
    each (suc zero) low = subst (λ (l : Chain). IsSoundState l.cards l.present) chain sound_after
    each (suc (suc n)) low = absurd (omega (arith, low))

pub headline_if_ok : (old new : Chain) (batch : Batch) (result : Result Record Refusal) → IfOk result (IsRecordOf old.cards old.present batch (path_of old.cards old.present batch)) → OnOk result (new ≡ extended old batch)
    → IsSoundState old.cards old.present → IsSoundState new.cards new.present → IfOk result (λ r. Headline old.cards old.present (batch ∷ []) (completed r ∷ []) new.present)
headline_if_ok old new batch (Ok r) is chain sound sound_after = headline_of_one old new batch r is chain sound sound_after
headline_if_ok old new batch (Err e) is chain sound sound_after = tt

-- batches within their limits keep each state sound
pub each_state_sound : BatchesKeep → (cards : Cards) (start : State) (batches : List Batch) → IsSoundState cards start → AreAllWithin cards start batches
    → (count : ℕ) → IsSoundState cards (serial cards start (take count batches))
each_state_sound keep cards start [] sound within zero = sound
each_state_sound keep cards start [] sound within (suc count) = sound
each_state_sound keep cards start (batch ∷ batches) sound within zero = sound
each_state_sound keep cards start (batch ∷ batches) sound within (suc count) =
    each_state_sound keep cards (after_batch cards start batch) batches (keep cards start batch sound within.0) within.1 count

-- ---- a run
present_after : (chain : Chain) (done : List Batch) → (chain_after chain done).present ≡ serial chain.cards chain.present done
present_after chain [] = refl
present_after chain (batch ∷ done) = refl

sound_after : (chain : Chain) (done : List Batch) → IsSoundState (chain_after chain done).cards (chain_after chain done).present → IsSoundState chain.cards (serial chain.cards chain.present done)
sound_after chain [] sound = sound
sound_after chain (batch ∷ done) sound = sound

pub headline_of_chain : (old new : Chain) (batches : List Batch) (records : List Record) → AreRecordsOf old.cards old.present batches records → new ≡ chain_after old (take (length records) batches)
    → ((count : ℕ) → count ≤ length records → IsSoundState old.cards (serial old.cards old.present (take count batches))) → Headline old.cards old.present batches (map completed records) new.present
headline_of_chain old new batches records are chain sound =
    headline_of old.cards old.present batches records new.present are (ap (λ (l : Chain). l.present) chain ∙ present_after old (take (length records) batches)) sound

-- no batch
pub sound_before : (cards : Cards) (start : State) (batches : List Batch) → IsSoundState cards start → (count : ℕ) → count ≤ 0 → IsSoundState cards (serial cards start (take count batches))
sound_before cards start [] sound zero low = sound
sound_before cards start [] sound (suc count) low = sound
sound_before cards start (batch ∷ batches) sound zero low = sound
sound_before cards start (batch ∷ batches) sound (suc count) low = absurd (omega (arith, low))

pub headline_of_none : (chain : Chain) (batches : List Batch) (records : List Record) → records ≡ [] → IsSoundState chain.cards chain.present → Headline chain.cards chain.present batches (map completed records) chain.present
headline_of_none chain batches records none sound =
    subst (λ (rs : List Record). Headline chain.cards chain.present batches (map completed rs) chain.present) (sym none)
    (headline_of chain.cards chain.present batches [] chain.present (no_records batches) (left batches) (sound_before chain.cards chain.present batches sound))
  where
    no_records : (bs : List Batch) → AreRecordsOf chain.cards chain.present bs []
    no_records [] = tt
    no_records (b ∷ bs) = tt

    left : (bs : List Batch) → chain.present ≡ serial chain.cards chain.present (take 0 bs)
    left [] = refl
    left (b ∷ bs) = refl

-- one batch more
pub sound_more : (old new : Chain) (batches : List Batch) (i : ℕ) → new ≡ chain_after old (take (i + 1) batches) → IsSoundState new.cards new.present
    → ((count : ℕ) → count ≤ i → IsSoundState old.cards (serial old.cards old.present (take count batches)))
    → (count : ℕ) → count ≤ i + 1 → IsSoundState old.cards (serial old.cards old.present (take count batches))
sound_more old new batches i chain sound each count low =
    let either : (count ≤ i) ⊎ (i + 1 ≡ count) = grind (arith, low) in
    elim either [
      | inl before ↦ each count before
      | inr here ↦
          subst (λ n. IsSoundState old.cards (serial old.cards old.present (take n batches))) here
          (sound_after old (take (i + 1) batches) (subst (λ (l : Chain). IsSoundState l.cards l.present) chain sound))
    ]

length-all_serially : (cards : Cards) (state : State) (batches : List Batch) → length (all_serially cards state batches) ≡ length batches
length-all_serially cards state [] = refl
length-all_serially cards state (batch ∷ batches) = ap suc (length-all_serially cards (after_batch cards state batch) batches)

-- ---- batches as one thread completes them
-- on states that are sound
pub headline_where_sound : (cards : Cards) (start : State) (batches : List Batch) → ((count : ℕ) → count ≤ length batches → IsSoundState cards (serial cards start (take count batches)))
    → Headline cards start batches (all_serially cards start batches) (serial cards start batches)
headline_where_sound cards start batches each =
    let counted = length-all_serially cards start batches in
    let all : take (length (all_serially cards start batches)) batches ≡ batches = ap (λ n. take n batches) counted ∙ take_all (length batches) batches (omega arith) in
    let within : (count : ℕ) → count ≤ length (all_serially cards start batches) → count ≤ length batches = λ count low. omega (arith, low, counted) in
    record {
      batches_as_serial = ap (all_serially cards start) (sym all);
      state_as_serial = ap (serial cards start) (sym all);
      sound = λ count low. (each count (within count low)).database;
      conditions = λ count low. let db : Database = database cards (serial cards start (take count batches)).rows in meets_conditions db (each count (within count low)).database;
    }

-- ---- the law
pub serial_batches_have_headline : BatchesKeep → SerialBatchesHaveHeadline
serial_batches_have_headline keep cards start batches sound within =
    headline_where_sound cards start batches (λ count low. each_state_sound keep cards start batches sound within count)

pub executions_have_headline : BatchesKeep → ExecutionsHaveHeadline
executions_have_headline keep old new batch r sound within is chain =
    headline_of_one old new batch r is chain sound (subst (λ (l : Chain). IsSoundState l.cards l.present) (sym chain) (keep old.cards old.present batch sound within))

pub runs_have_headline : OpeningIsSound → BatchesKeep → RunsHaveHeadline
runs_have_headline opened keep db most new batches end sound within run =
    headline_of_chain (opening_chain db.cards db.rows) new batches end.records.items run.records run.chain
    (λ count low. each_state_sound keep db.cards (opening db.cards db.rows) batches (opened db sound) within count)
