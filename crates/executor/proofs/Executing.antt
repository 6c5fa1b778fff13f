-- What an executor is left as by the execution of a batch.
use Rattle.std.proofs.Common.{◌≡◌, ◌∙◌, ◌+◌, ◌++◌, ℕ, List, [], ◌∷◌, ap, length, refl, subst, sym}
use Rattle.std.proofs.lemmas.List.Elements.{All-append}
use Rattle.std.specs.List.{All}
use Rattle.catalog.specs.CardMap.{Cards}
use Rattle.requests.specs.declared.request.Batch.{Batch}
use Rattle.tpcc_model.specs.Serial.{after_batch, batch_rows}
use Rattle.executor.specs.Executions.{IsRecordOf}
use Rattle.executor.specs.Laws.{BatchesKeep}
use Rattle.executor.specs.Chains.{IsKeptState, Chain, extended, state_of, states_of}
use Rattle.executor.specs.States.{AreWithinLimits, IsSoundState}
use Rattle.executor.specs.declared.engine.Engine.{Engine}
use Rattle.executor.specs.declared.path.Path.{Path}
use Rattle.executor.specs.declared.record.Record.{Record}
use Rattle.executor.specs.declared.stamp.Stamp.{Stamp}
use Rattle.executor.proofs.ChainFacts.{all-one, states_of-append}

abbrev pub chain_of : Engine → List Stamp → Stamp → Chain
chain_of engine stamps stamp = record { cards = engine.catalog; earlier = states_of engine.store.points stamps; present = state_of engine.store.rows stamp }

-- the engine was left so by a batch that met this stamp, whose record tells the stamp after it
pub record IsLeftBy (old new : Engine) (stamp now : Stamp) (batch : Batch) (how : Path) (r : Record) : Type 0 where
  pub told : IsRecordOf old.catalog (state_of old.store.rows stamp) batch how r
  pub rows : new.store.rows ≡ batch_rows old.catalog (state_of old.store.rows stamp) batch
  pub points : new.store.points ≡ old.store.points ++ old.store.rows ∷ []
  pub cards : new.catalog ≡ old.catalog
  pub next : now.next ≡ stamp.next + length batch.requests
  pub sequence : now.sequence ≡ r.sequence
  pub token : now.token ≡ r.token

pub left_by : (old new : Engine) (stamp : Stamp) (batch : Batch) (how : Path) (r : Record) (count : ℕ) → IsRecordOf old.catalog (state_of old.store.rows stamp) batch how r
    → new.store.rows ≡ batch_rows old.catalog (state_of old.store.rows stamp) batch → new.store.points ≡ old.store.points ++ old.store.rows ∷ [] → new.catalog ≡ old.catalog → count ≡ length batch.requests
    → IsLeftBy old new stamp (record { next = stamp.next + count; sequence = r.sequence; token = r.token }) batch how r
left_by old new stamp batch how r count told rows points cards counted =
    record { told = told; rows = rows; points = points; cards = cards; next = ap (λ (n : ℕ). stamp.next + n) counted; sequence = refl; token = refl }

module _ (old new : Engine) (stamp now : Stamp) (batch : Batch) (how : Path) (r : Record) (left : IsLeftBy old new stamp now batch how r) where
  present_after : state_of new.store.rows now ≡ after_batch old.catalog (state_of old.store.rows stamp) batch
  present_after =
      let sequence = left.sequence ∙ left.told.sequence in
      let token = left.token ∙ left.told.token in
      (λ i. record { rows = left.rows i; next = left.next i; sequence = sequence i; token = token i })

  pub chain_after : (stamps more : List Stamp) → length stamps ≡ length old.store.points → more ≡ stamps ++ stamp ∷ [] → chain_of new more now ≡ extended (chain_of old stamps stamp) batch
  chain_after stamps more same kept =
      let earlier : states_of new.store.points more ≡ states_of old.store.points stamps ++ state_of old.store.rows stamp ∷ [] =
      (λ i. states_of (left.points i) (kept i)) ∙ states_of-append old.store.points stamps old.store.rows stamp same in
      (λ i. record { cards = left.cards i; earlier = earlier i; present = present_after i })

  -- each of its points has a state within limits, as the present one was
  pub within_after : (stamps more : List Stamp) → length stamps ≡ length old.store.points → more ≡ stamps ++ stamp ∷ [] → All (IsKeptState old.catalog) (states_of old.store.points stamps) → IsKeptState old.catalog (state_of old.store.rows stamp)
      → All (IsKeptState new.catalog) (states_of new.store.points more)
  within_after stamps more same kept each present =
      let earlier : states_of new.store.points more ≡ states_of old.store.points stamps ++ state_of old.store.rows stamp ∷ [] =
      (λ i. states_of (left.points i) (kept i)) ∙ states_of-append old.store.points stamps old.store.rows stamp same in
      subst (λ (cards : Cards). All (IsKeptState cards) (states_of new.store.points more)) (sym left.cards)
      (subst (All (IsKeptState old.catalog)) (sym earlier) (All-append (IsKeptState old.catalog) (states_of old.store.points stamps) (state_of old.store.rows stamp ∷ []) each (all-one (IsKeptState old.catalog) (state_of old.store.rows stamp) present)))

  pub sound_after : BatchesKeep → IsSoundState old.catalog (state_of old.store.rows stamp) → AreWithinLimits batch.moment stamp.next batch.requests → IsSoundState new.catalog (state_of new.store.rows now)
  sound_after keep sound limits =
      subst (λ (cards : Cards). IsSoundState cards (state_of new.store.rows now)) (sym left.cards)
      (subst (IsSoundState old.catalog) (sym present_after) (keep old.catalog (state_of old.store.rows stamp) batch sound limits))
