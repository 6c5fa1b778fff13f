-- The value of an executor: the states that it can roll back to, and the present one.
use Rattle.std.specs.Prelude.{◌≡◌, ◌≢◌, ℕ, ◌≤◌, List, [], ◌∷◌, ◌++◌, drop, length, map, refl}
use Rattle.std.specs.List.{All, zip}
use Rattle.std.specs.Coded.{Coded, code_by, coded×, coded_list, coded_ℕ}
use Rattle.catalog.specs.CardMap.{Cards, cards_code}
use Rattle.requests.specs.declared.request.Batch.{Batch}
use Rattle.tpcc_model.specs.Serial.{State, after_batch, opening}
use Rattle.tpcc_rows.specs.Limits.{IsBetween}
use Rattle.tpcc_rows.specs.RowMap.{Rows, rows_code}
use Rattle.executor.specs.States.{IsSoundState}
use Rattle.executor.specs.declared.engine.Engine.{Engine}
use Rattle.executor.specs.declared.next_batch.TheConstants.{LAST_NUMBER}
use Rattle.executor.specs.declared.stamp.Stamp.{Stamp}
use Rattle.tpcc_rows.specs.declared.id.TheConstants.{END_OF_NUMBERS}

-- the cards; the last committed state and those after it, oldest first, without the present one; the present state
pub record Chain : Type 0 where
  pub cards : Cards
  pub earlier : List State
  pub present : State

abbrev pub state_code : Coded State
state_code = code_by (Rows × (ℕ × (ℕ × List ℕ))) (coded× rows_code (coded× coded_ℕ (coded× coded_ℕ (coded_list coded_ℕ))))
    (λ s. (s.rows, (s.next, (s.sequence, s.token))))
    (λ p. record { rows = p.0; next = p.1.0; sequence = p.1.1.0; token = p.1.1.1 }) (λ _. refl)

abbrev pub chain_code : Coded Chain
chain_code = code_by (Cards × (List State × State)) (coded× cards_code (coded× (coded_list state_code) state_code))
    (λ l. (l.cards, (l.earlier, l.present)))
    (λ p. record { cards = p.0; earlier = p.1.0; present = p.1.1 }) (λ _. refl)

abbrev pub state_of : Rows → Stamp → State
state_of rows stamp = record { rows = rows; next = stamp.next; sequence = stamp.sequence; token = stamp.token }

-- the states at points: their rows, with their stamps kept apart
abbrev pub states_of : List Rows → List Stamp → List State
states_of points stamps = map (λ kept. state_of kept.0 kept.1) (zip points stamps)

-- ---- from chain to chain
-- before any batch
abbrev pub opening_chain : Cards → Rows → Chain
opening_chain cards rows = record { cards = cards; earlier = []; present = opening cards rows }

-- after a batch
abbrev pub extended : Chain → Batch → Chain
extended chain batch = record { cards = chain.cards; earlier = chain.earlier ++ chain.present ∷ []; present = after_batch chain.cards chain.present batch }

-- after the oldest uncommitted batch was committed
abbrev pub committed : Chain → Chain
committed chain = record { cards = chain.cards; earlier = drop 1 chain.earlier; present = chain.present }

-- all states, the last committed one first
abbrev pub states : Chain → List State
states chain = chain.earlier ++ chain.present ∷ []

-- rolled back to the state with this number: it is the present one, and those after it are dropped
pub record IsReturned (sequence : ℕ) (old new : Chain) : Type 0 where
  pub cards : new.cards ≡ old.cards
  pub present : new.present.sequence ≡ sequence
  pub gone : (later : List State) × (states old ≡ states new ++ later)

-- no state has this number
abbrev pub HasNone : ℕ → Chain → Type 0
HasNone sequence chain = All (λ state. state.sequence ≢ sequence) (states chain)

-- ---- what an executor keeps of itself
-- of each state: it is sound, and its numbers are within their limits
pub record IsKeptState (cards : Cards) (state : State) : Type 0 where
  pub sound : IsSoundState cards state
  pub next_within : IsBetween 1 END_OF_NUMBERS state.next
  pub sequence_within : state.sequence ≤ LAST_NUMBER

-- and each point has its stamp
pub record IsExecutor (engine : Engine) (stamps : List Stamp) (stamp : Stamp) : Type 0 where
  pub stamped : length stamps ≡ length engine.store.points
  pub earlier : All (IsKeptState engine.catalog) (states_of engine.store.points stamps)
  pub present : IsKeptState engine.catalog (state_of engine.store.rows stamp)
