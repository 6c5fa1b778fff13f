-- Sound states, and batches that can be executed on them.
use Rattle.std.specs.Prelude.{ℕ, ◌+◌, ◌<◌, ◌≤◌, IsSome, List, [], ◌∷◌, length}
use Rattle.std.specs.FinMap as map
use Rattle.std.specs.List.{All}
use Rattle.tpcc_model.specs.Database.{database}
use Rattle.tpcc_rows.specs.Limits.{IsBetween}
use Rattle.tpcc_rows.specs.RowMap.{Rows}
use Rattle.tpcc_rows.specs.declared.key.RowKey.TheVariants as key
use Rattle.catalog.specs.CardMap.{Cards}
use Rattle.requests.specs.declared.request.Batch.{Batch}
use Rattle.requests.specs.declared.request.Request.{Request}
use Rattle.tpcc_model.specs.Serial.{State, after_batch}
use Rattle.tpcc_model.specs.Soundness.{IsSound}
use Rattle.transactions.specs.Requests.{IsRequest}
use Rattle.tpcc_rows.specs.declared.id.TheConstants.{END_OF_NUMBERS}

-- each row of HISTORY has a number below this one
abbrev pub HasHistoryBelow : Rows → ℕ → Type 0
HasHistoryBelow rows next = (n : ℕ) → IsSome (map.get rows (key.History n)) → n < next

-- the database is sound, and the numbers of HISTORY are those of past requests
pub record IsSoundState (cards : Cards) (state : State) : Type 0 where
  pub database : IsSound (database cards state.rows)
  pub history : HasHistoryBelow state.rows state.next

-- the moment, the requests and their numbers, from this first one on, are within their limits
pub record AreWithinLimits (moment first : ℕ) (requests : List Request) : Type 0 where
  pub moment_within : IsBetween 0 999999999999 moment
  pub each_request : All IsRequest requests
  pub first_number : 1 ≤ first
  pub last_number : first + length requests ≤ END_OF_NUMBERS

-- each of the batches is within its limits, on the state that those before it leave
abbrev pub AreAllWithin : Cards → State → List Batch → Type 0
AreAllWithin cards state [] = Unit {0}
AreAllWithin cards state (batch ∷ batches) = AreWithinLimits batch.moment state.next batch.requests × AreAllWithin cards (after_batch cards state batch) batches
