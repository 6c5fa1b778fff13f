-- What one last token of two runs says.
use Rattle.std.specs.Prelude.{◌≡◌, ◌⊎◌, ℕ, ◌+◌, ◌<◌, ◌≤◌, ◌^◌, All, List, [], ◌∷◌, length, sum_by, IsSomeAnd}
use Rattle.std.specs.List.{AllByRecursion}
use Rattle.catalog.specs.CardMap.{Cards}
use Rattle.requests.specs.declared.request.Batch.{Batch}
use Rattle.tpcc_laws.specs.Requests.{IsRequest}
use Rattle.tpcc_model.specs.Database.{Database}
use Rattle.tpcc_model.specs.Serial.{State, after_batch, next_number, opening, serial}
use Rattle.tpcc_model.specs.Soundness.{IsSound}
use Rattle.tpcc_rows.specs.Limits.{IsBetween}
use Rattle.tpcc_rows.specs.declared.id.TheConstants.{END_OF_NUMBERS}
use Rattle.token_laws.specs.Collisions.{IsCollision}
use Rattle.token_laws.specs.Covered.{Covered}
use Rattle.token_laws.specs.HashChains.{AreSameSince, collision_since}
use Rattle.token_laws.specs.States.{of_batch, of_opening}

-- ---- runs
-- the moment and the requests are within their limits
pub record IsBatch (batch : Batch) : Type 0 where
  pub moment : IsBetween 0 999999999999 batch.moment
  pub requests : All IsRequest batch.requests

-- how many requests batches have together
abbrev pub request_count : List Batch → ℕ
request_count batches = sum_by (λ batch. length batch.requests) batches

-- batches on a sound database, for which the numbers of batches and requests suffice
pub record IsRun (db : Database) (batches : List Batch) : Type 0 where
  pub sound : IsSound db
  pub batches_within : AllByRecursion IsBatch batches
  pub sequence : length batches < 2 ^ 64
  pub numbers : next_number db.rows + request_count batches ≤ END_OF_NUMBERS

-- the token after the last batch, or before any
abbrev pub last_token : Database → List Batch → List ℕ
last_token db batches = (serial db.cards (opening db.cards db.rows) batches).token

-- ---- what the tokens of a run cover, the newest first
-- from this state on, in front of those before
abbrev pub covered_from : Cards → State → List Batch → List Covered → List Covered
covered_from cards state [] earlier = earlier
covered_from cards state (batch ∷ batches) earlier = covered_from cards (after_batch cards state batch) batches (of_batch cards state batch ∷ earlier)

abbrev pub covered_by : Database → List Batch → List Covered
covered_by db batches = covered_from db.cards (opening db.cards db.rows) batches (of_opening db.cards db.rows ∷ [])

-- ---- the law
-- two runs have as many batches, and the same database before the first and after each one, the same replies and tokens
pub record AreSameRuns (a b : Database) (xs ys : List Batch) : Type 0 where
  pub count : length xs ≡ length ys
  pub same : AreSameSince (covered_by a xs) (covered_by b ys)

-- two runs with one last token are the same, or the search gives two different texts with one SHA-256
abbrev pub EqualRuns : Type 0
EqualRuns = (a b : Database) (xs ys : List Batch) → IsRun a xs → IsRun b ys → last_token a xs ≡ last_token b ys
    → AreSameRuns a b xs ys ⊎ IsSomeAnd (collision_since (covered_by a xs) (covered_by b ys)) IsCollision
