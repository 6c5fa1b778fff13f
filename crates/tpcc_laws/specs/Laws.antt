-- Laws of the steps.
use Rattle.std.specs.Prelude.{◌≡◌, ◌⊎◌, ℕ}
use Rattle.std.specs.FinMap as map
use Rattle.serializability.specs.Footprints.{Has}
use Rattle.serializability.specs.Framed.{IsFramed}
use Rattle.catalog.specs.CardMap.{Cards}
use Rattle.requests.specs.declared.request.Request.{Request}
use Rattle.tpcc_model.specs.Database.{Database, database}
use Rattle.tpcc_model.specs.Machine.{tpcc}
use Rattle.tpcc_model.specs.Soundness.{IsSound}
use Rattle.tpcc_model.specs.Steps.{step}
use Rattle.tpcc_model.specs.Touches.{Agree, ArePlaced, touch}
use Rattle.tpcc_rows.specs.Changing.{after}
use Rattle.tpcc_rows.specs.Limits.{IsBetween}
use Rattle.tpcc_rows.specs.declared.id.TheConstants.{LAST_REQUEST}
use Rattle.tpcc_rows.specs.RowMap.{Rows}
use Rattle.tpcc_rows.specs.declared.granule.Granule.{Granule}
use Rattle.tpcc_rows.specs.declared.key.RowKey.TheVariants as key
use Rattle.tpcc_laws.specs.Requests.{IsRequest}

-- the history is the same, but for a row at this number
abbrev pub KeepsHistory : Rows → Rows → ℕ → Type 0
KeepsHistory old new number = (n : ℕ) → (n ≡ number) ⊎ (map.get new (key.History n) ≡ map.get old (key.History n))

pub record IsKeptSound (db : Database) (rows : Rows) (number : ℕ) : Type 0 where
  pub sound : IsSound (record db { rows = rows })
  pub history : KeepsHistory db.rows rows number

abbrev pub StepKeeps : Type 0
StepKeeps = (db : Database) (request : Request) (number moment : ℕ) → IsSound db → IsRequest request → IsBetween 1 LAST_REQUEST number → IsBetween 0 999999999999 moment
    → IsKeptSound db (after db.rows (step db request number moment).changes) number

-- what a request reads and writes is all that its step depends on and changes
pub record StepFrames : Type 0 where
  -- what is written is read too
  pub read_too : (db : Database) (request : Request) (g : Granule) → Has (touch db request).writes g → Has (touch db request).reads g
  -- where rows agree on what is read, the same is touched
  pub same_touch : (cards : Cards) (s t : Rows) (request : Request) → Agree s t (touch (database cards s) request).reads
      → touch (database cards t) request ≡ touch (database cards s) request
  -- and the same is replied and changed
  pub same_step : (cards : Cards) (s t : Rows) (request : Request) (number moment : ℕ) → Agree s t (touch (database cards s) request).reads
      → step (database cards t) request number moment ≡ step (database cards s) request number moment
  -- each changed key is in a written granule, or is that of the request's own row of HISTORY
  pub placed : (db : Database) (request : Request) (number moment : ℕ) → ArePlaced number (touch db request).writes (step db request number moment).changes

-- number and request are within their limits
abbrev pub Fits : ℕ → Request → Type 0
Fits number request = IsBetween 1 LAST_REQUEST number × IsRequest request

-- the transactions are such a machine as the theory of levels asks for, at each moment within its limits
abbrev pub IsFramedMachine : Type 0
IsFramedMachine = (cards : Cards) (moment : ℕ) → IsBetween 0 999999999999 moment → IsFramed (tpcc cards moment) (λ rows. IsSound (database cards rows)) Fits
