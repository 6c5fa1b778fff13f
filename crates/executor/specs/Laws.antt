-- Laws of execution out of order.
use Rattle.std.specs.Prelude.{◌≡◌, ◌≢◌, ◌≤◌, ◌<◌, ◌+◌, ℕ, false, List, [], ◌∷◌, length, map, take, Some, slice_get}
use Rattle.std.specs.FinMap.{find}
use Rattle.std.specs.Ordering.{nat_cmp}
use Rattle.serializability.specs.Folds.{after}
use Rattle.serializability.specs.Footprints.{Footprint, IsApart, IsWithin}
use Rattle.serializability.specs.Laws.{IsSerial, IsSwapped}
use Rattle.serializability.specs.Levels as levels
use Rattle.serializability.specs.Signatures.{meets_by}
use Rattle.tpcc_rows.specs.Limits.{IsBetween}
use Rattle.tpcc_rows.specs.declared.granule.Granule.{Granule}
use Rattle.catalog.specs.CardMap.{Cards}
use Rattle.requests.specs.declared.request.Batch.{Batch}
use Rattle.requests.specs.declared.request.Request.{Request}
use Rattle.tpcc_model.specs.Database.{Database, database}
use Rattle.tpcc_model.specs.Machine.{tpcc}
use Rattle.tpcc_model.specs.Serial.{State, after_batch, batch_replies, batch_rows, opening, serial}
use Rattle.tpcc_model.specs.Soundness.{IsSound}
use Rattle.tpcc_model.specs.Steps.{steps_at}
use Rattle.tpcc_model.specs.Touches.{touch}
use Rattle.transactions.specs.Laws.{Fits}
use Rattle.executor.specs.Calls.{Call, Executed, IsRecordOfEither, LeadOn, kept_after}
use Rattle.executor.specs.Executions.{IsRecordOf}
use Rattle.executor.specs.Headline.{Headline, all_serially, completed}
use Rattle.executor.specs.LevelRuns.{IsCutOf, cut_by, levels_by, replies_in_levels, rows_in_levels, strays_by}
use Rattle.executor.specs.Kept.{all_kept, none_kept, serial_chain}
use Rattle.executor.specs.Chains.{Chain, extended, opening_chain}
use Rattle.executor.specs.Paths.{path_of}
use Rattle.executor.specs.Runs.{IsRunOf}
use Rattle.executor.specs.States.{AreAllWithin, AreWithinLimits, IsSoundState}
use Rattle.executor.specs.declared.record.Record.{Record}
use Rattle.executor.specs.declared.run.RunEnd.{RunEnd}

-- two requests, each of which is within its footprint when it is stepped, where neither footprint writes what the other
-- reads: they may be stepped the other way round
abbrev pub RequestsSwap : Type 0
RequestsSwap = (db : Database) (moment m n : ℕ) (a b : Request) (e f : Footprint Granule)
    → IsSound db → IsBetween 0 999999999999 moment → Fits m a → Fits n b → m ≢ n
    → IsWithin (touch db a) e → IsWithin (touch (record db { rows = after (steps_at db.cards moment) db.rows m a }) b) f → IsApart e f
    → IsSwapped (tpcc db.cards moment) db.rows m a n b

-- executing levels gives the same as executing the requests in order, on a database that stays sound
pub record IsSerialRun (code : Granule → ℕ) (db : Database) (moment first : ℕ) (requests : List Request) (footprints : List (Footprint Granule)) : Type 0 where
  pub serial : IsSerial (tpcc db.cards moment) db.rows first requests (levels_by code first requests footprints)
  pub sound : IsSound (record db { rows = levels.run_rows (tpcc db.cards moment) db.rows (levels_by code first requests footprints) })

-- requests in the levels of any footprints, one for each, by any numbers of granules, in which none strays
abbrev pub LevelsAreSerial : Type 0
LevelsAreSerial = (code : Granule → ℕ) (db : Database) (moment first : ℕ) (requests : List Request) (footprints : List (Footprint Granule))
    → IsSound db → AreWithinLimits moment first requests → length footprints ≡ length requests
    → levels.strays (tpcc db.cards moment) db.rows (levels_by code first requests footprints) ≡ false
    → IsSerialRun code db moment first requests footprints

-- the levels of a batch have, place by place, the replies of its requests in order, and leave the same rows
pub record RunsAsSerial (code : Granule → ℕ) (cards : Cards) (state : State) (batch : Batch) : Type 0 where
  pub replies : (place : ℕ) → find nat_cmp (state.next + place) (replies_in_levels code cards state batch) ≡ slice_get (batch_replies cards state batch) place
  pub rows : rows_in_levels code cards state batch ≡ batch_rows cards state batch

-- by what the requests of a batch declare
abbrev pub DeclaredLevelsAreSerial : Type 0
DeclaredLevelsAreSerial = (code : Granule → ℕ) (cards : Cards) (state : State) (batch : Batch)
    → IsSound (database cards state.rows) → AreWithinLimits batch.moment state.next batch.requests
    → strays_by code cards state batch ≡ false → RunsAsSerial code cards state batch

-- a later request meets an earlier one from a higher level only: if i is before j, on the same level or a higher one, they
-- don't meet
abbrev pub MeetOnlyAbove : Type 0
MeetOnlyAbove = (code : Granule → ℕ) (footprints : List (Footprint Granule)) (i j : ℕ) (e f : Footprint Granule) (k l : ℕ) → i < j
    → slice_get footprints i ≡ Some e → slice_get footprints j ≡ Some f
    → slice_get (levels.levels (meets_by code) footprints) i ≡ Some k → slice_get (levels.levels (meets_by code) footprints) j ≡ Some l
    → l ≤ k → meets_by code e f ≡ false

-- footprints are cut so that each is there once
abbrev pub CutsAreWhole : Type 0
CutsAreWhole = (code : Granule → ℕ) (footprints : List (Footprint Granule)) → IsCutOf (length footprints) (cut_by code footprints)

-- the state of a sound database before any batch is sound
abbrev pub OpeningIsSound : Type 0
OpeningIsSound = (db : Database) → IsSound db → IsSoundState db.cards (opening db.cards db.rows)

-- a batch keeps a state sound, however it is executed
abbrev pub BatchesKeep : Type 0
BatchesKeep = (cards : Cards) (state : State) (batch : Batch) → IsSoundState cards state → AreWithinLimits batch.moment state.next batch.requests
    → IsSoundState cards (after_batch cards state batch)

-- ---- the headline
-- of every list of batches within their limits, as one thread completes them
abbrev pub SerialBatchesHaveHeadline : Type 0
SerialBatchesHaveHeadline = (cards : Cards) (start : State) (batches : List Batch) → IsSoundState cards start → AreAllWithin cards start batches
    → Headline cards start batches (all_serially cards start batches) (serial cards start batches)

-- of a batch that was executed, by whichever executor
abbrev pub ExecutionsHaveHeadline : Type 0
ExecutionsHaveHeadline = (old new : Chain) (batch : Batch) (r : Record)
    → IsSoundState old.cards old.present → AreWithinLimits batch.moment old.present.next batch.requests
    → IsRecordOf old.cards old.present batch (path_of old.cards old.present batch) r → new ≡ extended old batch
    → Headline old.cards old.present (batch ∷ []) (completed r ∷ []) new.present

-- of every run on a sound database
abbrev pub RunsHaveHeadline : Type 0
RunsHaveHeadline = (db : Database) (most : ℕ) (new : Chain) (batches : List Batch) (end : RunEnd)
    → IsSound db → AreAllWithin db.cards (opening db.cards db.rows) batches
    → IsRunOf most (opening_chain db.cards db.rows) new batches end
    → Headline db.cards (opening db.cards db.rows) batches (map completed end.records.items) new.present

-- ---- the chain of an executor
-- calls from this state on, which led to this chain
pub record IsSerialChain (cards : Cards) (start : State) (calls : List Call) (chain : Chain) : Type 0 where
  -- each state is the one that one thread leaves after the batches kept up to it
  pub states_as_serial : chain ≡ serial_chain cards start (kept_after start calls)
  -- each record is that of one thread, on the state after the batches kept when this one came
  pub records_as_serial : (count : ℕ) (batch : Batch) (r : Record) → slice_get calls count ≡ Some (Executed batch r)
      → IsRecordOfEither cards (serial cards start (all_kept (kept_after start (take count calls)))) batch r
  -- before the first call and after each of them the present state is sound
  pub sound : (count : ℕ) → count ≤ length calls → IsSoundState cards (serial cards start (all_kept (kept_after start (take count calls))))

-- whatever calls led to it from a single sound state
abbrev pub ChainsAreSerial : Type 0
ChainsAreSerial = (cards : Cards) (start : State) (calls : List Call) (chain : Chain) → IsSoundState cards start
    → LeadOn calls (serial_chain cards start none_kept) chain → IsSerialChain cards start calls chain
