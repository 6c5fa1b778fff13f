-- A batch in levels. Each request declares a footprint, predicted as the batch begins; by these the batch is cut into
-- levels, and each level is executed on the rows that the one before it left.
use Rattle.std.specs.Prelude.{◌≡◌, ◌<◌, ◌≤◌, ◌/◌, ℕ, Bool, List, length, Some, slice_get}
use Rattle.std.specs.List.Sorted.{IsStrictlyIncreasing}
use Rattle.serializability.specs.Footprints.{Footprint, Has}
use Rattle.serializability.specs.Levels as levels
use Rattle.serializability.specs.Levels.{Job}
use Rattle.serializability.specs.Signatures.{meets_by}
use Rattle.tpcc_model.specs.Database.{database}
use Rattle.tpcc_rows.specs.RowMap.{Rows}
use Rattle.tpcc_rows.specs.declared.granule.Granule.{Granule}
use Rattle.signatures_simd.specs.Bits.{bit}
use Rattle.catalog.specs.CardMap.{Cards}
use Rattle.requests.specs.declared.request.Batch.{Batch}
use Rattle.requests.specs.declared.request.Request.{Request}
use Rattle.requests.specs.declared.reply.Reply.{Reply}
use Rattle.tpcc_model.specs.Machine.{tpcc}
use Rattle.tpcc_model.specs.Serial.{State}
use Rattle.profiles.specs.Declarations.{declared}

-- ---- any footprints
-- one writes what the other reads or writes, by their bits
abbrev pub meets : Footprint Granule → Footprint Granule → Bool
meets = meets_by bit

-- the places of each level, in ascending order, by any numbers of granules
abbrev pub cut_by : (Granule → ℕ) → List (Footprint Granule) → List (List ℕ)
cut_by code footprints = levels.cut (levels.levels (meets_by code) footprints)

-- it is the cut by some numbers
abbrev pub IsCutBySome : List (Footprint Granule) → List (List ℕ) → Type 0
IsCutBySome footprints cut = (code : Granule → ℕ) × (cut ≡ cut_by code footprints)

-- a cut by some numbers has more levels than one for this many requests each
abbrev pub HaveTooManyLevels : ℕ → List (Footprint Granule) → Type 0
HaveTooManyLevels size footprints = (cut : List (List ℕ)) × IsCutBySome footprints cut × (length footprints / size < length cut)

-- a cut of `count` requests: each place is on one level, the places of a level ascend, and no level is empty
pub record IsCutOf (count : ℕ) (cut : List (List ℕ)) : Type 0 where
  pub there : (place : ℕ) → place < count → (level : ℕ) × (places : List ℕ) × (slice_get cut level ≡ Some places) × Has places place
  pub below : (level place : ℕ) (places : List ℕ) → slice_get cut level ≡ Some places → Has places place → place < count
  pub once : (k l place : ℕ) (ps qs : List ℕ) → slice_get cut k ≡ Some ps → slice_get cut l ≡ Some qs → Has ps place → Has qs place → k ≡ l
  pub rising : (level : ℕ) (places : List ℕ) → slice_get cut level ≡ Some places → IsStrictlyIncreasing places
  pub filled : (level : ℕ) (places : List ℕ) → slice_get cut level ≡ Some places → 1 ≤ length places
  pub short : (level : ℕ) (places : List ℕ) → slice_get cut level ≡ Some places → length places ≤ count

-- the requests of each level with their footprints and their numbers, the first of which is given
abbrev pub levels_by : (Granule → ℕ) → ℕ → List Request → List (Footprint Granule) → List (List (Job Granule Request))
levels_by code first requests footprints = levels.batch_levels (meets_by code) first requests footprints

-- ---- those that the requests of a batch declare
-- predicted as it begins
abbrev pub declared_footprints : Cards → State → Batch → List (Footprint Granule)
declared_footprints cards state batch = declared (database cards state.rows) batch.requests

abbrev pub declared_levels : (Granule → ℕ) → Cards → State → Batch → List (List (Job Granule Request))
declared_levels code cards state batch = levels_by code state.next batch.requests (declared_footprints cards state batch)

-- some request touches more than it declared, on the rows as its level begins
abbrev pub strays_by : (Granule → ℕ) → Cards → State → Batch → Bool
strays_by code cards state batch = levels.strays (tpcc cards batch.moment) state.rows (declared_levels code cards state batch)

-- so in the levels by the bits of signatures, of which the path speaks
abbrev pub strays : Cards → State → Batch → Bool
strays = strays_by bit

-- the replies of the requests in their levels, each with its number
abbrev pub replies_in_levels : (Granule → ℕ) → Cards → State → Batch → List (ℕ × Reply)
replies_in_levels code cards state batch = levels.run_replies (tpcc cards batch.moment) state.rows (declared_levels code cards state batch)

-- the rows that the last level leaves
abbrev pub rows_in_levels : (Granule → ℕ) → Cards → State → Batch → Rows
rows_in_levels code cards state batch = levels.run_rows (tpcc cards batch.moment) state.rows (declared_levels code cards state batch)
