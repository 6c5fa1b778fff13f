-- What a run that stores the image of its last state leaves. `old` and `new` are of the sink of the text, `empty` and `full` of the
-- sink of the image, before and after the run.
use Rattle.std.specs.Prelude.{◌≡◌, ◌⊎◌, ℕ, Bool, true, false, List, Result, Ok, Err}
use Rattle.std.specs.Io.KnownBytes.{Appends, Keeps}
use Rattle.catalog.specs.CardMap.{Cards}
use Rattle.loader.specs.Image.{image}
use Rattle.stored_image.specs.StoredImage.{image_text}
use Rattle.records.specs.Io.{AppendsFront}
use Rattle.requests.specs.Batches.{batches}
use Rattle.requests.specs.declared.request.Batch.{Batch}
use Rattle.runner.specs.Openings.{IsUnopened}
use Rattle.runner.specs.Runs.{Taken}
use Rattle.runner.specs.WholeRuns.{IsOfDatabase, LeavesBehind, RanFrom}
use Rattle.runner.specs.declared.fault.RunFault.{RunFault}
use Rattle.runner.specs.declared.fault.RunFault.TheVariants as run_fault
use Rattle.runner.specs.declared.store_fault.StoreFault.{StoreFault}
use Rattle.runner.specs.declared.store_fault.StoreFault.TheVariants as store_fault
use Rattle.runner.specs.declared.store_fault.StoredRunFault.{StoredRunFault}
use Rattle.runner.specs.declared.store_fault.StoredRunFault.TheVariants as stored_fault
use Rattle.tpcc_model.specs.Database.{Database, database}
use Rattle.tpcc_model.specs.Serial.{State, opening, serial}

-- the image of a state
abbrev pub state_image : Cards → State → List ℕ
state_image cards state = image_text (database cards state.rows)

-- the image of the state that one thread leaves after these batches
abbrev pub image_behind : Cards → State → List Batch → List ℕ
image_behind cards state done = state_image cards (serial cards state done)

-- and after all batches of a text
abbrev pub last_image : Cards → State → List ℕ → List ℕ
last_image cards state batch_bytes = image_behind cards state (batches batch_bytes).0

-- ---- the image is written
-- all batches were executed from the state on and written, and the image of the state that they leave
abbrev pub StoredFrom : Cards → State → List ℕ → Taken → Taken → Taken → Taken → ℕ → Type 0
StoredFrom cards state batch_bytes old new empty full count =
    RanFrom cards state batch_bytes old new count × Appends empty full (last_image cards state batch_bytes)

-- the same on a database
abbrev pub StoredOn : Database → List ℕ → Taken → Taken → Taken → Taken → ℕ → Type 0
StoredOn db batch_bytes old new empty full count = StoredFrom db.cards (opening db.cards db.rows) batch_bytes old new empty full count

-- an image loads as the database
abbrev pub StoredWhole : List ℕ → List ℕ → Taken → Taken → Taken → Taken → ℕ → Type 0
StoredWhole image_bytes batch_bytes old new empty full count =
    (db : Database) × (image image_bytes ≡ Ok db) × StoredOn db batch_bytes old new empty full count

-- ---- it isn't, or not completely
-- memory runs out before its first byte; or the sink fails after a prefix of it
abbrev pub LeavesStore : StoreFault → List ℕ → Taken → Taken → Type 0
LeavesStore store_fault.Memory text empty full = Keeps empty full
LeavesStore store_fault.Write text empty full = AppendsFront empty full text

-- ---- the run ended early
-- the image is stored all the same; but not if the output failed, since it is unknown how much of its text got through
abbrev pub StoresBehind : RunFault → List ℕ → Taken → Taken → Type 0
StoresBehind run_fault.Write text empty full = Keeps empty full
StoresBehind _ text empty full = Appends empty full text

-- it was to be stored, but wasn't, or not completely
abbrev pub LeavesBoth : RunFault → StoreFault → List ℕ → Taken → Taken → Type 0
LeavesBoth run_fault.Write e text empty full = ⊥
LeavesBoth _ e text empty full = LeavesStore e text empty full

-- the fault of the run is reported, and that of the image if there is one
abbrev pub StoredBehind : RunFault → StoredRunFault → List ℕ → Taken → Taken → Type 0
StoredBehind fault (stored_fault.Run e) text empty full = (e ≡ fault) × StoresBehind fault text empty full
StoredBehind fault (stored_fault.Store store) text empty full = ⊥
StoredBehind fault (stored_fault.Both e store) text empty full = (e ≡ fault) × LeavesBoth fault store text empty full

-- a run from a state ended early after some batches, and the image is that of the state that they leave, whose token was written last;
-- or it completed, and only the image wasn't written completely
abbrev pub LeavesStoredState : StoredRunFault → Cards → State → List ℕ → Taken → Taken → Taken → Taken → Type 0
LeavesStoredState (stored_fault.Run e) cards state batch_bytes old new empty full =
    (done : List Batch) × LeavesBehind e cards state batch_bytes done old new × StoresBehind e (image_behind cards state done) empty full
LeavesStoredState (stored_fault.Store e) cards state batch_bytes old new empty full =
    (count : ℕ) × RanFrom cards state batch_bytes old new count × LeavesStore e (last_image cards state batch_bytes) empty full
LeavesStoredState (stored_fault.Both e store) cards state batch_bytes old new empty full =
    (done : List Batch) × LeavesBehind e cards state batch_bytes done old new × LeavesBoth e store (image_behind cards state done) empty full

-- the same on a database
abbrev pub LeavesStoredDatabase : StoredRunFault → Database → List ℕ → Taken → Taken → Taken → Taken → Type 0
LeavesStoredDatabase fault db batch_bytes old new empty full =
    LeavesStoredState fault db.cards (opening db.cards db.rows) batch_bytes old new empty full

-- the faults of such a run on a database
abbrev pub IsOfStoredDatabase : StoredRunFault → Type 0
IsOfStoredDatabase (stored_fault.Run e) = IsOfDatabase e
IsOfStoredDatabase (stored_fault.Store e) = Unit {0}
IsOfStoredDatabase (stored_fault.Both e store) = IsOfDatabase e

-- what is left before any batch: the image can't be loaded, or there is no memory for an executor
abbrev pub LeavesUnopened : StoredRunFault → List ℕ → Taken → Taken → Taken → Taken → Type 0
LeavesUnopened (stored_fault.Run e) image_bytes old new empty full = IsUnopened e image_bytes × Keeps old new × Keeps empty full
LeavesUnopened _ image_bytes old new empty full = ⊥

-- what is left from the bytes of an image
abbrev pub LeavesStoredRun : StoredRunFault → List ℕ → List ℕ → Taken → Taken → Taken → Taken → Type 0
LeavesStoredRun fault image_bytes batch_bytes old new empty full =
    LeavesUnopened fault image_bytes old new empty full
    ⊎ ((db : Database) × (image image_bytes ≡ Ok db) × LeavesStoredDatabase fault db batch_bytes old new empty full)

-- ---- the stream that failed
-- one of the run, by what its own answer says
abbrev pub in_run : {A : Type 0} → (Result A RunFault → Bool) → Result A StoredRunFault → Bool
in_run fails (Ok a) = false
in_run fails (Err (stored_fault.Run e)) = fails (Err e)
in_run fails (Err (stored_fault.Store e)) = false
in_run fails (Err (stored_fault.Both e store)) = fails (Err e)

-- the sink of the image
abbrev pub is_store_write : {A : Type 0} → Result A StoreFault → Bool
is_store_write (Ok a) = false
is_store_write (Err store_fault.Write) = true
is_store_write (Err store_fault.Memory) = false

abbrev pub is_of_tables : StoredRunFault → Bool
is_of_tables (stored_fault.Run e) = false
is_of_tables (stored_fault.Store store_fault.Write) = true
is_of_tables (stored_fault.Store store_fault.Memory) = false
is_of_tables (stored_fault.Both e store_fault.Write) = true
is_of_tables (stored_fault.Both e store_fault.Memory) = false

abbrev pub in_store : {A : Type 0} → Result A StoredRunFault → Bool
in_store (Ok a) = false
in_store (Err e) = is_of_tables e
