-- What a run leaves, from the bytes of an image and of batches.
use Rattle.std.specs.Prelude.{◌≡◌, ◌⊎◌, ℕ, ◌<◌, Bool, true, false, List, [], length, Result, Ok, Err}
use Rattle.std.specs.Io.KnownBytes.{Keeps}
use Rattle.loader.specs.Image.{image}
use Rattle.image_records.specs.declared.fault.LoadError.{LoadError}
use Rattle.image_records.specs.declared.fault.LoadError.TheVariants as load_error
use Rattle.requests.specs.Batches.{batches}
use Rattle.requests.specs.declared.request.Batch.{Batch}
use Rattle.records.specs.declared.fault.ReadError.{ReadError}
use Rattle.records.specs.declared.fault.ReadError.TheVariants as read_error
use Rattle.runner.specs.Runs.{Left, Ran, Taken, chain_on}
use Rattle.runner.specs.declared.fault.RunFault.{RunFault}
use Rattle.runner.specs.declared.fault.RunFault.TheVariants as run_fault
use Rattle.catalog.specs.CardMap.{Cards}
use Rattle.executor.specs.Chains.{Chain}
use Rattle.tpcc_model.specs.Database.{Database}
use Rattle.tpcc_model.specs.Serial.{State, opening}

-- what a state leads to by the batches of a text, each of which was committed
abbrev pub chain_after : Cards → State → List ℕ → Chain
chain_after cards state batch_bytes = chain_on cards state (batches batch_bytes).0

-- all batches were executed from the state on and written, and no fault came after them
abbrev pub RanFrom : Cards → State → List ℕ → Taken → Taken → ℕ → Type 0
RanFrom cards state batch_bytes old new count = Ran cards state (batches batch_bytes) old new count

-- the same on a database
abbrev pub RanOn : Database → List ℕ → Taken → Taken → ℕ → Type 0
RanOn db batch_bytes old new count = RanFrom db.cards (opening db.cards db.rows) batch_bytes old new count

-- the image loads as a database, on which all batches were executed
abbrev pub RanWhole : List ℕ → List ℕ → Taken → Taken → ℕ → Type 0
RanWhole image_bytes batch_bytes old new count = (db : Database) × (image image_bytes ≡ Ok db) × RanOn db batch_bytes old new count

-- the image's own fault, or one in reading its bytes
abbrev pub IsImageFault : LoadError → List ℕ → Type 0
IsImageFault e image_bytes =
    (e ≡ load_error.Memory) ⊎ (e ≡ load_error.Read) ⊎ ((e ≡ load_error.InputTooLong) × (4294967295 < length image_bytes)) ⊎ (image image_bytes ≡ Err e)

-- a fault in reading the bytes of the batches
abbrev pub IsInputFault : ReadError → List ℕ → Type 0
IsInputFault e batch_bytes = (e ≡ read_error.Memory) ⊎ (e ≡ read_error.Read) ⊎ ((e ≡ read_error.InputTooLong) × (1073741824 < length batch_bytes))

-- what a run from a state leaves that ended early after these batches
abbrev pub LeavesBehind : RunFault → Cards → State → List ℕ → List Batch → Taken → Taken → Type 0
LeavesBehind (run_fault.Read e) cards state batch_bytes done old new =
    (IsInputFault e batch_bytes × (done ≡ []) × Keeps old new)
    ⊎ Left (run_fault.Read e) cards state (batches batch_bytes) done old new
LeavesBehind fault cards state batch_bytes done old new = Left fault cards state (batches batch_bytes) done old new

-- what a run from a state leaves that ended early
abbrev pub LeavesState : RunFault → Cards → State → List ℕ → Taken → Taken → Type 0
LeavesState fault cards state batch_bytes old new = (done : List Batch) × LeavesBehind fault cards state batch_bytes done old new

-- the same, and the chain with which its executor is left, on which each of those batches was committed
abbrev pub LeavesChain : RunFault → Cards → State → List ℕ → Taken → Taken → Chain → Type 0
LeavesChain fault cards state batch_bytes old new chain =
    (done : List Batch) × LeavesBehind fault cards state batch_bytes done old new × (chain ≡ chain_on cards state done)

-- what a run on a database leaves that ended early
abbrev pub LeavesDatabase : RunFault → Database → List ℕ → Taken → Taken → Type 0
LeavesDatabase fault db batch_bytes old new = LeavesState fault db.cards (opening db.cards db.rows) batch_bytes old new

-- the faults of a run on a database
abbrev pub IsOfDatabase : RunFault → Type 0
IsOfDatabase (run_fault.Load e) = ⊥
IsOfDatabase _ = Unit {0}

-- what a run leaves that ended early
abbrev pub LeavesRun : RunFault → List ℕ → List ℕ → Taken → Taken → Type 0
LeavesRun (run_fault.Load e) image_bytes batch_bytes old new = IsImageFault e image_bytes × Keeps old new
LeavesRun fault image_bytes batch_bytes old new = (db : Database) × (image image_bytes ≡ Ok db) × LeavesDatabase fault db batch_bytes old new

-- the source of the image failed, or that of the batches
abbrev pub is_image_read : {A : Type 0} → Result A RunFault → Bool
is_image_read (Err (run_fault.Load load_error.Read)) = true
is_image_read _ = false

abbrev pub is_batches_read : {A : Type 0} → Result A RunFault → Bool
is_batches_read (Err (run_fault.Read read_error.Read)) = true
is_batches_read _ = false
