-- Runs that resume at the stamp of an image's state, or begin before any batch.
use Rattle.std.specs.Prelude.{◌≡◌, ◌<◌, ◌≤◌, ℕ, Bool, false, List, Option, Some, None, Result, Ok, Err}
use Rattle.std.specs.Io.KnownBytes.{Keeps}
use Rattle.executor.specs.Chains.{Chain, opening_chain}
use Rattle.executor.specs.Stamps.{resumed, stamp_of}
use Rattle.executor.specs.declared.stamp.NumbersTaken.{NumbersTaken}
use Rattle.executor.specs.declared.stamp.Stamp.{Stamp}
use Rattle.loader.specs.Image.{image}
use Rattle.requests.specs.Batches.{batches}
use Rattle.requests.specs.declared.request.Batch.{Batch}
use Rattle.runner.specs.Openings.{IsUnopened}
use Rattle.runner.specs.Runs.{Taken}
use Rattle.runner.specs.WholeRuns.{LeavesBehind, RanFrom}
use Rattle.runner.specs.declared.fault.RunFault.{RunFault}
use Rattle.runner.specs.declared.fault.RunFault.TheVariants as run_fault
use Rattle.runner.specs.declared.resumed_fault.ResumedFault.{ResumedFault}
use Rattle.runner.specs.declared.resumed_fault.ResumedFault.TheVariants as resumed_fault
use Rattle.tpcc_model.specs.Database.{Database}
use Rattle.tpcc_model.specs.Serial.{serial}

-- ---- the stamp that a run resumes at
-- the chain whose present state has the stamp, if there is one
abbrev pub stood : Chain → Option Stamp → Chain
stood chain None = chain
stood chain (Some stamp) = resumed chain stamp

-- no request in the history has the stamp's next number or a greater one
abbrev pub MayStand : Chain → Option Stamp → Type 0
MayStand chain None = Unit {0}
MayStand chain (Some stamp) = chain.present.next ≤ stamp.next

-- one has, and this is the lowest next number that the history leaves free
abbrev pub IsTaken : NumbersTaken → Chain → Option Stamp → Type 0
IsTaken taken chain None = ⊥
IsTaken taken chain (Some stamp) = (stamp.next < chain.present.next) × (taken.least ≡ chain.present.next)

-- ---- the stamp of the last state
abbrev pub stamp_behind : Chain → List Batch → Stamp
stamp_behind chain done = stamp_of (serial chain.cards chain.present done)

-- it is returned, unless the output failed, since it is then unknown how much of the text got through
abbrev pub told_behind : RunFault → Stamp → Option Stamp
told_behind run_fault.Write stamp = None
told_behind (run_fault.Load e) stamp = Some stamp
told_behind (run_fault.Read e) stamp = Some stamp
told_behind (run_fault.Exec r) stamp = Some stamp
told_behind run_fault.Memory stamp = Some stamp

-- ---- a run from a chain's present state on
-- all batches were executed and written
abbrev pub RanAndTold : Chain → List ℕ → Taken → Taken → ℕ → Option Stamp → Type 0
RanAndTold chain batch_bytes old new count at =
    RanFrom chain.cards chain.present batch_bytes old new count × (at ≡ Some (stamp_behind chain (batches batch_bytes).0))

-- it ended early after some batches
abbrev pub LeavesAndTells : RunFault → Chain → List ℕ → Taken → Taken → Option Stamp → Type 0
LeavesAndTells e chain batch_bytes old new at =
    (done : List Batch) × LeavesBehind e chain.cards chain.present batch_bytes done old new × (at ≡ told_behind e (stamp_behind chain done))

-- ---- a run from a stamp on
abbrev pub WentOn : Chain → Option Stamp → List ℕ → Taken → Taken → ℕ → Option Stamp → Type 0
WentOn chain from batch_bytes old new count at = MayStand chain from × RanAndTold (stood chain from) batch_bytes old new count at

-- a refused stamp: nothing is written, and no stamp is returned
abbrev pub LeavesGoingOn : ResumedFault → Chain → Option Stamp → List ℕ → Taken → Taken → Option Stamp → Type 0
LeavesGoingOn (resumed_fault.Unopened e) chain from batch_bytes old new at = ⊥
LeavesGoingOn (resumed_fault.Taken taken) chain from batch_bytes old new at = IsTaken taken chain from × Keeps old new × (at ≡ None)
LeavesGoingOn (resumed_fault.Ended e) chain from batch_bytes old new at = MayStand chain from × LeavesAndTells e (stood chain from) batch_bytes old new at

-- ---- from bytes to bytes
-- the image loads as a database, on which the batches were run from the stamp on
abbrev pub RanResumed : List ℕ → Option Stamp → List ℕ → Taken → Taken → ℕ → Option Stamp → Type 0
RanResumed image_bytes from batch_bytes old new count at =
    (db : Database) × (image image_bytes ≡ Ok db) × WentOn (opening_chain db.cards db.rows) from batch_bytes old new count at

-- without an executor nothing is written, and no stamp is returned
abbrev pub LeavesResumed : ResumedFault → List ℕ → Option Stamp → List ℕ → Taken → Taken → Option Stamp → Type 0
LeavesResumed (resumed_fault.Unopened e) image_bytes from batch_bytes old new at = IsUnopened e image_bytes × Keeps old new × (at ≡ None)
LeavesResumed fault image_bytes from batch_bytes old new at =
    (db : Database) × (image image_bytes ≡ Ok db) × LeavesGoingOn fault (opening_chain db.cards db.rows) from batch_bytes old new at

-- ---- the stream that failed, by the result of the run
abbrev pub in_resumed : {A : Type 0} → (Result A RunFault → Bool) → Result A ResumedFault → Bool
in_resumed fails (Ok a) = false
in_resumed fails (Err (resumed_fault.Unopened e)) = fails (Err e)
in_resumed fails (Err (resumed_fault.Taken taken)) = false
in_resumed fails (Err (resumed_fault.Ended e)) = fails (Err e)

-- the result of a resumed run that began
abbrev pub ended : Result ℕ RunFault → Result ℕ ResumedFault
ended (Ok count) = Ok count
ended (Err e) = Err (resumed_fault.Ended e)
