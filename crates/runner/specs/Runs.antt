-- What a run leaves, for each of its results.
use Rattle.std.specs.Prelude.{◌≡◌, ◌⊎◌, ℕ, ◌+◌, ◌<◌, ◌≤◌, Bool, true, false, List, [], ◌∷◌, ◌++◌, length, Option, Result, Ok, Err}
use Rattle.std.specs.Io.KnownBytes.{Appends, Keeps}
use Rattle.catalog.specs.CardMap.{Cards}
use Rattle.executor.specs.Headline.{Headline, all_serially}
use Rattle.executor.specs.Chains.{Chain, committed, extended}
use Rattle.executor.specs.States.{IsSoundState}
use Rattle.executor.specs.declared.next_batch.TheConstants.{LAST_NUMBER}
use Rattle.executor.specs.declared.refusal.Refusal.TheVariants as refusal
use Rattle.requests.specs.Batches.{Reading, clean, fault}
use Rattle.records.specs.Io.{AppendsFront}
use Rattle.records.specs.declared.fault.ReadError.{ReadError}
use Rattle.records.specs.declared.fault.ReadError.TheVariants as read_error
use Rattle.requests.specs.declared.request.Batch.{Batch}
use Rattle.runner.specs.Text.{batch_text, text}
use Rattle.runner.specs.declared.fault.RunFault.{RunFault}
use Rattle.runner.specs.declared.fault.RunFault.TheVariants as run_fault
use Rattle.tpcc_model.specs.Serial.{State, after_batch, serial}
use Rattle.tpcc_rows.specs.declared.id.TheConstants.{END_OF_NUMBERS}

-- the bytes that a sink received, if they are known
abbrev pub Taken : Type 0
Taken = Option (List ℕ)

-- the numbers of a batch and of its requests stay within the limit
abbrev pub NumbersFit : State → Batch → Type 0
NumbersFit state batch = (state.sequence + 1 ≤ LAST_NUMBER) × (state.next + length batch.requests ≤ END_OF_NUMBERS)

abbrev pub NumbersExhaust : State → Batch → Type 0
NumbersExhaust state batch = (LAST_NUMBER < state.sequence + 1) ⊎ (END_OF_NUMBERS < state.next + length batch.requests)

abbrev pub AllFit : Cards → State → List Batch → Type 0
AllFit cards state [] = Unit {0}
AllFit cards state (batch ∷ batches) = NumbersFit state batch × AllFit cards (after_batch cards state batch) batches

-- batches that were completed one after the other: their numbers fit, and the headline holds of them
abbrev pub AreCompleted : Cards → State → List Batch → Type 0
AreCompleted cards state batches = AllFit cards state batches × Headline cards state batches (all_serially cards state batches) (serial cards state batches)

-- the numbers of a batch fit, and the state that it leaves is sound
abbrev pub Completes : Cards → State → Batch → Type 0
Completes cards state batch = NumbersFit state batch × IsSoundState cards (after_batch cards state batch)

-- what a state leads to by batches, each of which was committed
abbrev pub chain_on : Cards → State → List Batch → Chain
chain_on cards state done = record { cards = cards; earlier = []; present = serial cards state done }

-- all batches were completed and written, and no fault came after them
pub record Ran (cards : Cards) (state : State) (reading : Reading) (old new : Taken) (count : ℕ) : Type 0 where
  pub end : reading.1 ≡ clean
  pub counted : count ≡ length reading.0
  pub completed : AreCompleted cards state reading.0
  pub written : Appends old new (text cards state reading.0)

-- the first of the batches were completed and written, and no other byte
pub record Began (cards : Cards) (state : State) (batches : List Batch) (old new : Taken) (done rest : List Batch) : Type 0 where
  pub parts : batches ≡ done ++ rest
  pub completed : AreCompleted cards state done
  pub written : Appends old new (text cards state done)

-- the same of these batches, whatever comes after them
abbrev pub TookFirst : Cards → State → List Batch → List Batch → Taken → Taken → Type 0
TookFirst cards state batches done old new = (rest : List Batch) × Began cards state batches old new done rest

-- the same, and the next batch would exceed the limit of numbers
abbrev pub TookUntilExhausted : Cards → State → List Batch → List Batch → Taken → Taken → Type 0
TookUntilExhausted cards state batches done old new =
    (batch : Batch) × (rest : List Batch) × Began cards state batches old new done (batch ∷ rest) × NumbersExhaust (serial cards state done) batch

-- a prefix of the text of the first batches, which were completed: so a prefix of the text of all
abbrev pub TookFront : Cards → State → List Batch → List Batch → Taken → Taken → Type 0
TookFront cards state batches done old new =
    (rest : List Batch) × (batches ≡ done ++ rest) × AreCompleted cards state done × AppendsFront old new (text cards state done)

-- what a fault in one batch leaves that isn't too long and has none before it uncommitted; there is no other fault. The chain after it
-- is the one before it, but where the batch was completed and the output failed
abbrev pub LeavesBatch : RunFault → Chain → Chain → Batch → Taken → Taken → Type 0
LeavesBatch (run_fault.Exec refusal.NumbersExhausted) chain last batch old new = NumbersExhaust chain.present batch × (last ≡ chain) × Keeps old new
LeavesBatch (run_fault.Exec refusal.Memory) chain last batch old new = (last ≡ chain) × Keeps old new
LeavesBatch run_fault.Memory chain last batch old new = (last ≡ chain) × Keeps old new
LeavesBatch run_fault.Write chain last batch old new =
    Completes chain.cards chain.present batch × (last ≡ committed (extended chain batch)) × AppendsFront old new (batch_text chain.cards chain.present batch)
LeavesBatch _ chain last batch old new = ⊥

-- what a run leaves that ended early behind these batches, which were completed; no batch that was read is too long, and none before it
-- is left uncommitted, so that there is no other fault
abbrev pub Left : RunFault → Cards → State → Reading → List Batch → Taken → Taken → Type 0
Left (run_fault.Read e) cards state reading done old new =
    ((reading.1 ≡ fault e) × Began cards state reading.0 old new done [])
    ⊎ ((e ≡ read_error.Memory) × TookFirst cards state reading.0 done old new)
Left (run_fault.Exec refusal.NumbersExhausted) cards state reading done old new = TookUntilExhausted cards state reading.0 done old new
Left (run_fault.Exec refusal.Memory) cards state reading done old new = TookFirst cards state reading.0 done old new
Left run_fault.Memory cards state reading done old new = TookFirst cards state reading.0 done old new
Left run_fault.Write cards state reading done old new = TookFront cards state reading.0 done old new
Left _ cards state reading done old new = ⊥

abbrev pub is_write : {A : Type 0} → Result A RunFault → Bool
is_write (Err run_fault.Write) = true
is_write (Ok a) = false
is_write (Err (run_fault.Load e)) = false
is_write (Err (run_fault.Read e)) = false
is_write (Err (run_fault.Exec r)) = false
is_write (Err run_fault.Memory) = false

-- the reasons for which batches that are in memory can't be read on
abbrev pub IsOfRecords : ReadError → Type 0
IsOfRecords (read_error.BadField n) = Unit {0}
IsOfRecords (read_error.WrongCount n) = Unit {0}
IsOfRecords (read_error.OutOfRange n) = Unit {0}
IsOfRecords (read_error.UnknownKind n) = Unit {0}
IsOfRecords (read_error.BatchTooLong n) = Unit {0}
IsOfRecords read_error.Memory = Unit {0}
IsOfRecords read_error.Read = ⊥
IsOfRecords read_error.InputTooLong = ⊥

-- the faults of a run on a database and on batches that are in memory
abbrev pub IsOfBatches : RunFault → Type 0
IsOfBatches (run_fault.Load e) = ⊥
IsOfBatches (run_fault.Read e) = IsOfRecords e
IsOfBatches (run_fault.Exec r) = Unit {0}
IsOfBatches run_fault.Write = Unit {0}
IsOfBatches run_fault.Memory = Unit {0}
