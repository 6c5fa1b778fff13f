-- What serving a batch comes to, and what reading the next one does.
use Rattle.std.specs.Prelude.{◌≡◌, ℕ, [], Option, Some, None, Result, Ok, Err, IfErr, OnOk}
use Rattle.std.specs.Io.KnownBytes.{Appends}
use Rattle.executor.specs.Chains.{Chain, committed, extended}
use Rattle.records.specs.declared.fault.ReadError.{ReadError}
use Rattle.requests.specs.Batches.{Reading, StopsBy, clean, fault, with_front}
use Rattle.requests.specs.declared.request.Batch.{Batch}
use Rattle.runner.specs.Runs.{Completes, LeavesBatch, Taken}
use Rattle.runner.specs.Text.{batch_text}
use Rattle.runner.specs.declared.fault.RunFault.{RunFault}

-- the next batch was read, or there was none, or reading stopped
abbrev pub IsNext : Reading → Reading → Result (Option Batch) ReadError → Type 0
IsNext old new (Ok (Some batch)) = old ≡ with_front batch new
IsNext old new (Ok None) = (old ≡ ([], clean)) × (new ≡ ([], clean))
IsNext old new (Err e) = StopsBy e old × (new ≡ ([], fault e))

-- how many batches are read and not yet served
abbrev pub pending : Result (Option Batch) ReadError → ℕ
pending (Ok (Some batch)) = 1
pending (Ok None) = 0
pending (Err e) = 0

-- the batch was completed, committed and written; or a fault left what it leaves
pub record IsServed {A : Type 0} (old new : Chain) (batch : Batch) (before after : Taken) (result : Result A RunFault) : Type 0 where
  pub completed : OnOk result (Completes old.cards old.present batch)
  pub chain : OnOk result (new ≡ committed (extended old batch))
  pub text : OnOk result (Appends before after (batch_text old.cards old.present batch))
  pub err : IfErr result (λ e. LeavesBatch e old new batch before after)
