-- The results of an executor's calls.
use Rattle.std.specs.Prelude.{◌≡◌, ℕ, ◌+◌, Bool, ◌||◌, nat_lt, if◌then◌else◌, length, Option, Some, None}
use Rattle.catalog.specs.CardMap.{Cards}
use Rattle.requests.specs.declared.request.Batch.{Batch}
use Rattle.tpcc_model.specs.Serial.{State, after_batch, batch_replies}
use Rattle.executor.specs.Chains.{Chain}
use Rattle.executor.specs.Paths.{path_of}
use Rattle.executor.specs.declared.next_batch.TheConstants.{LAST_NUMBER, MOST_REQUESTS}
use Rattle.executor.specs.declared.path.Path.{Path}
use Rattle.executor.specs.declared.path.Path.TheVariants as path
use Rattle.executor.specs.declared.record.Record.{Record}
use Rattle.executor.specs.declared.refusal.Refusal.{Refusal}
use Rattle.executor.specs.declared.refusal.Refusal.TheVariants as refusal
use Rattle.executor.specs.declared.way.Way.{Way}
use Rattle.executor.specs.declared.way.Way.TheVariants as way
use Rattle.tpcc_rows.specs.declared.id.TheConstants.{END_OF_NUMBERS}

-- the batch's number, or that of one of its requests, would exceed its limit
abbrev pub exhausts : State → Batch → Bool
exhausts state batch = nat_lt LAST_NUMBER (state.sequence + 1) || nat_lt END_OF_NUMBERS (state.next + length batch.requests)

-- why the batch is refused, apart from lack of memory; `most` batches may be uncommitted
abbrev pub refusal_for : ℕ → Chain → Batch → Option Refusal
refusal_for most chain batch =
    if nat_lt MOST_REQUESTS (length batch.requests) then Some refusal.BatchTooLong
    else if exhausts chain.present batch then Some refusal.NumbersExhausted
    else if nat_lt (length chain.earlier) most then None
    else Some refusal.PointsFull

-- a call is refused for this reason, or else for lack of memory
abbrev pub IsRefusedFor : Option Refusal → Refusal → Type 0
IsRefusedFor None e = e ≡ refusal.Memory
IsRefusedFor (Some reason) e = e ≡ reason

-- one request after the other, or level by level
abbrev pub path_in : Way → Cards → State → Batch → Path
path_in way.InOrder cards state batch = path.Sequential
path_in way.ByWorkers cards state batch = path_of cards state batch

-- the record of a batch that met this state
pub record IsRecordOf (cards : Cards) (state : State) (batch : Batch) (how : Path) (r : Record) : Type 0 where
  pub sequence : r.sequence ≡ state.sequence + 1
  pub first : r.first ≡ state.next
  pub replies : r.replies.items ≡ batch_replies cards state batch
  pub token : r.token ≡ (after_batch cards state batch).token
  pub path : r.path ≡ how
