-- Lists of calls of an executor, and the batches that they keep.
use Rattle.std.specs.Prelude.{◌≡◌, ◌⊎◌, ℕ, List, [], ◌∷◌}
use Rattle.catalog.specs.CardMap.{Cards}
use Rattle.requests.specs.declared.request.Batch.{Batch}
use Rattle.tpcc_model.specs.Serial.{State}
use Rattle.executor.specs.Executions.{IsRecordOf}
use Rattle.executor.specs.Kept.{Kept, none_kept, up_to, with_batch, with_committed}
use Rattle.executor.specs.Chains.{IsReturned, Chain, committed, extended}
use Rattle.executor.specs.Paths.{path_of}
use Rattle.executor.specs.States.{IsSoundState}
use Rattle.executor.specs.declared.path.Path.TheVariants as path
use Rattle.executor.specs.declared.record.Record.{Record}

-- a call: a batch was executed, with workers or without, and this is its record; the oldest batch was committed; the executor
-- rolled back to the state with this number; or any of these was refused
pub data Call : Type 0 where
  Executed : Batch → Record → Call
  Committed : Call
  ReturnedTo : ℕ → Call
  Refused : Call

-- the record of a batch that was executed with workers or without
abbrev pub IsRecordOfEither : Cards → State → Batch → Record → Type 0
IsRecordOfEither cards state batch r = IsRecordOf cards state batch (path_of cards state batch) r ⊎ IsRecordOf cards state batch path.Sequential r

-- ---- the chains
-- before and after a call
abbrev pub Leads : Call → Chain → Chain → Type 0
Leads (Executed batch r) old new =
    IsRecordOfEither old.cards old.present batch r × (new ≡ extended old batch) × IsSoundState new.cards new.present
Leads Committed old new = new ≡ committed old
Leads (ReturnedTo sequence) old new = IsReturned sequence old new × IsSoundState new.cards new.present
Leads Refused old new = new ≡ old

-- before and after calls, one after the other
abbrev pub LeadOn : List Call → Chain → Chain → Type 0
LeadOn [] old new = new ≡ old
LeadOn (call ∷ calls) old new = (between : Chain) × Leads call old between × LeadOn calls between new

-- ---- the kept batches: each from its execution until the executor rolls back to a state before it
-- after a call
abbrev pub kept_by : State → Call → Kept → Kept
kept_by start (Executed batch r) kept = with_batch batch kept
kept_by start Committed kept = with_committed kept
kept_by start (ReturnedTo sequence) kept = up_to start.sequence sequence kept
kept_by start Refused kept = kept

-- after calls, one after the other
abbrev pub kept_on : State → List Call → Kept → Kept
kept_on start [] kept = kept
kept_on start (call ∷ calls) kept = kept_on start calls (kept_by start call kept)

-- the first of which met this state
abbrev pub kept_after : State → List Call → Kept
kept_after start calls = kept_on start calls none_kept
