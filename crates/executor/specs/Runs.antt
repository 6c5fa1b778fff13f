-- A run of batches, each committed before the next.
use Rattle.std.specs.Prelude.{◌≡◌, ◌⊎◌, ℕ, List, [], ◌∷◌, drop, length, take, Option, Some, None}
use Rattle.catalog.specs.CardMap.{Cards}
use Rattle.requests.specs.declared.request.Batch.{Batch}
use Rattle.tpcc_model.specs.Serial.{State, after_batch, serial}
use Rattle.executor.specs.Executions.{IsRecordOf, IsRefusedFor, refusal_for}
use Rattle.executor.specs.Chains.{Chain}
use Rattle.executor.specs.Paths.{path_of}
use Rattle.executor.specs.declared.record.Record.{Record}
use Rattle.executor.specs.declared.refusal.Refusal.{Refusal}
use Rattle.executor.specs.declared.refusal.Refusal.TheVariants as refusal
use Rattle.executor.specs.declared.run.RunEnd.{RunEnd}

-- only the present state: all batches are committed
abbrev pub alone : Chain → Chain
alone chain = record { cards = chain.cards; earlier = []; present = chain.present }

-- after these batches, all committed; unchanged if there are none
abbrev pub chain_after : Chain → List Batch → Chain
chain_after chain [] = chain
chain_after chain (batch ∷ batches) = record { cards = chain.cards; earlier = []; present = serial chain.cards chain.present (batch ∷ batches) }

-- the records of the first of the batches, each of which met the state that those before it left
abbrev pub AreRecordsOf : Cards → State → List Batch → List Record → Type 0
AreRecordsOf cards state batches [] = Unit {0}
AreRecordsOf cards state [] (r ∷ records) = ⊥
AreRecordsOf cards state (batch ∷ batches) (r ∷ records) =
    IsRecordOf cards state batch (path_of cards state batch) r × AreRecordsOf cards (after_batch cards state batch) batches records

-- why none of the remaining batches was executed: there is none; there was no memory for the records, so no batch was executed
-- at all; or the next batch is refused, on this chain
abbrev pub IsStopAt : ℕ → Chain → List Record → List Batch → Option Refusal → Type 0
IsStopAt most chain records left None = left ≡ []
IsStopAt most chain records left (Some e) =
    ((records ≡ []) × (e ≡ refusal.Memory)) ⊎ ((batch : Batch) × (rest : List Batch) × (left ≡ batch ∷ rest) × IsRefusedFor (refusal_for most chain batch) e)

-- `most` batches may be uncommitted
pub record IsRunOf (most : ℕ) (old new : Chain) (batches : List Batch) (end : RunEnd) : Type 0 where
  pub records : AreRecordsOf old.cards old.present batches end.records.items
  pub chain : new ≡ chain_after old (take (length end.records.items) batches)
  pub stop : IsStopAt most new end.records.items (drop (length end.records.items) batches) end.stop
