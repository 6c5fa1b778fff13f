-- The batches that an executor keeps, and the chain that one thread gets from them.
use Rattle.std.specs.Prelude.{ℕ, ◌+◌, ◌-◌, List, [], ◌∷◌, ◌++◌, drop, length, take}
use Rattle.catalog.specs.CardMap.{Cards}
use Rattle.requests.specs.declared.request.Batch.{Batch}
use Rattle.tpcc_model.specs.Serial.{State, after_batch, serial}
use Rattle.executor.specs.Chains.{Chain}

-- the committed ones and the uncommitted ones, each list in order of execution
pub record Kept : Type 0 where
  pub committed : List Batch
  pub uncommitted : List Batch

abbrev pub none_kept : Kept
none_kept = record { committed = []; uncommitted = [] }

abbrev pub all_kept : Kept → List Batch
all_kept kept = kept.committed ++ kept.uncommitted

-- ---- from one to the next
-- a batch was executed
abbrev pub with_batch : Batch → Kept → Kept
with_batch batch kept = record { committed = kept.committed; uncommitted = kept.uncommitted ++ batch ∷ [] }

-- the oldest uncommitted batch was committed
abbrev pub with_committed : Kept → Kept
with_committed kept = record { committed = kept.committed ++ take 1 kept.uncommitted; uncommitted = drop 1 kept.uncommitted }

-- the batches up to the one with this number, if the one before the first has the number `start`
abbrev pub up_to : ℕ → ℕ → Kept → Kept
up_to start sequence kept =
    record { committed = kept.committed; uncommitted = take (sequence - (start + length kept.committed)) kept.uncommitted }

-- ---- as one thread executes them
-- the state that each of the batches meets
abbrev pub states_met : Cards → State → List Batch → List State
states_met cards state [] = []
states_met cards state (batch ∷ batches) = state ∷ states_met cards (after_batch cards state batch) batches

-- the state after the committed ones, and the one after each of the others; the last is present
abbrev pub serial_chain : Cards → State → Kept → Chain
serial_chain cards start kept = record {
  cards = cards;
  earlier = states_met cards (serial cards start kept.committed) kept.uncommitted;
  present = serial cards start (all_kept kept);
}
