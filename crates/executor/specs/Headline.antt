-- The headline. For every consistent database, list of batches with verdicts, and number of workers, the replies, tables and
-- token after each completed batch are those of one thread executing the requests one after the other in batch order, whether
-- the batch ran in parallel, strayed and was rolled back, or was rolled back on a verdict; and TPC-C's consistency conditions
-- 1 to 4 hold after every one.
use Rattle.std.specs.Prelude.{◌≡◌, ℕ, ◌+◌, ◌≤◌, List, [], ◌∷◌, length, Some, take}
use Rattle.std.specs.FinMap as map
use Rattle.catalog.specs.CardMap.{Cards}
use Rattle.requests.specs.declared.reply.Reply.{Reply}
use Rattle.requests.specs.declared.request.Batch.{Batch}
use Rattle.tpcc_model.specs.Conditions.{Condition1, IsConsistent}
use Rattle.tpcc_model.specs.Database.{database}
use Rattle.tpcc_model.specs.Serial.{State, after_batch, batch_replies, serial}
use Rattle.tpcc_model.specs.Soundness.{IsSound}
use Rattle.tpcc_rows.specs.RowMap.{Rows}
use Rattle.tpcc_rows.specs.declared.key.RowKey.TheVariants as key
use Rattle.tpcc_rows.specs.declared.row.DistrictNextRow.{DistrictNextRow}
use Rattle.tpcc_rows.specs.declared.row.Row.TheVariants as row
use Rattle.executor.specs.Paths.{path_of}
use Rattle.executor.specs.declared.path.Path.{Path}
use Rattle.executor.specs.declared.record.Record.{Record}

-- a completed batch: its number, that of its first request, the replies, the token after it, and its path
pub record Completed : Type 0 where
  pub sequence : ℕ
  pub first : ℕ
  pub replies : List Reply
  pub token : List ℕ
  pub path : Path

-- as in its record
abbrev pub completed : Record → Completed
completed r = record { sequence = r.sequence; first = r.first; replies = r.replies.items; token = r.token; path = r.path }

-- as one thread completes it, from this state on; the path is that of the batch's verdict and strays
abbrev pub completed_serially : Cards → State → Batch → Completed
completed_serially cards state batch = record {
  sequence = state.sequence + 1;
  first = state.next;
  replies = batch_replies cards state batch;
  token = (after_batch cards state batch).token;
  path = path_of cards state batch;
}

-- batches, as one thread completes them one after the other
abbrev pub all_serially : Cards → State → List Batch → List Completed
all_serially cards state [] = []
all_serially cards state (batch ∷ batches) = completed_serially cards state batch ∷ all_serially cards (after_batch cards state batch) batches

-- TPC-C's consistency conditions: the first for each warehouse, the second, third and fourth for each district
pub record MeetsConditions (rows : Rows) : Type 0 where
  pub condition_1 : Condition1 rows
  pub conditions_2_to_4 : (w d : ℕ) (r : DistrictNextRow) → map.get rows (key.DistrictNext w d) ≡ Some (row.DistrictNext r) → IsConsistent rows w d r.next_order

-- the first of the batches were completed from this state on, with these results, and the database is at the present state
pub record Headline (cards : Cards) (start : State) (batches : List Batch) (told : List Completed) (present : State) : Type 0 where
  -- each has the results of one thread: the replies, the token and the path
  pub batches_as_serial : told ≡ all_serially cards start (take (length told) batches)
  -- the tables, the next number and the token are those that one thread leaves
  pub state_as_serial : present ≡ serial cards start (take (length told) batches)
  -- before the first and after each of them the database is sound, and the conditions hold
  pub sound : (count : ℕ) → count ≤ length told → IsSound (database cards (serial cards start (take count batches)).rows)
  pub conditions : (count : ℕ) → count ≤ length told → MeetsConditions (serial cards start (take count batches)).rows
