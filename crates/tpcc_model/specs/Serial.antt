-- Serial execution, the reference for a run of batches: one request after the other, in batch order.
use Rattle.std.specs.Prelude.{ℕ, ◌+◌, List, [], ◌∷◌, length, Option, Some, None, unwrap_or}
use Rattle.catalog.specs.CardMap.{Cards}
use Rattle.requests.specs.declared.request.Batch.{Batch}
use Rattle.requests.specs.declared.reply.Reply.{Reply}
use Rattle.tpcc_rows.specs.Picks.{greatest, picked}
use Rattle.tpcc_rows.specs.RowMap.{Rows}
use Rattle.tpcc_rows.specs.declared.key.RowKey.{RowKey}
use Rattle.tpcc_rows.specs.declared.key.RowKey.TheVariants as key
use Rattle.tpcc_rows.specs.declared.row.Row.{Row}
use Rattle.tpcc_model.specs.Database.{database}
use Rattle.tpcc_model.specs.Steps.{replies, rows_after}
use Rattle.tpcc_model.specs.Tokens.{batch_token, no_token}

-- the rows, the number of the next request, the number of the last batch, and its token
pub record State : Type 0 where
  pub rows : Rows
  pub next : ℕ
  pub sequence : ℕ
  pub token : List ℕ

-- the number of a key of HISTORY
abbrev pub history_pick : RowKey → Row → Option ℕ
history_pick (key.History n) _ = Some n
history_pick _ _ = None

-- one past the greatest number of HISTORY, 1 if it is empty
unfoldable pub next_number : Rows → ℕ
next_number rows = unwrap_or (greatest (picked history_pick rows)) 0 + 1

-- the state of a database before any batch
abbrev pub opening : Cards → Rows → State
opening cards rows = record {
  rows = rows;
  next = next_number rows;
  sequence = 0;
  token = batch_token 0 no_token cards rows (next_number rows) [];
}

-- the replies of a batch
abbrev pub batch_replies : Cards → State → Batch → List Reply
batch_replies cards state batch = replies (database cards state.rows) batch.moment state.next batch.requests

-- the rows after a batch
abbrev pub batch_rows : Cards → State → Batch → Rows
batch_rows cards state batch = rows_after (database cards state.rows) batch.moment state.next batch.requests

-- the state after a batch
abbrev pub after_batch : Cards → State → Batch → State
after_batch cards state batch = record {
  rows = batch_rows cards state batch;
  next = state.next + length batch.requests;
  sequence = state.sequence + 1;
  token = batch_token (state.sequence + 1) state.token cards (batch_rows cards state batch) state.next (batch_replies cards state batch);
}

-- the state after batches
abbrev pub serial : Cards → State → List Batch → State
serial cards state [] = state
serial cards state (batch ∷ batches) = serial cards (after_batch cards state batch) batches
