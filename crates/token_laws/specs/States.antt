-- What the tokens of an executor's states cover.
use Rattle.std.specs.Prelude.{◌≡◌, ◌+◌, []}
use Rattle.catalog.specs.CardMap.{Cards}
use Rattle.requests.specs.declared.request.Batch.{Batch}
use Rattle.tpcc_model.specs.Database.{database}
use Rattle.tpcc_model.specs.Serial.{State, after_batch, batch_replies, batch_rows, next_number, opening}
use Rattle.tpcc_model.specs.Tokens.{no_token}
use Rattle.tpcc_rows.specs.RowMap.{Rows}
use Rattle.token_laws.specs.Covered.{Covered, token}

abbrev pub of_opening : Cards → Rows → Covered
of_opening cards rows = record { sequence = 0; prior = no_token; database = database cards rows; first = next_number rows; replies = [] }

-- of a batch on this state
abbrev pub of_batch : Cards → State → Batch → Covered
of_batch cards state batch = record {
  sequence = state.sequence + 1;
  prior = state.token;
  database = database cards (batch_rows cards state batch);
  first = state.next;
  replies = batch_replies cards state batch;
}

-- the token before any batch, and that after each one, is of these
pub record StatesAreCovered : Type 0 where
  pub opening_token : (cards : Cards) (rows : Rows) → (opening cards rows).token ≡ token (of_opening cards rows)
  pub batch_token : (cards : Cards) (state : State) (batch : Batch) → (after_batch cards state batch).token ≡ token (of_batch cards state batch)
