-- What comes of the next batch on rows, in terms of the serial answer.
use Rattle.std.specs.Prelude.{Bool, List}
use Rattle.catalog.specs.CardMap.{Cards}
use Rattle.requests.specs.declared.reply.Reply.{Reply}
use Rattle.tpcc_model.specs.Serial.{State, batch_replies, batch_rows}
use Rattle.tpcc_rows.specs.RowMap.{Rows}
use Rattle.executor.specs.Chains.{state_of}
use Rattle.executor.specs.LevelRuns.{strays}
use Rattle.executor.specs.declared.next_batch.NextBatch.{NextBatch}

-- the state that it meets
abbrev pub met_on : Rows → NextBatch → State
met_on rows next = state_of rows next.stamp

-- some request strays
abbrev pub next_strays : Cards → Rows → NextBatch → Bool
next_strays cards rows next = strays cards (met_on rows next) next.batch.now

-- its replies, and the rows that it leaves
abbrev pub next_replies : Cards → Rows → NextBatch → List Reply
next_replies cards rows next = batch_replies cards (met_on rows next) next.batch.now

abbrev pub next_rows : Cards → Rows → NextBatch → Rows
next_rows cards rows next = batch_rows cards (met_on rows next) next.batch.now
