-- The results of a batch on an engine, in terms of the serial answer.
use Rattle.std.specs.Prelude.{List}
use Rattle.requests.specs.declared.reply.Reply.{Reply}
use Rattle.tpcc_model.specs.Serial.{State}
use Rattle.tpcc_rows.specs.RowMap.{Rows}
use Rattle.executor.specs.Executions.{IsRecordOf, path_in}
use Rattle.executor.specs.NextBatches.{met_on, next_replies, next_rows}
use Rattle.executor.specs.declared.engine.Engine.{Engine}
use Rattle.executor.specs.declared.next_batch.NextBatch.{NextBatch}
use Rattle.executor.specs.declared.path.Path.{Path}
use Rattle.executor.specs.declared.record.Record.{Record}
use Rattle.executor.specs.declared.way.Way.{Way}

-- the state that the batch meets
abbrev pub met_by : Engine → NextBatch → State
met_by engine next = met_on engine.store.rows next

-- its replies, and the rows that it leaves
abbrev pub replies_by : Engine → NextBatch → List Reply
replies_by engine next = next_replies engine.catalog engine.store.rows next

abbrev pub rows_by : Engine → NextBatch → Rows
rows_by engine next = next_rows engine.catalog engine.store.rows next

-- its path, and its record, if it is executed in this way
abbrev pub path_by_way : Way → Engine → NextBatch → Path
path_by_way way engine next = path_in way engine.catalog (met_by engine next) next.batch.now

abbrev pub IsRecordBy : Way → Engine → NextBatch → Record → Type 0
IsRecordBy way engine next = IsRecordOf engine.catalog (met_by engine next) next.batch.now (path_by_way way engine next)
