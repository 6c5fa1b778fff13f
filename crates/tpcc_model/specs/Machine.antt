-- The transactions as a machine of the theory.
use Rattle.std.specs.Prelude.{ℕ}
use Rattle.serializability.specs.Machines.{Machine}
use Rattle.tpcc_rows.specs.Granules.{granule, same_granule}
use Rattle.tpcc_rows.specs.RowMap.{row_key_cmp}
use Rattle.tpcc_rows.specs.declared.granule.Granule.{Granule}
use Rattle.tpcc_rows.specs.declared.key.RowKey.TheVariants as key
use Rattle.tpcc_rows.specs.declared.row.Row.{Row}
use Rattle.catalog.specs.CardMap.{Cards}
use Rattle.requests.specs.declared.reply.Reply.{Reply}
use Rattle.requests.specs.declared.request.Request.{Request}
use Rattle.tpcc_model.specs.Database.{database}
use Rattle.tpcc_model.specs.Steps.{steps_at}
use Rattle.tpcc_model.specs.Touches.{touch}

-- the steps on rows with these cards, at one moment; a row of HISTORY is its number's own
abbrev pub tpcc : Cards → ℕ → Machine row_key_cmp Row Granule Request Reply
tpcc cards moment = record {
  granule = granule;
  same = same_granule;
  own = λ number. key.History number;
  touch = λ rows. touch (database cards rows);
  step = steps_at cards moment;
}
