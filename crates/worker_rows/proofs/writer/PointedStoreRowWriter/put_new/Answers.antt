use Rattle.std.proofs.Common.{sym, ap, ◌∙◌}
use Rattle.std.specs.FinMap as map
use Rattle.std.proofs.lemmas.Result.{on_ok_weaker}
use Rattle.tpcc_rows.specs.RowMap.{Rows}
use Rattle.tpcc_rows.proofs.Changes.{after-insert}
use Rattle.worker_rows.proofs.writer.PointedStoreRowWriter.put_new.Goals as goal

pub returns-clause-made : goal.returns-clause-made
returns-clause-made g c rows changes has =
    let row = g.R.TableRow.row_of c.args.row in
    on_ok_weaker c.put_new_row.result (λ e. e ∙ ap (λ (m : Rows). map.insert m c.args.key row) has ∙ sym (after-insert rows changes c.args.key row)) c.put_new_row.ensures.rows
