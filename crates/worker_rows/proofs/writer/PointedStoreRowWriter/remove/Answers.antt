use Rattle.std.proofs.Common.{sym, ap, ◌∙◌}
use Rattle.std.specs.FinMap as map
use Rattle.tpcc_rows.specs.RowMap.{Rows}
use Rattle.tpcc_rows.proofs.Changes.{after-remove}
use Rattle.worker_rows.proofs.writer.PointedStoreRowWriter.remove.Goals as goal

pub returns-clause-made : goal.returns-clause-made
returns-clause-made c rows changes has = c.in_ok-remove.ensures.rows ∙ ap (λ (m : Rows). map.remove m c.args.key) has ∙ sym (after-remove rows changes c.args.key)
