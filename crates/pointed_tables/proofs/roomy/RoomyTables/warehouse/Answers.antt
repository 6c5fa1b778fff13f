use Rattle.std.proofs.Common.{ap, ◌∙◌}
use Rattle.tpcc_rows.specs.Rows.{warehouse_row}
use Rattle.pointed_tables.proofs.Besides.{seen-alone}
use Rattle.pointed_tables.proofs.roomy.RoomyTables.warehouse.Goals as goal

pub returns-then-is_empty : goal.returns-then-is_empty
returns-then-is_empty c = c.warehouse.ensures ∙ ap (λ rows. warehouse_row rows c.args.warehouse) (seen-alone _ _ _ c.args.self.now c.self.view_is (c.is_empty.ensures c.if-is_empty.true))
