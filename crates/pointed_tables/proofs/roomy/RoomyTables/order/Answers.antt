use Rattle.std.proofs.Common.{ap, ◌∙◌}
use Rattle.tpcc_rows.specs.Rows.{order_row}
use Rattle.pointed_tables.proofs.Besides.{seen-alone}
use Rattle.pointed_tables.proofs.roomy.RoomyTables.order.Goals as goal

pub returns-then-is_empty : goal.returns-then-is_empty
returns-then-is_empty c = c.order.ensures ∙ ap (λ rows. order_row rows c.args.warehouse c.args.district c.args.order) (seen-alone _ _ _ c.args.self.now c.self.view_is (c.is_empty.ensures c.if-is_empty.true))
