use Rattle.std.proofs.Common.{subst}
use Rattle.row_tables.specs.OrderLines.{AreOrderLines}
use Rattle.pointed_tables.proofs.Besides.{seen-alone}
use Rattle.pointed_tables.proofs.roomy.RoomyTables.order_lines.Goals as goal

pub returns-then-is_empty : goal.returns-then-is_empty
returns-then-is_empty c = subst (λ rows. AreOrderLines rows c.args.warehouse c.args.district c.args.order c.order_lines.result) (seen-alone _ _ _ c.args.self.now c.self.view_is (c.is_empty.ensures c.if-is_empty.true)) c.order_lines.ensures
