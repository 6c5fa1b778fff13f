use Rattle.std.proofs.Common.{ap, ◌∙◌}
use Rattle.tpcc_rows.specs.Rows.{stock_row}
use Rattle.pointed_tables.proofs.Besides.{seen-alone}
use Rattle.pointed_tables.proofs.roomy.RoomyTables.stock.Goals as goal

pub returns-then-is_empty : goal.returns-then-is_empty
returns-then-is_empty c = c.stock.ensures ∙ ap (λ rows. stock_row rows c.args.warehouse c.args.item) (seen-alone _ _ _ c.args.self.now c.self.view_is (c.is_empty.ensures c.if-is_empty.true))
