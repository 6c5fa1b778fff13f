use Rattle.std.proofs.Common.{◌≡◌}
use Rattle.tpcc_rows.specs.RowMap.{Changes, Rows}
use Rattle.transactions.specs.DeliveryParts.{orders_of, orders_written}
use Rattle.transactions.proofs.delivery.write_orders.Given as goal

-- some orders are written, and those that are left lead to where all of them lead
abbrev pub invariant-loop-order : goal.invariant-loop-order
invariant-loop-order g l = record {
  made : (rows : Rows) (changes : Changes) → g.W.RowWriter.Stands rows changes l.fn.writer
      → (now : Changes) × g.W.RowWriter.Stands rows now l.writer × (orders_written l.warehouse (orders_of l.order-iterator.rest.items) now ≡ orders_written l.warehouse (orders_of l.fn.delivered.items) changes);
  kept : (first : g.row.W.Denot) → g.W.RowWriter.Keeps first l.fn.writer → g.W.RowWriter.Keeps first l.writer;
}
