use Rattle.std.proofs.Common.{sym}
use Rattle.std.specs.FinMap.{get-empty}
use Rattle.tpcc_rows.specs.RowMap.{row_key_cmp}
use Rattle.transactions.proofs.NewStocks.{found_before, found_here}
use Rattle.transactions.proofs.new_order.earlier_stock.Goals as goal
use Rattle.transactions.proofs.new_order.earlier_stock.Goals.{then-is_of, else-is_of}

pub loop-stock-init : goal.loop-stock-init
loop-stock-init c = sym (get-empty row_key_cmp _)

pub loop-stock-preserved : goal.loop-stock-preserved
loop-stock-preserved c = elim c.if-is_of.branch [
  | then-is_of w ↦ found_here _ _ _ c.loop-stock-test.true c.stock-item.is _ _ _ c.is_of.ensures _ w.if-is_of.true w.found-is
  | else-is_of w ↦ found_before _ _ _ c.loop-stock-test.true c.stock-item.is _ _ _ c.is_of.ensures _ _ c.loop-stock.invariant w.if-is_of.false w.found-is
]
