use Rattle.std.proofs.Common.{◌≡◌, drop}
use Rattle.tpcc_rows.specs.RowMap.{Changes, Rows}
use Rattle.transactions.specs.NewOrderParts.{with_stocks}
use Rattle.transactions.proofs.new_order.put_stocks.Given as goal

-- the stocks that are left lead to where all of them lead
abbrev pub invariant-loop-stock : goal.invariant-loop-stock
invariant-loop-stock g l =
    ((rows : Rows) (changes : Changes) → g.W.RowWriter.Stands rows changes l.fn.writer → (now : Changes) × g.W.RowWriter.Stands rows now l.writer × (with_stocks (drop l.stock-index l.stocks) now ≡ with_stocks l.stocks changes))
    × ((first : _) → g.W.RowWriter.Keeps first l.fn.writer → g.W.RowWriter.Keeps first l.writer)
