use Rattle.std.proofs.Common.{◌≡◌, take, Some}
use Rattle.std.specs.FinMap.{get}
use Rattle.std.specs.Option.{option_map}
use Rattle.tpcc_rows.specs.declared.key.RowKey.TheVariants as key
use Rattle.tpcc_rows.specs.declared.row.Row.TheVariants as row
use Rattle.transactions.specs.NewOrderParts.{stock_changes}
use Rattle.transactions.proofs.new_order.earlier_stock.Given as goal

-- what the stocks so far have
abbrev pub invariant-loop-stock : goal.invariant-loop-stock
invariant-loop-stock l = option_map (λ new. Some (row.Stock new)) l.found ≡ get (stock_changes (take l.stock-index l.stocks)) (key.Stock l.warehouse l.item)
