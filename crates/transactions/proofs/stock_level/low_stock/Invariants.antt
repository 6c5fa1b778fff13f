use Rattle.std.proofs.Common.{◌≡◌, true, ◌≤◌, ◌*◌, ◌-◌, length}
use Rattle.worker_rows.specs.Views.{covers}
use Rattle.tpcc_model.specs.Database.{database}
use Rattle.tpcc_model.specs.Touches.{orders_touch}
use Rattle.tpcc_model.specs.StockLevels.{first_recent, low_items}
use Rattle.transactions.specs.LowItems.{IsHeld}
use Rattle.transactions.specs.Lending.{lent}
use Rattle.transactions.proofs.stock_level.low_stock.Given as goal

-- the low items of the orders so far are held, fifteen an order at most
abbrev pub invariant-loop-order : goal.invariant-loop-order
invariant-loop-order g l =
    IsHeld l.items (low_items (database l.catalog (lent (g.V.RowView.sees l.view))) l.p (first_recent l.district.next_order) (l.order - first_recent l.district.next_order))
    × (length l.items.keys ≤ 15 * (l.order - first_recent l.district.next_order))
    × (covers (g.V.RowView.sees l.view) (orders_touch (database l.catalog (lent (g.V.RowView.sees l.view))) l.p (first_recent l.district.next_order) (l.order - first_recent l.district.next_order)) ≡ true)
