use Rattle.std.proofs.Common.{◌≡◌, true, ◌≤◌, ◌+◌, List, length, ℕ}
use Rattle.worker_rows.specs.Views.{covers}
use Rattle.tpcc_model.specs.Database.{database}
use Rattle.tpcc_model.specs.Touches.{lines_touch}
use Rattle.tpcc_model.specs.StockLevels.{with_lines}
use Rattle.transactions.specs.LowItems.{IsHeld}
use Rattle.transactions.specs.Lending.{lent}
use Rattle.transactions.proofs.stock_level.hold_lines.Given as goal

-- the low items of the lines so far are held too, one a line at most
abbrev pub invariant-loop-index : goal.invariant-loop-index
invariant-loop-index g l =
    ((xs : List ℕ) → IsHeld l.fn.items xs → IsHeld l.items (with_lines (database l.catalog (lent (g.V.RowView.sees l.view))) l.p l.fn.order l.index xs))
    × (length l.items.keys ≤ length l.fn.items.keys + l.index)
    × (covers (g.V.RowView.sees l.view) (lines_touch (database l.catalog (lent (g.V.RowView.sees l.view))) l.p l.fn.order l.index) ≡ true)
