use Rattle.std.proofs.Common.{◌≡◌, ◌≤◌, length}
use Rattle.tpcc_model.specs.OrderStatuses.{shown_lines}
use Rattle.transactions.specs.Lending.{lent}
use Rattle.transactions.proofs.order_status.shown_lines.Given as goal

-- the lines so far
abbrev pub invariant-loop-index : goal.invariant-loop-index
invariant-loop-index g l = (l.lines ≡ shown_lines (lent (g.V.RowView.sees l.fn.view)) l.fn.p l.fn.order l.index) × (length l.lines ≤ l.index)
