use Rattle.std.proofs.Common.{◌≡◌}
use Rattle.transactions.specs.DeliveryParts.{dated_lines}
use Rattle.transactions.specs.Lending.{lent}
use Rattle.transactions.proofs.delivery.dated_lines.Given as goal

-- the lines so far are those that are there
abbrev pub invariant-loop-index : goal.invariant-loop-index
invariant-loop-index g l = l.lines.items ≡ dated_lines (lent (g.V.RowView.sees l.fn.view)) l.fn.p l.moment l.fn.district l.fn.order l.index
