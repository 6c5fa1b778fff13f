use Rattle.std.proofs.Common.{◌≡◌, drop, length, map}
use Rattle.transactions.specs.NewOrderParts.{line_cards_of, so_far_of, stocks_done}
use Rattle.transactions.specs.Lending.{lent}
use Rattle.transactions.proofs.new_order.stocks_done.Given as goal

-- the lines that are left lead to where all of them lead
abbrev pub invariant-loop-line : goal.invariant-loop-line
invariant-loop-line g l =
    (stocks_done (lent (g.V.RowView.sees l.view)) l.p (map line_cards_of (drop l.line-index l.lines)) (so_far_of l.so_far) ≡ stocks_done (lent (g.V.RowView.sees l.view)) l.p (map line_cards_of l.lines) (so_far_of l.fn.so_far))
    × (length l.so_far.stocks.items ≡ l.line-index) × (length l.so_far.lines ≡ l.line-index)
