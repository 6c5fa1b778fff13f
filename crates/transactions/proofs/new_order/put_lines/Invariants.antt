use Rattle.std.proofs.Common.{◌≡◌, ◌+◌, drop, map}
use Rattle.tpcc_rows.specs.RowMap.{Changes, Rows}
use Rattle.transactions.specs.NewOrderParts.{line_cards_of, with_lines}
use Rattle.transactions.proofs.new_order.put_lines.Given as goal

-- the lines that are left lead to where all of them lead
abbrev pub invariant-loop-index : goal.invariant-loop-index
invariant-loop-index g l =
    ((rows : Rows) (changes : Changes) → g.W.RowWriter.Stands rows changes l.fn.writer
    → (now : Changes) × g.W.RowWriter.Stands rows now l.writer
    × (with_lines l.p l.order (l.index + 1) (map line_cards_of (drop l.index l.lines)) now ≡ with_lines l.p l.order 1 (map line_cards_of l.lines) changes))
    × ((first : _) → g.W.RowWriter.Keeps first l.fn.writer → g.W.RowWriter.Keeps first l.writer)
