use Rattle.std.proofs.Common.{◌≡◌, ◌+◌, length}
use Rattle.std.specs.FinMap.{entries}
use Rattle.tables.specs.ByRank.{IsPartedAt}
use Rattle.row_tables.specs.OrderLines.{AreFirstLines, lines_of}
use Rattle.row_tables.proofs.store.RowTables.order_lines.Given as goal

-- the lines so far, and where the next one stands
abbrev pub invariant-loop-place : goal.invariant-loop-place
invariant-loop-place l =
    (length (lines_of l.lines) ≡ l.place) × AreFirstLines l.self l.fn.warehouse l.fn.district l.fn.order l.place (lines_of l.lines) × IsPartedAt (entries l.table) (l.first + l.place) l.start
