-- The rows of an order's lines, by number.
use Rattle.std.specs.Prelude.{◌≡◌, ◌<◌, ◌+◌, ℕ, map as each, get_or, List, Option, None, option_copied}
use Rattle.tpcc_rows.specs.RowMap.{Rows}
use Rattle.tpcc_rows.specs.Rows.{order_line_row}
use Rattle.tpcc_rows.specs.declared.row.OrderLineRow.{OrderLineRow}
use Rattle.row_tables.specs.declared.order_lines.OrderLines.{OrderLines}

-- the row of each line so far, in the order of their numbers
abbrev pub lines_of : OrderLines → List (Option OrderLineRow)
lines_of lines = each option_copied lines.rows.items

-- these are the order's lines of numbers 1 to n
abbrev pub AreFirstLines : Rows → ℕ → ℕ → ℕ → ℕ → List (Option OrderLineRow) → Type 0
AreFirstLines rows w d o n lines = (k : ℕ) → k < n → get_or lines k None ≡ order_line_row rows w d o (k + 1)

-- these are the order's lines, of which there are at most 15
abbrev pub AreOrderLines : Rows → ℕ → ℕ → ℕ → OrderLines → Type 0
AreOrderLines rows w d o lines = AreFirstLines rows w d o 15 (lines_of lines)
