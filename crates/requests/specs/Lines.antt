-- The lines of a new order.
use Rattle.std.specs.Prelude.{List, length, Option, Some, None, if◌then◌else◌}
use Rattle.tpcc_rows.specs.Limits.{IsBetween, is_between}
use Rattle.requests.specs.declared.request.OrderedLine.{OrderedLine}

-- the lines of a new order, if they are 5 to 15
abbrev pub ordered_lines_of : List OrderedLine → Option (List OrderedLine)
ordered_lines_of lines = if is_between 5 15 (length lines) then Some lines else None

-- a line within the limits
pub record IsReadLine (line : OrderedLine) : Type 0 where
  pub item : IsBetween 1 999999 line.item
  pub supply : IsBetween 1 100 line.supply
  pub quantity : IsBetween 1 10 line.quantity
