use Rattle.std.specs.Prelude.{◌≡◌, ◌++◌, length}
use Rattle.std.specs.FinMap as map
use Rattle.row_tables.specs.Walks.{left}
use Rattle.loader.proofs.joining.append_copies.Given as goal

-- the rows so far and those that are left
abbrev pub invariant-loop-key : goal.invariant-loop-key
invariant-loop-key l = l.rows.items ++ left l.walk ≡ l.fn.rows.items ++ map.entries l.tables

abbrev pub decreases-loop-key : goal.decreases-loop-key
decreases-loop-key l = length (left l.walk)
