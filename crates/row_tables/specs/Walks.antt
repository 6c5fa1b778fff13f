-- A walk through rows in key order.
use Rattle.std.specs.Prelude.{◌+◌, cond, drop, nat_lt, List, [], ◌++◌}
use Rattle.tpcc_rows.specs.declared.key.RowKey.{RowKey}
use Rattle.tpcc_rows.specs.declared.row.Row.{Row}
use Rattle.row_tables.specs.declared.walk.Walk.{Walk}
use Rattle.row_tables.specs.Parts.{part_rows, rows_between}

-- the rows that are left
abbrev pub left : Walk → List (RowKey × Row)
left walk =
    cond (nat_lt walk.part walk.end)
    (drop walk.next (part_rows walk.rows.now walk.part) ++ rows_between walk.rows.now (walk.part + 1) walk.end) []
