-- The rows in parts: those of one kind and, but for payments, of one warehouse and district. In key order, part follows part.
use Rattle.std.specs.Prelude.{◌≡◌, ◌==◌, ◌&&◌, ◌+◌, ◌*◌, ◌<◌, ◌^◌, ℕ, Bool, cond, length, nat_le, nat_lt, List, ◌++◌}
use Rattle.std.specs.FinMap as map
use Rattle.std.specs.List.{filter}
use Rattle.tables.specs.Shelves.{place_of, rows_at}
use Rattle.tables.specs.declared.keys.TheConstants.{PLACES}
use Rattle.tpcc_rows.specs.Ranks.{kind, rank}
use Rattle.tpcc_rows.specs.References.{row_of}
use Rattle.tpcc_rows.specs.RowMap.{Rows}
use Rattle.tpcc_rows.specs.declared.key.RowKey.{RowKey}
use Rattle.tpcc_rows.specs.declared.row.Row.{Row}
use Rattle.tpcc_rows.specs.declared.row_ref.RowRef.{RowRef}
use Rattle.row_tables.specs.declared.store.TheConstants.{PARTS}
use Rattle.row_tables.specs.Kinds.{table_of, table_of_kind}
use Rattle.row_tables.specs.RankRows.{RankRows}

-- the part of a rank: its kind's, and of these its warehouse's and district's
abbrev pub part_in : ℕ → ℕ
part_in r = table_of r * PLACES + cond (table_of r == 6) 0 (place_of r)

abbrev pub part_of : RowKey → ℕ
part_of k = part_in (rank k)

-- the rows of a part by rank
abbrev pub ranks_in : RankRows → ℕ → RankRows
ranks_in m part = rows_at part_in m part

-- a key, and the row behind a reference
abbrev pub lent : RowKey × RowRef → RowKey × Row
lent e = (e.0, row_of e.1)

-- the rows of a part in key order
unfoldable pub part_rows : Rows → ℕ → List (RowKey × Row)
part_rows rows part = filter (λ e. part_of e.0 == part) (map.entries rows)

-- the rows of the parts from this one up to that one, in key order
unfoldable pub rows_between : Rows → ℕ → ℕ → List (RowKey × Row)
rows_between rows part end = filter (λ e. nat_le part (part_of e.0) && nat_lt (part_of e.0) end) (map.entries rows)

-- the key's kind is that of the table
abbrev pub is_of_table : ℕ → RowKey × Row → Bool
is_of_table table e = table_of_kind (kind e.0) == table

-- in key order, part follows part, and kind follows kind; and there are fewer rows than ranks
pub record AreInParts (rows : Rows) : Type 0 where
  pub all : rows_between rows 0 PARTS ≡ map.entries rows
  pub first : (part end : ℕ) → part < end → rows_between rows part end ≡ part_rows rows part ++ rows_between rows (part + 1) end
  pub of_table : (table : ℕ) → rows_between rows (table * PLACES) ((table + 1) * PLACES) ≡ filter (is_of_table table) (map.entries rows)
  pub few : length (map.entries rows) < 2 ^ 63
