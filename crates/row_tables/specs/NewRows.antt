-- The new orders of a district.
use Rattle.std.specs.Prelude.{◌≡◌, ℕ, ⊤, map as each, List, Some}
use Rattle.std.specs.FinMap as map
use Rattle.tables.specs.ByRank.{ByRank}
use Rattle.tables.specs.Keys.{order_of}
use Rattle.tables.specs.Shelves.{place_of, rows_at}
use Rattle.tpcc_rows.specs.Picks.{new_pick, picked}
use Rattle.tpcc_rows.specs.RowMap.{Rows}
use Rattle.tpcc_rows.specs.declared.row.Row.{Row}
use Rattle.tpcc_rows.specs.declared.row.Row.TheVariants.{NewOrder}
use Rattle.row_tables.specs.Kinds.{table_of}
use Rattle.row_tables.specs.RankRows.{RankRows}

-- the new orders of the district at this place
abbrev pub new_rows : RankRows → ℕ → RankRows
new_rows m place = rows_at place_of (rows_at table_of m 4) place

-- their ranks with their rows
abbrev pub as_rows : List (ℕ × ⊤) → List (ℕ × Row)
as_rows es = each (λ e. (e.0, NewOrder)) es

-- the ranks are those of the district's new orders
abbrev pub AreNewOrders : Rows → ℕ → ℕ → ByRank ⊤ → Type 0
AreNewOrders rows w d ranks = each (λ e. order_of e.0) (map.entries ranks) ≡ each (λ o. Some o) (picked (new_pick w d) rows)
