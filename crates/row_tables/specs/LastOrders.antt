-- What is kept of the last orders of a district's customers.
use Rattle.std.specs.Prelude.{◌≡◌, ℕ, map as each, List}
use Rattle.tables.specs.LastOrders.{AreLinked, kept_for, owners}
use Rattle.tables.specs.Shelves.{place_of, rows_at}
use Rattle.tables.specs.declared.last_orders.LastOrders.{LastOrders}
use Rattle.tpcc_rows.specs.Limits.{IsBetween}
use Rattle.tpcc_rows.specs.Picks.{latest}
use Rattle.tpcc_rows.specs.RowMap.{Rows}
use Rattle.tpcc_rows.specs.declared.row.OrderRow.{OrderRow}
use Rattle.tpcc_rows.specs.declared.row.Row.{Row}
use Rattle.tpcc_rows.specs.declared.row.Row.TheVariants.{Order}
use Rattle.row_tables.specs.Kinds.{table_of}
use Rattle.row_tables.specs.RankRows.{RankRows}

-- the orders of the district at this place
abbrev pub order_rows : RankRows → ℕ → RankRows
order_rows m place = rows_at place_of (rows_at table_of m 3) place

-- orders as rows of any kind
abbrev pub as_orders : List (ℕ × OrderRow) → List (ℕ × Row)
as_orders es = each (λ e. (e.0, Order e.1)) es

-- the rows are orders, whose last ones are kept
pub record AreLastOf (rows : List (ℕ × Row)) (kept : LastOrders) : Type 0 where
  pub orders : List (ℕ × OrderRow)
  pub same : as_orders orders ≡ rows
  pub linked : AreLinked kept (owners orders)

-- for each customer of the district its latest order is kept
abbrev pub AreLatest : Rows → ℕ → ℕ → LastOrders → Type 0
AreLatest rows w d kept = (c : ℕ) → IsBetween 1 3000 c → kept_for kept c ≡ latest rows w d c
