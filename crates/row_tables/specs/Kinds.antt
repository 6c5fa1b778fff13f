-- The rows of each kind in a map of their own.
use Rattle.std.specs.Prelude.{ℕ, ◌==◌, cond, ⊤, map as each, List, [], ◌∷◌}
use Rattle.std.specs.FinMap as map
use Rattle.tables.specs.ByRank.{ByRank}
use Rattle.tables.specs.Keys.{kind_in}
use Rattle.tables.specs.Shelves.{IsPlaced}
use Rattle.tpcc_rows.specs.declared.row.Row.{Row}
use Rattle.tpcc_rows.specs.declared.row.Row.TheVariants as row
use Rattle.tpcc_rows.specs.declared.row.WarehouseRow.{WarehouseRow}
use Rattle.tpcc_rows.specs.declared.row.DistrictYtdRow.{DistrictYtdRow}
use Rattle.tpcc_rows.specs.declared.row.DistrictNextRow.{DistrictNextRow}
use Rattle.tpcc_rows.specs.declared.row.CustomerRow.{CustomerRow}
use Rattle.tpcc_rows.specs.declared.row.HistoryRow.{HistoryRow}
use Rattle.tpcc_rows.specs.declared.row.StockRow.{StockRow}
use Rattle.tpcc_rows.specs.declared.row.OrderRow.{OrderRow}
use Rattle.tpcc_rows.specs.declared.row.OrderLineRow.{OrderLineRow}
use Rattle.row_tables.specs.RankRows.{RankRows}

-- rows of one kind as rows of any kind
unfoldable pub typed : {X : Type 0} → (X → Row) → ByRank X → RankRows
typed make m = map.from_entries (each (λ e. (e.0, make e.1)) (map.entries m))

-- the place of a kind's map
abbrev pub table_of_kind : ℕ → ℕ
table_of_kind k =
    cond (k == 1) 0
    (cond (k == 3) 1
    (cond (k == 4) 2
    (cond (k == 5) 3
    (cond (k == 6) 4
    (cond (k == 7) 5
    (cond (k == 8) 6
    (cond (k == 9) 7 8)))))))

-- the place of a rank's map
abbrev pub table_of : ℕ → ℕ
table_of r = table_of_kind (kind_in r)

-- the place of a row's map
abbrev pub table_of_row : Row → ℕ
table_of_row (row.Warehouse r) = 0
table_of_row (row.Customer r) = 1
table_of_row (row.Stock r) = 2
table_of_row (row.Order r) = 3
table_of_row row.NewOrder = 4
table_of_row (row.OrderLine r) = 5
table_of_row (row.History r) = 6
table_of_row (row.DistrictYtd r) = 7
table_of_row (row.DistrictNext r) = 8

-- a map for each kind, at its place
abbrev pub kinds : ByRank WarehouseRow → ByRank CustomerRow → ByRank StockRow → ByRank OrderRow → ByRank ⊤ → ByRank OrderLineRow → ByRank HistoryRow → ByRank DistrictYtdRow → ByRank DistrictNextRow
    → List RankRows
kinds warehouses customers stocks orders new_orders lines history ytds nexts =
    typed (λ r. row.Warehouse r) warehouses
    ∷ typed (λ r. row.Customer r) customers
    ∷ typed (λ r. row.Stock r) stocks
    ∷ typed (λ r. row.Order r) orders
    ∷ typed (λ _. row.NewOrder) new_orders
    ∷ typed (λ r. row.OrderLine r) lines
    ∷ typed (λ r. row.History r) history
    ∷ typed (λ r. row.DistrictYtd r) ytds
    ∷ typed (λ r. row.DistrictNext r) nexts
    ∷ []

-- each rank is in its kind's map alone
abbrev pub AreByKind : List RankRows → Type 0
AreByKind maps = IsPlaced table_of maps
