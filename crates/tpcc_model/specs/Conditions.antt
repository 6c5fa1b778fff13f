-- The consistency conditions 1 to 4 (TPC-C clauses 3.3.2.1 to 3.3.2.4).
use Rattle.std.specs.Prelude.{◌≡◌, ◌⊎◌, ℕ, ◌+◌, ◌-◌, ◌≤◌, ℤ, pos, ◌==◌, ◌&&◌, if◌then◌else◌, Some, IfSome}
use Rattle.std.specs.FinMap as map
use Rattle.tpcc_rows.specs.RowMap.{Rows}
use Rattle.tpcc_rows.specs.Rows.{warehouse_row}
use Rattle.tpcc_rows.specs.Totals.{total}
use Rattle.tpcc_rows.specs.declared.key.RowKey.{RowKey}
use Rattle.tpcc_rows.specs.declared.key.RowKey.TheVariants as key
use Rattle.tpcc_rows.specs.declared.row.Row.{Row}
use Rattle.tpcc_rows.specs.declared.row.Row.TheVariants as row
use Rattle.tpcc_rows.specs.declared.row.OrderRow.{OrderRow}

-- D_YTD, for a district of the warehouse
abbrev pub district_share : ℕ → RowKey → Row → ℤ
district_share w (key.DistrictYtd v d) (row.DistrictYtd r) = if v == w then r.ytd else pos 0
district_share w _ _ = pos 0

-- W_YTD of each warehouse is the sum of D_YTD over its districts
abbrev pub Condition1 : Rows → Type 0
Condition1 rows = (w : ℕ) → IfSome (warehouse_row rows w) (λ warehouse. warehouse.ytd ≡ total (district_share w) rows)

-- the number of an order, or of a new order, of the district
abbrev pub HasOrder : Rows → ℕ → ℕ → ℕ → Type 0
HasOrder rows w d o = (r : OrderRow) × (map.get rows (key.Order w d o) ≡ Some (row.Order r))

abbrev pub HasNewOrder : Rows → ℕ → ℕ → ℕ → Type 0
HasNewOrder rows w d o = map.get rows (key.NewOrder w d o) ≡ Some row.NewOrder

pub record IsGreatest (P : ℕ → Type 0) (n : ℕ) : Type 0 where
  pub there : P n
  pub above : (x : ℕ) → P x → x ≤ n

pub record IsLeast (P : ℕ → Type 0) (n : ℕ) : Type 0 where
  pub there : P n
  pub below : (x : ℕ) → P x → n ≤ x

-- the greatest, 0 for none
pub record IsGreatestOr0 (P : ℕ → Type 0) (n : ℕ) : Type 0 where
  pub there : (n ≡ 0) ⊎ P n
  pub above : (x : ℕ) → P x → x ≤ n

-- 1 for each new order of the district
abbrev pub new_order_share : ℕ → ℕ → RowKey → Row → ℤ
new_order_share w d (key.NewOrder v e o) row.NewOrder = if v == w && e == d then pos 1 else pos 0
new_order_share w d _ _ = pos 0

-- O_OL_CNT of each order of the district
abbrev pub promised_share : ℕ → ℕ → RowKey → Row → ℤ
promised_share w d (key.Order v e o) (row.Order r) = if v == w && e == d then pos r.line_count else pos 0
promised_share w d _ _ = pos 0

-- 1 for each order line of the district
abbrev pub line_share : ℕ → ℕ → RowKey → Row → ℤ
line_share w d (key.OrderLine v e o n) (row.OrderLine r) = if v == w && e == d then pos 1 else pos 0
line_share w d _ _ = pos 0

-- the conditions of a district with this D_NEXT_O_ID
pub record IsConsistent (rows : Rows) (w d next : ℕ) : Type 0 where
  -- condition 2: D_NEXT_O_ID - 1 is the greatest O_ID, and the greatest NO_O_ID if there is one
  pub last_order : IsGreatestOr0 (HasOrder rows w d) (next - 1)
  pub last_new_order : (o : ℕ) → HasNewOrder rows w d o → IsGreatest (HasNewOrder rows w d) (next - 1)
  -- condition 3: the greatest NO_O_ID less the least, plus one, is the number of new orders
  pub new_orders : (low high : ℕ) → IsLeast (HasNewOrder rows w d) low → IsGreatest (HasNewOrder rows w d) high → pos (high - low + 1) ≡ total (new_order_share w d) rows
  -- condition 4: the sum of O_OL_CNT is the number of order lines
  pub lines : total (promised_share w d) rows ≡ total (line_share w d) rows
