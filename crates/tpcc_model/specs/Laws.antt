-- Laws of the definitions.
use Rattle.std.specs.Prelude.{◌≡◌, ◌↔◌, ◌≤◌, ◌<◌, ◌+◌, ◌-◌, ℕ, nat_eq, true, Some}
use Rattle.std.specs.FinMap as map
use Rattle.std.specs.Set.{is_member}
use Rattle.requests.specs.declared.request.StockLevel.{StockLevel}
use Rattle.tpcc_rows.specs.Limits.{IsBetween}
use Rattle.tpcc_rows.specs.RowMap.{Rows}
use Rattle.tpcc_rows.specs.declared.key.RowKey.TheVariants as key
use Rattle.tpcc_rows.specs.declared.row.Row.TheVariants as row
use Rattle.tpcc_rows.specs.declared.row.OrderRow.{OrderRow}
use Rattle.tpcc_rows.specs.declared.row.OrderLineRow.{OrderLineRow}
use Rattle.tpcc_model.specs.Database.{Database}
use Rattle.tpcc_model.specs.Soundness.{IsSound}
use Rattle.tpcc_model.specs.StockLevels.{first_recent, is_low, low_items}

-- the order has a line of this number
abbrev pub HasLine : Rows → ℕ → ℕ → ℕ → ℕ → Type 0
HasLine rows w d o n = (line : OrderLineRow) × (map.get rows (key.OrderLine w d o n) ≡ Some (row.OrderLine line))

-- in a sound database an order has exactly the lines 1 to O_OL_CNT
abbrev pub LinesAreCounted : Type 0
LinesAreCounted = (db : Database) (w d o n : ℕ) (order : OrderRow) → IsSound db → map.get db.rows (key.Order w d o) ≡ Some (row.Order order)
    → HasLine db.rows w d o n ↔ IsBetween 1 order.line_count n

-- the item of a line of one of the district's last twenty orders: D_NEXT_O_ID - 20 <= OL_O_ID < D_NEXT_O_ID
abbrev pub IsRecentItem : Database → StockLevel → ℕ → ℕ → Type 0
IsRecentItem db p next item =
    (o n : ℕ) × (line : OrderLineRow) × (map.get db.rows (key.OrderLine p.warehouse p.district o n) ≡ Some (row.OrderLine line))
    × (next ≤ o + 20) × (o < next) × (line.item ≡ item)

-- in a sound database a stock level counts the low items of such lines
abbrev pub LowItemsAreRecent : Type 0
LowItemsAreRecent = (db : Database) (p : StockLevel) (next item : ℕ) → IsSound db
    → (is_member nat_eq (low_items db p (first_recent next) (next - first_recent next)) item ≡ true) ↔ (IsRecentItem db p next item × (is_low db p item ≡ true))
