-- Checks of parents, of each warehouse's consistency condition (TPC-C clause 3.3.2.1), and all checks in order.
use Rattle.std.specs.Prelude.{◌≡◌, ◌==◌, ◌<◌, ◌*◌, ◌+ℤ◌, slice_index_or, nat_le, ◌&&◌, Bool, true, false, not, ℕ, ℤ, pos, List, Option, Some, None, Result, Ok, Err, if◌then◌else◌}
use Rattle.std.specs.Ordering.{int_eq}
use Rattle.std.specs.List.{list_all}
use Rattle.std.specs.FinMap as map
use Rattle.catalog.specs.declared.card.Card.{Card}
use Rattle.catalog.specs.declared.card.CardKey.{CardKey}
use Rattle.catalog.specs.declared.card.CardKey.TheVariants as card_key
use Rattle.records.specs.Fields.{IsWithin}
use Rattle.tpcc_model.specs.Conditions.{district_share}
use Rattle.tpcc_model.specs.Database.{Database}
use Rattle.tpcc_rows.specs.Limits.{most_cents, ten}
use Rattle.tpcc_rows.specs.RowMap.{Rows}
use Rattle.tpcc_rows.specs.Rows.{order_row}
use Rattle.tpcc_rows.specs.Totals.{sum_entries, total}
use Rattle.tpcc_rows.specs.declared.key.RowKey.{RowKey}
use Rattle.tpcc_rows.specs.declared.key.RowKey.TheVariants as key
use Rattle.tpcc_rows.specs.declared.row.OrderRow.{OrderRow}
use Rattle.tpcc_rows.specs.declared.row.Row.{Row}
use Rattle.tpcc_rows.specs.declared.row.Row.TheVariants as row
use Rattle.image_checks.specs.Districts.{line_counts_agree, next_orders_agree, spans_agree}
use Rattle.image_records.specs.Databases.{has_card, has_row}
use Rattle.image_records.specs.declared.fault.LoadError.{LoadError}
use Rattle.image_records.specs.declared.fault.LoadError.TheVariants as err

-- a district's card has both its rows; other cards have no such rows
abbrev pub has_own_rows : Rows → CardKey → Bool
has_own_rows rows (card_key.District w d) = has_row rows (key.DistrictYtd w d) && has_row rows (key.DistrictNext w d)
has_own_rows rows _ = true

-- a warehouse has its ten districts, a district its warehouse and its rows, a customer its district, and a stock its
-- warehouse and its item
abbrev pub card_has_parents : Database → CardKey × Card → Bool
card_has_parents db (card_key.Warehouse w, _) = list_all (λ d. has_card db.cards (card_key.District w d)) ten
card_has_parents db (card_key.District w d, _) =
    has_card db.cards (card_key.Warehouse w) && has_own_rows db.rows (card_key.District w d)
card_has_parents db (card_key.Customer w d c, _) = has_card db.cards (card_key.District w d)
card_has_parents db (card_key.Stock w i, _) =
    has_card db.cards (card_key.Warehouse w) && has_card db.cards (card_key.Item i)
card_has_parents db (card_key.Item i, _) = true

-- there is an order, of at least `number` lines
abbrev pub has_line : ℕ → Option OrderRow → Bool
has_line number None = false
has_line number (Some order) = nat_le number order.line_count

-- an order has its district and its customer, a new order its order, an order line its order, with a count of lines no
-- less than its number, and its stock, a row of HISTORY its customer and its district, and a district's rows the district
abbrev pub row_has_parents : Database → RowKey × Row → Bool
row_has_parents db (key.Order w d o, row.Order r) =
    has_card db.cards (card_key.District w d) && has_card db.cards (card_key.Customer w d r.customer)
row_has_parents db (key.NewOrder w d o, _) = has_row db.rows (key.Order w d o)
row_has_parents db (key.OrderLine w d o number, row.OrderLine r) =
    has_line number (order_row db.rows w d o) && has_card db.cards (card_key.Stock r.supply r.item)
row_has_parents db (key.History number, row.History r) =
    has_card db.cards (card_key.Customer r.customer_warehouse r.customer_district r.customer)
    && has_card db.cards (card_key.District r.warehouse r.district)
row_has_parents db (key.DistrictYtd w d, _) = has_card db.cards (card_key.District w d)
row_has_parents db (key.DistrictNext w d, _) = has_card db.cards (card_key.District w d)
row_has_parents db (_, _) = true

unfoldable pub parents_there : Database → Bool
parents_there db =
    list_all (card_has_parents db) (map.entries db.cards)
    && list_all (row_has_parents db) (map.entries db.rows)

-- condition 1: W_YTD of a warehouse is the sum of D_YTD over its districts
abbrev pub ytd_agrees : Rows → RowKey × Row → Bool
ytd_agrees rows (key.Warehouse w, row.Warehouse r) = int_eq r.ytd (total (district_share w) rows)
ytd_agrees rows (_, _) = true

unfoldable pub ytds_agree : Rows → Bool
ytds_agree rows = list_all (ytd_agrees rows) (map.entries rows)

-- the database, or the first failed check
abbrev pub checked : Database → Result Database LoadError
checked db =
    if not (parents_there db) then Err err.MissingParent
    else if not (ytds_agree db.rows) then Err (err.Inconsistent 1)
    else if not (next_orders_agree db.rows) then Err (err.Inconsistent 2)
    else if not (spans_agree db.rows) then Err (err.Inconsistent 3)
    else if not (line_counts_agree db.rows) then Err (err.Inconsistent 4)
    else Ok db

-- ---- sums of the warehouses, row by row
abbrev pub sum_at : List ℤ → ℕ → ℤ
sum_at sums w = slice_index_or sums w (pos 0)

-- the sum of each warehouse so far and what the rows left add to it are the whole sum
abbrev pub AreSumsBefore : List (RowKey × Row) → List ℤ → Rows → Type 0
AreSumsBefore left sums rows =
    (w : ℕ) → w < 101 → (sum_at sums w +ℤ sum_entries (district_share w) left) ≡ total (district_share w) rows

-- what a row adds to the sum of its warehouse; it adds nothing to those of others
abbrev pub IsShare : RowKey → Row → ℕ × ℤ → Type 0
IsShare k x share = (w : ℕ) → district_share w k x ≡ (if share.0 == w then share.1 else pos 0)

-- each sum is within `n` times the greatest amount
abbrev pub AreWithin : ℕ → List ℤ → Type 0
AreWithin n sums = (w : ℕ) → w < 101 → IsWithin (n * most_cents) (sum_at sums w)

abbrev pub AreSums : List ℤ → Rows → Type 0
AreSums sums rows = (w : ℕ) → w < 101 → sum_at sums w ≡ total (district_share w) rows
