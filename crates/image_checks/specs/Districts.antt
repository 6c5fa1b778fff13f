-- The consistency conditions of each district's orders (TPC-C clauses 3.3.2.2 to 3.3.2.4).
use Rattle.std.specs.Prelude.{◌+◌, ◌-◌, ◌==◌, ◌&&◌, unwrap_or, Bool, true, ℕ, ℤ, pos, List, Option, Some, None, if◌then◌else◌}
use Rattle.std.specs.Option.{option_map_or}
use Rattle.std.specs.Ordering.{int_eq}
use Rattle.std.specs.List.{list_all}
use Rattle.std.specs.FinMap as map
use Rattle.tpcc_model.specs.Conditions.{line_share, new_order_share, promised_share}
use Rattle.tpcc_rows.specs.Picks.{greatest, least, new_pick, picked}
use Rattle.tpcc_rows.specs.RowMap.{Rows}
use Rattle.tpcc_rows.specs.Totals.{total}
use Rattle.tpcc_rows.specs.declared.key.RowKey.{RowKey}
use Rattle.tpcc_rows.specs.declared.key.RowKey.TheVariants as key
use Rattle.tpcc_rows.specs.declared.row.Row.{Row}
use Rattle.tpcc_rows.specs.declared.row.Row.TheVariants as row
use Rattle.image_checks.specs.declared.districts.OrderConditions.{OrderConditions}

-- the number of an order of the district
abbrev pub district_order_pick : ℕ → ℕ → RowKey → Row → Option ℕ
district_order_pick w d (key.Order v e o) (row.Order r) = if v == w && e == d then Some o else None
district_order_pick w d _ _ = None

-- O_ID of the district's orders, and NO_O_ID of its new orders
abbrev pub order_numbers : Rows → ℕ → ℕ → List ℕ
order_numbers rows w d = picked (district_order_pick w d) rows

abbrev pub new_order_numbers : Rows → ℕ → ℕ → List ℕ
new_order_numbers rows w d = picked (new_pick w d) rows

-- one more than the greatest O_ID (or 0 without one), and than the greatest NO_O_ID if there is one
abbrev pub follows_on : ℕ → Option ℕ → Option ℕ → Bool
follows_on next last_order last_new_order =
    unwrap_or last_order 0 == next - 1 && option_map_or (λ o. o == next - 1) last_new_order true

-- condition 2: D_NEXT_O_ID - 1 is the greatest O_ID (or 0 without one), and the greatest NO_O_ID if there is one
abbrev pub next_order_agrees : Rows → RowKey × Row → Bool
next_order_agrees rows (key.DistrictNext w d, row.DistrictNext r) =
    follows_on r.next_order (greatest (order_numbers rows w d)) (greatest (new_order_numbers rows w d))
next_order_agrees rows (_, _) = true

-- there are as many as the least and the greatest span
abbrev pub are_without_gap : Option ℕ → Option ℕ → ℤ → Bool
are_without_gap (Some low) (Some high) count = int_eq (pos (high - low + 1)) count
are_without_gap _ _ count = true

-- condition 3: the numbers of the new orders have no gap
abbrev pub span_agrees : Rows → RowKey × Row → Bool
span_agrees rows (key.DistrictNext w d, row.DistrictNext r) =
    are_without_gap (least (new_order_numbers rows w d)) (greatest (new_order_numbers rows w d)) (total (new_order_share w d) rows)
span_agrees rows (_, _) = true

-- condition 4: the sum of O_OL_CNT is the number of the order lines
abbrev pub line_count_agrees : Rows → RowKey × Row → Bool
line_count_agrees rows (key.DistrictNext w d, row.DistrictNext r) = int_eq (total (promised_share w d) rows) (total (line_share w d) rows)
line_count_agrees rows (_, _) = true

unfoldable pub next_orders_agree : Rows → Bool
next_orders_agree rows = list_all (next_order_agrees rows) (map.entries rows)

unfoldable pub spans_agree : Rows → Bool
spans_agree rows = list_all (span_agrees rows) (map.entries rows)

unfoldable pub line_counts_agree : Rows → Bool
line_counts_agree rows = list_all (line_count_agrees rows) (map.entries rows)

-- the conditions that hold at a row
abbrev pub conditions_at : Rows → RowKey × Row → OrderConditions
conditions_at rows e = record { next_order = next_order_agrees rows e; new_orders = span_agrees rows e; lines = line_count_agrees rows e }

-- the conditions that hold in both
abbrev pub both_hold : OrderConditions → OrderConditions → OrderConditions
both_hold a b = record { next_order = a.next_order && b.next_order; new_orders = a.new_orders && b.new_orders; lines = a.lines && b.lines }
