-- Totals of each district's orders, new orders and order lines.
use Rattle.std.specs.Prelude.{◌≡◌, ◌==◌, ◌&&◌, ◌+◌, ◌*◌, ◌+ℤ◌, max, min, slice_index_or, ℕ, pos, List, Option, Some, None, if◌then◌else◌}
use Rattle.records.specs.Fields.{IsWithin}
use Rattle.tpcc_model.specs.Conditions.{line_share, new_order_share, promised_share}
use Rattle.tpcc_rows.specs.Limits.{IsBetween}
use Rattle.tpcc_rows.specs.Picks.{greatest, least, new_pick}
use Rattle.tpcc_rows.specs.RowMap.{Rows}
use Rattle.tpcc_rows.specs.Totals.{total}
use Rattle.tpcc_rows.specs.declared.key.RowKey.{RowKey}
use Rattle.tpcc_rows.specs.declared.row.Row.{Row}
use Rattle.image_checks.specs.Districts.{district_order_pick, new_order_numbers, order_numbers}
use Rattle.image_checks.specs.declared.totals.Totals.{Totals}

-- one of two numbers, or the only one
abbrev pub one_of : (ℕ → ℕ → ℕ) → Option ℕ → Option ℕ → Option ℕ
one_of choice m None = m
one_of choice None (Some n) = Some n
one_of choice (Some m) (Some n) = Some (choice m n)

abbrev pub empty_totals : Totals
empty_totals = record {
  last_order = None;
  first_new_order = None;
  last_new_order = None;
  new_orders = pos 0;
  promised_lines = pos 0;
  lines = pos 0;
}

-- what a row adds to the totals of the district
abbrev pub row_totals : ℕ → ℕ → RowKey × Row → Totals
row_totals w d e = record {
  last_order = district_order_pick w d e.0 e.1;
  first_new_order = new_pick w d e.0 e.1;
  last_new_order = new_pick w d e.0 e.1;
  new_orders = new_order_share w d e.0 e.1;
  promised_lines = promised_share w d e.0 e.1;
  lines = line_share w d e.0 e.1;
}

-- what a row adds to the totals of its district; it adds nothing to those of others
abbrev pub AreTotalsOf : RowKey × Row → ℕ × ℕ × Totals → Type 0
AreTotalsOf e entry = (w d : ℕ) → row_totals w d e ≡ (if entry.0 == w && entry.1 == d then entry.2 else empty_totals)

-- the sum of two totals
abbrev pub both : Totals → Totals → Totals
both a b = record {
  last_order = one_of max a.last_order b.last_order;
  first_new_order = one_of min a.first_new_order b.first_new_order;
  last_new_order = one_of max a.last_new_order b.last_new_order;
  new_orders = a.new_orders +ℤ b.new_orders;
  promised_lines = a.promised_lines +ℤ b.promised_lines;
  lines = a.lines +ℤ b.lines;
}

-- the totals of the district
abbrev pub district_totals : ℕ → ℕ → Rows → Totals
district_totals w d rows = record {
  last_order = greatest (order_numbers rows w d);
  first_new_order = least (new_order_numbers rows w d);
  last_new_order = greatest (new_order_numbers rows w d);
  new_orders = total (new_order_share w d) rows;
  promised_lines = total (promised_share w d) rows;
  lines = total (line_share w d) rows;
}

abbrev pub totals_at : List Totals → ℕ → ℕ → Totals
totals_at totals w d = slice_index_or totals (w * 10 + d) empty_totals

-- the row is added to the totals of its district
abbrev pub IsAdded : List Totals → RowKey × Row → List Totals → Type 0
IsAdded old e new =
    (w d : ℕ) → IsBetween 1 100 w → IsBetween 1 10 d → totals_at new w d ≡ both (totals_at old w d) (row_totals w d e)

abbrev pub AreTotals : List Totals → Rows → Type 0
AreTotals totals rows = (w d : ℕ) → IsBetween 1 100 w → IsBetween 1 10 d → totals_at totals w d ≡ district_totals w d rows

-- sums over `n` rows, each of which adds at most 15
pub record IsOfRows (n : ℕ) (totals : Totals) : Type 0 where
  pub new_orders : IsWithin (n * 15) totals.new_orders
  pub promised_lines : IsWithin (n * 15) totals.promised_lines
  pub lines : IsWithin (n * 15) totals.lines

abbrev pub AreOfRows : ℕ → List Totals → Type 0
AreOfRows n totals = (w d : ℕ) → IsBetween 1 100 w → IsBetween 1 10 d → IsOfRows n (totals_at totals w d)
