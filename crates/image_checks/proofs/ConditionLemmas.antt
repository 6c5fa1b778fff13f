-- The conditions on the orders of all districts, row by row.
use Rattle.std.proofs.Common.{◌≡◌, List, [], ◌∷◌, sym, ap, ◌∙◌}
use mathlib.Core.Bool.{and-true, and_assoc}
use Rattle.std.specs.FinMap.{entries}
use Rattle.std.specs.List.{filter, list_all}
use Rattle.tpcc_rows.specs.RowMap.{Rows}
use Rattle.tpcc_rows.specs.declared.key.RowKey.{RowKey}
use Rattle.tpcc_rows.specs.declared.row.Row.{Row}
use Rattle.row_tables.specs.Parts.{is_of_table}
use Rattle.image_checks.specs.Districts.{both_hold, conditions_at, line_count_agrees, next_order_agrees, span_agrees}
use Rattle.image_checks.specs.declared.districts.OrderConditions.{OrderConditions}
use Rattle.image_checks.proofs.OfKinds.{all-filter, all_hold, no-district}

pub same_conditions : (a b : OrderConditions) → a.next_order ≡ b.next_order → a.new_orders ≡ b.new_orders → a.lines ≡ b.lines → a ≡ b
same_conditions a b p q r = λ i. record { next_order = p i; new_orders = q i; lines = r i }

both_hold-all : (a : OrderConditions) → both_hold a all_hold ≡ a
both_hold-all a = same_conditions _ _ (and-true a.next_order) (and-true a.new_orders) (and-true a.lines)

both_hold-assoc : (a b c : OrderConditions) → both_hold (both_hold a b) c ≡ both_hold a (both_hold b c)
both_hold-assoc a b c = same_conditions _ _
    (and_assoc a.next_order b.next_order c.next_order) (and_assoc a.new_orders b.new_orders c.new_orders) (and_assoc a.lines b.lines c.lines)

module _ (rows : Rows) where
  -- the conditions that hold at each row of a list
  abbrev pub conditions_in : List (RowKey × Row) → OrderConditions
  conditions_in es = record {
    next_order = list_all (next_order_agrees rows) es;
    new_orders = list_all (span_agrees rows) es;
    lines = list_all (line_count_agrees rows) es;
  }

  -- rows of other kinds break no condition
  conditions_in-filter : (es : List (RowKey × Row)) → conditions_in (filter (is_of_table 8) es) ≡ conditions_in es
  conditions_in-filter es = same_conditions _ _
      (all-filter (is_of_table 8) (next_order_agrees rows) (λ e other. ap (λ c. c.next_order) (no-district rows e other)) es)
      (all-filter (is_of_table 8) (span_agrees rows) (λ e other. ap (λ c. c.new_orders) (no-district rows e other)) es)
      (all-filter (is_of_table 8) (line_count_agrees rows) (λ e other. ap (λ c. c.lines) (no-district rows e other)) es)

  -- the conditions so far and those at the rows left are the conditions at all rows
  abbrev pub AreConditionsBefore : List (RowKey × Row) → OrderConditions → Type 0
  AreConditionsBefore left so_far = both_hold so_far (conditions_in left) ≡ conditions_in (entries rows)

  -- at the start all districts are left
  pub none_seen : (left : List (RowKey × Row)) → left ≡ filter (is_of_table 8) (entries rows) → AreConditionsBefore left all_hold
  none_seen left is = ap conditions_in is ∙ conditions_in-filter (entries rows)

  pub one_seen : (so_far new : OrderConditions) (e : RowKey × Row) (rest left : List (RowKey × Row)) → left ≡ e ∷ rest
      → new ≡ both_hold so_far (conditions_at rows e) → AreConditionsBefore left so_far → AreConditionsBefore rest new
  one_seen so_far new e rest left is more before =
      ap (λ c. both_hold c (conditions_in rest)) more ∙ both_hold-assoc so_far (conditions_at rows e) (conditions_in rest)
      ∙ ap (λ es. both_hold so_far (conditions_in es)) (sym is) ∙ before

  -- no row is left
  pub all_seen : (so_far : OrderConditions) (left : List (RowKey × Row)) → left ≡ [] → AreConditionsBefore left so_far → so_far ≡ conditions_in (entries rows)
  all_seen so_far left none before = sym (both_hold-all so_far) ∙ ap (λ es. both_hold so_far (conditions_in es)) (sym none) ∙ before
