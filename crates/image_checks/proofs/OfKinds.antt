-- What concerns the rows of one kind alone.
use Rattle.std.proofs.Common.{◌≡◌, ◌≤◌, ℕ, suc, ℤ, pos, ◌+ℤ◌, Bool, true, false, cond, List, [], ◌∷◌, length, refl, sym, ap, ◌∙◌, arith}
use Rattle.std.proofs.lemmas.Int.{ints}
use Rattle.std.specs.List.{filter, list_all}
use Rattle.std.specs.Prelude.{◌&&◌}
use Rattle.tpcc_model.specs.Conditions.{district_share}
use Rattle.tpcc_rows.specs.RowMap.{Rows}
use Rattle.tpcc_rows.specs.Totals.{sum_entries}
use Rattle.tpcc_rows.specs.declared.key.RowKey.{RowKey}
use Rattle.tpcc_rows.specs.declared.key.RowKey.TheVariants as key
use Rattle.tpcc_rows.specs.declared.row.Row.{Row}
use Rattle.row_tables.specs.Parts.{is_of_table}
use Rattle.image_checks.specs.Checks.{ytd_agrees}
use Rattle.image_checks.specs.Districts.{conditions_at}
use Rattle.image_checks.specs.declared.districts.OrderConditions.{OrderConditions}

-- a test that all others pass
pub all-filter : (p test : RowKey × Row → Bool) → ((e : RowKey × Row) → p e ≡ false → test e ≡ true) → (es : List (RowKey × Row)) → list_all test (filter p es) ≡ list_all test es
all-filter p test others [] = refl
all-filter p test others (e ∷ es) = by (p e) refl (all-filter p test others es)
  where
    by : (b : Bool) → p e ≡ b → list_all test (filter p es) ≡ list_all test es → list_all test (cond b (e ∷ filter p es) (filter p es)) ≡ (test e && list_all test es)
    by true is rest = ap (λ c. test e && c) rest
    by false is rest = rest ∙ sym (ap (λ c. c && list_all test es) (others e is))

-- a share that others don't have
pub sum-filter : (p : RowKey × Row → Bool) (share : RowKey → Row → ℤ) → ((e : RowKey × Row) → p e ≡ false → share e.0 e.1 ≡ pos 0) → (es : List (RowKey × Row))
    → sum_entries share (filter p es) ≡ sum_entries share es
sum-filter p share others [] = refl
sum-filter p share others (e ∷ es) = by (p e) refl (sum-filter p share others es)
  where
    by : (b : Bool) → p e ≡ b → sum_entries share (filter p es) ≡ sum_entries share es → sum_entries share (cond b (e ∷ filter p es) (filter p es)) ≡ (share e.0 e.1 +ℤ sum_entries share es)
    by true is rest = ap (λ n. share e.0 e.1 +ℤ n) rest
    by false is rest = (let none = others e is in omega (arith, ints, none, rest))

pub filter-shorter : (p : RowKey × Row → Bool) (es : List (RowKey × Row)) → length (filter p es) ≤ length es
filter-shorter p [] = omega arith
filter-shorter p (e ∷ es) = by (p e) (filter-shorter p es)
  where
    by : (b : Bool) → length (filter p es) ≤ length es → length (cond b (e ∷ filter p es) (filter p es)) ≤ suc (length es)
    by true rest = omega (arith, rest)
    by false rest = omega (arith, rest)

pub no-share : (w : ℕ) (e : RowKey × Row) → is_of_table 7 e ≡ false → district_share w e.0 e.1 ≡ pos 0
no-share w (key.DistrictYtd v d, x) h = cc
no-share w (key.Warehouse v, x) h = refl
no-share w (key.Customer v d c, x) h = refl
no-share w (key.Stock v i, x) h = refl
no-share w (key.Order v d o, x) h = refl
no-share w (key.NewOrder v d o, x) h = refl
no-share w (key.OrderLine v d o n, x) h = refl
no-share w (key.History n, x) h = refl
no-share w (key.DistrictNext v d, x) h = refl

abbrev pub all_hold : OrderConditions
all_hold = record { next_order = true; new_orders = true; lines = true }

module _ (rows : Rows) where
  pub no-warehouse : (e : RowKey × Row) → is_of_table 0 e ≡ false → ytd_agrees rows e ≡ true
  no-warehouse (key.Warehouse v, x) h = cc
  no-warehouse (key.Customer v d c, x) h = refl
  no-warehouse (key.Stock v i, x) h = refl
  no-warehouse (key.Order v d o, x) h = refl
  no-warehouse (key.NewOrder v d o, x) h = refl
  no-warehouse (key.OrderLine v d o n, x) h = refl
  no-warehouse (key.History n, x) h = refl
  no-warehouse (key.DistrictYtd v d, x) h = refl
  no-warehouse (key.DistrictNext v d, x) h = refl

  -- the conditions of a district hold at all other rows
  pub no-district : (e : RowKey × Row) → is_of_table 8 e ≡ false → conditions_at rows e ≡ all_hold
  no-district (key.DistrictNext v d, x) h = cc
  no-district (key.Warehouse v, x) h = refl
  no-district (key.Customer v d c, x) h = refl
  no-district (key.Stock v i, x) h = refl
  no-district (key.Order v d o, x) h = refl
  no-district (key.NewOrder v d o, x) h = refl
  no-district (key.OrderLine v d o n, x) h = refl
  no-district (key.History n, x) h = refl
  no-district (key.DistrictYtd v d, x) h = refl
