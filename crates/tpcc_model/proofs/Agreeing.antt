-- What row maps that agree on granules have in common.
use Rattle.std.proofs.Common.{◌≡◌, ◌&&◌, ◌==◌, ℕ, Bool, true, false, cond, List, Option, Some, None, refl, sym, ap, subst, ◌∙◌, arith}
use Rattle.std.proofs.lemmas.Bool.Decides.{nat_tests}
use Rattle.std.specs.Option.{option_and_then}
use Rattle.std.specs.FinMap.{get}
use Rattle.serializability.specs.Footprints.{Has}
use Rattle.serializability.proofs.Agreement.{same_picks}
use Rattle.tpcc_rows.specs.Changing.{after}
use Rattle.tpcc_rows.specs.Picks.{latest, least, greatest, new_pick, oldest, order_pick, picked}
use Rattle.tpcc_rows.specs.RowKinds.{as_customer, as_district_next, as_district_ytd, as_order, as_order_line, as_stock, as_warehouse}
use Rattle.tpcc_rows.specs.RowMap.{Changes, Rows}
use Rattle.tpcc_rows.specs.Rows.{customer_row, district_next_row, district_ytd_row, order_line_row, order_row, stock_row, warehouse_row}
use Rattle.tpcc_rows.specs.declared.granule.Granule.{Granule}
use Rattle.tpcc_rows.specs.declared.granule.Granule.TheVariants as part
use Rattle.tpcc_rows.specs.declared.key.RowKey.{RowKey}
use Rattle.tpcc_rows.specs.declared.key.RowKey.TheVariants as key
use Rattle.tpcc_rows.specs.declared.row.Row.{Row}
use Rattle.tpcc_rows.specs.declared.row.Row.TheVariants as row
use Rattle.tpcc_rows.proofs.Changes.{chosen, get-after}
use Rattle.tpcc_rows.proofs.Keys.{row_key_cmp_total, exact_keys}
use Rattle.tpcc_model.specs.Touches.{Agree}

-- with fewer granules
pub agree-part : (s t : Rows) (gs hs : List Granule) → ((g : Granule) → Has hs g → Has gs g) → Agree s t gs → Agree s t hs
agree-part s t gs hs part agree k g is h = agree k g is (part g h)

-- after the same changes
pub agree-after : (s t : Rows) (changes : Changes) (gs : List Granule) → Agree s t gs → Agree (after s changes) (after t changes) gs
agree-after s t changes gs agree k g is h = get-after s changes k ∙ ap (chosen (get changes k)) (agree k g is h) ∙ sym (get-after t changes k)

-- ---- rows
module _ (s t : Rows) (gs : List Granule) (agree : Agree s t gs) where
  pub same_warehouse : (w : ℕ) → Has gs (part.Warehouse w) → warehouse_row t w ≡ warehouse_row s w
  same_warehouse w h = ap (option_and_then as_warehouse) (sym (agree (key.Warehouse w) (part.Warehouse w) refl h))

  pub same_district_ytd : (w d : ℕ) → Has gs (part.DistrictYtd w d) → district_ytd_row t w d ≡ district_ytd_row s w d
  same_district_ytd w d h = ap (option_and_then as_district_ytd) (sym (agree (key.DistrictYtd w d) (part.DistrictYtd w d) refl h))

  pub same_district_next : (w d : ℕ) → Has gs (part.DistrictNext w d) → district_next_row t w d ≡ district_next_row s w d
  same_district_next w d h = ap (option_and_then as_district_next) (sym (agree (key.DistrictNext w d) (part.DistrictNext w d) refl h))

  pub same_customer : (w d c : ℕ) → Has gs (part.Customer w d c) → customer_row t w d c ≡ customer_row s w d c
  same_customer w d c h = ap (option_and_then as_customer) (sym (agree (key.Customer w d c) (part.Customer w d c) refl h))

  pub same_stock : (w i : ℕ) → Has gs (part.Stock w i) → stock_row t w i ≡ stock_row s w i
  same_stock w i h = ap (option_and_then as_stock) (sym (agree (key.Stock w i) (part.Stock w i) refl h))

  pub same_order : (w d o : ℕ) → Has gs (part.Book w d) → order_row t w d o ≡ order_row s w d o
  same_order w d o h = ap (option_and_then as_order) (sym (agree (key.Order w d o) (part.Book w d) refl h))

  pub same_order_line : (w d o n : ℕ) → Has gs (part.Book w d) → order_line_row t w d o n ≡ order_line_row s w d o n
  same_order_line w d o n h = ap (option_and_then as_order_line) (sym (agree (key.OrderLine w d o n) (part.Book w d) refl h))

-- ---- what is picked
-- the key is in the book of the district
abbrev is_booked : ℕ → ℕ → RowKey → Bool
is_booked w d (key.Order v e o) = v == w && e == d
is_booked w d (key.NewOrder v e o) = v == w && e == d
is_booked w d (key.OrderLine v e o n) = v == w && e == d
is_booked w d _ = false

none_new : (w d : ℕ) (k : RowKey) (x : Row) → is_booked w d k ≡ false → new_pick w d k x ≡ None
none_new w d (key.NewOrder v e o) row.NewOrder h = ap (λ b. cond b (Some o) None) h
none_new w d _ _ h = refl

not-both : (a b c : Bool) → (a && b) ≡ false → (a && b && c) ≡ false
not-both true true c h = cc
not-both true false c h = refl
not-both false b c h = refl

none_ordered : (w d c : ℕ) (k : RowKey) (x : Row) → is_booked w d k ≡ false → order_pick w d c k x ≡ None
none_ordered w d c (key.Order v e o) (row.Order r) h = ap (λ b. cond b (Some o) None) (not-both (v == w) (e == d) (r.customer == c) h)
none_ordered w d c _ _ h = refl

module _ (s t : Rows) (gs : List Granule) (agree : Agree s t gs) (w d : ℕ) (has : Has gs (part.Book w d)) where
  in_book : (v e : ℕ) → (v == w && e == d) ≡ true → Has gs (part.Book v e)
  in_book v e h =
      let a : v ≡ w = grind (arith, nat_tests) in
      let b : e ≡ d = grind (arith, nat_tests) in
      let same : part.Book w d ≡ part.Book v e = cc in
      subst (Has gs) same has

  book_agrees : (k : RowKey) → is_booked w d k ≡ true → get s k ≡ get t k
  book_agrees (key.Order v e o) h = agree (key.Order v e o) (part.Book v e) refl (in_book v e h)
  book_agrees (key.NewOrder v e o) h = agree (key.NewOrder v e o) (part.Book v e) refl (in_book v e h)
  book_agrees (key.OrderLine v e o n) h = agree (key.OrderLine v e o n) (part.Book v e) refl (in_book v e h)
  book_agrees _ h = cc

  -- what is picked in the book alone
  same_picked : {Y : Type 0} (pick : RowKey → Row → Option Y) → ((k : RowKey) (x : Row) → is_booked w d k ≡ false → pick k x ≡ None) → picked pick t ≡ picked pick s
  unfolding picked
  same_picked pick none = sym (same_picks row_key_cmp_total exact_keys s t (is_booked w d) (λ e. pick e.0 e.1) (λ e. none e.0 e.1) book_agrees)

  pub same_oldest : oldest t w d ≡ oldest s w d
  unfolding oldest
  same_oldest = ap least (same_picked (new_pick w d) (none_new w d))

  pub same_latest : (c : ℕ) → latest t w d c ≡ latest s w d c
  unfolding latest
  same_latest c = ap greatest (same_picked (order_pick w d c) (none_ordered w d c))
