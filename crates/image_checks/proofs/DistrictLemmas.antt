-- Districts that pass the checks are consistent.
use Rattle.std.proofs.Common.{◌≡◌, inl, inr, ℕ, ◌+◌, ◌-◌, ℤ, pos, cond, Bool, true, false, ◌==◌, ◌&&◌, List, [], ◌∷◌, Option, Some, None, unwrap_or, refl, sym, ap, ap₂, ◌∙◌, arith}
use Rattle.std.specs.Option.{option_map_or}
use Rattle.std.specs.FinMap.{get}
use Rattle.std.proofs.lemmas.Bool.{eq-eqb, eqb-true}
use Rattle.std.proofs.lemmas.Bool.Decides.{Decides-int_eq}
use Rattle.tpcc_model.specs.Conditions.{HasNewOrder, HasOrder, IsConsistent, IsGreatest, IsGreatestOr0, IsLeast, line_share, new_order_share, promised_share}
use Rattle.tpcc_rows.specs.Picks.{greatest, larger, least, lesser, new_pick}
use Rattle.tpcc_rows.specs.RowMap.{Rows}
use Rattle.tpcc_rows.specs.Totals.{total}
use Rattle.tpcc_rows.specs.declared.key.RowKey.{RowKey}
use Rattle.tpcc_rows.specs.declared.key.RowKey.TheVariants as key
use Rattle.tpcc_rows.specs.declared.row.DistrictNextRow.{DistrictNextRow}
use Rattle.tpcc_rows.specs.declared.row.Row.{Row}
use Rattle.tpcc_rows.specs.declared.row.Row.TheVariants as row
use Rattle.tpcc_rows.proofs.Keys.{exact_keys, row_key_cmp_total}
use Rattle.tpcc_rows.proofs.Picks.{Has, greatest-is, least-is, picked-row, row-picked}
use Rattle.tpcc_rows.proofs.Singles.{and-left, and-right, passes}
use Rattle.image_checks.specs.Districts.{are_without_gap, district_order_pick, line_count_agrees, line_counts_agree, new_order_numbers, next_order_agrees, next_orders_agree, order_numbers, span_agrees, spans_agree}

-- ---- the greatest and the least
some-greatest : (xs : List ℕ) (x : ℕ) → Has xs x → (n : ℕ) × (greatest xs ≡ Some n)
some-greatest [] x has = absurd has
some-greatest (y ∷ ys) x has = (larger y (greatest ys), refl)

some-least : (xs : List ℕ) (x : ℕ) → Has xs x → (n : ℕ) × (least xs ≡ Some n)
some-least [] x has = absurd has
some-least (y ∷ ys) x has = (lesser y (least ys), refl)

-- the list holds exactly these numbers
pub record AreNumbers (xs : List ℕ) (P : ℕ → Type 0) : Type 0 where
  pub all : (n : ℕ) → P n → Has xs n
  pub only : (n : ℕ) → Has xs n → P n

module _ {xs : List ℕ} {P : ℕ → Type 0} (numbers : AreNumbers xs P) where
  pub greatest-of : (n : ℕ) → greatest xs ≡ Some n → IsGreatest P n
  greatest-of n is = let (there, above) = greatest-is xs n is in record { there = numbers.only n there; above = λ x has. above x (numbers.all x has) }

  pub least-of : (n : ℕ) → least xs ≡ Some n → IsLeast P n
  least-of n is = let (there, below) = least-is xs n is in record { there = numbers.only n there; below = λ x has. below x (numbers.all x has) }

  pub of-greatest : (n : ℕ) → IsGreatest P n → greatest xs ≡ Some n
  of-greatest n h =
      let (top, is) = some-greatest xs n (numbers.all n h.there) in
      let over = (greatest-of top is).above n h.there in
      let under = h.above top (greatest-of top is).there in
      is ∙ ap (λ (z : ℕ). Some z) (omega arith)

  of-least : (n : ℕ) → IsLeast P n → least xs ≡ Some n
  of-least n h =
      let (bottom, is) = some-least xs n (numbers.all n h.there) in
      let under = (least-of bottom is).below n h.there in
      let over = h.below bottom (least-of bottom is).there in
      is ∙ ap (λ (z : ℕ). Some z) (omega arith)

-- ---- the orders and the new orders of a district
own-number : (w d o : ℕ) → cond (w == w && d == d) (Some o) None ≡ Some o
own-number w d o = ap₂ (λ a b. cond (a && b) (Some o) None) (eq-eqb w w refl) (eq-eqb d d refl)

number-own : (w d v e n o : ℕ) → cond (v == w && e == d) (Some n) None ≡ Some o → (v ≡ w) × (e ≡ d) × (n ≡ o)
number-own w d v e n o is = at (v == w && e == d) refl is
  where
    at : (t : Bool) → (v == w && e == d) ≡ t → cond t (Some n) None ≡ Some o → (v ≡ w) × (e ≡ d) × (n ≡ o)
    at true same chosen = (eqb-true v w (and-left (v == w) (e == d) same), eqb-true e d (and-right (v == w) (e == d) same), cc)
    at false same chosen = let bad : ⊥ = cc in absurd bad

module _ (rows : Rows) (w d : ℕ) where
  order-of : (k : RowKey) (x : Row) (o : ℕ) → get rows k ≡ Some x → district_order_pick w d k x ≡ Some o → HasOrder rows w d o
  order-of (key.Order v e n) (row.Order r) o there is = let (warehouse, district, number) = number-own w d v e n o is in (r, cc)
  order-of _ x o there is = let bad : ⊥ = cc in absurd bad

  new_order-of : (k : RowKey) (x : Row) (o : ℕ) → get rows k ≡ Some x → new_pick w d k x ≡ Some o → HasNewOrder rows w d o
  new_order-of (key.NewOrder v e n) row.NewOrder o there is = let (warehouse, district, number) = number-own w d v e n o is in cc
  new_order-of _ x o there is = let bad : ⊥ = cc in absurd bad

  pub orders : AreNumbers (order_numbers rows w d) (HasOrder rows w d)
  orders = record {
    all = λ o h. row-picked (district_order_pick w d) rows (key.Order w d o) (row.Order h.0) o h.1 (own-number w d o);
    only = λ o has. let (k, x, there, is) = picked-row (district_order_pick w d) rows o has in order-of k x o there is;
  }

  pub new_orders : AreNumbers (new_order_numbers rows w d) (HasNewOrder rows w d)
  new_orders = record {
    all = λ o h. row-picked (new_pick w d) rows (key.NewOrder w d o) row.NewOrder o h (own-number w d o);
    only = λ o has. let (k, x, there, is) = picked-row (new_pick w d) rows o has in new_order-of k x o there is;
  }

  -- ---- the conditions
  last-order : (last : ℕ) → (unwrap_or (greatest (order_numbers rows w d)) 0 == last) ≡ true → IsGreatestOr0 (HasOrder rows w d) last
  last-order last test = at (greatest (order_numbers rows w d)) refl test
    where
      at : (n : Option ℕ) → greatest (order_numbers rows w d) ≡ n → (unwrap_or n 0 == last) ≡ true → IsGreatestOr0 (HasOrder rows w d) last
      at None none equal = record {
        there = inl (sym (eqb-true 0 last equal));
        above = λ o h. let (top, is) = some-greatest (order_numbers rows w d) o (orders.all o h) in let no : None ≡ Some top = sym none ∙ is in cc;
      }
      at (Some n) is equal =
          let most = greatest-of orders last (is ∙ ap (λ (z : ℕ). Some z) (eqb-true n last equal)) in
          record { there = inr most.there; above = most.above }

  last-new_order : (last : ℕ) → option_map_or (λ o. o == last) (greatest (new_order_numbers rows w d)) true ≡ true → (o : ℕ) → HasNewOrder rows w d o → IsGreatest (HasNewOrder rows w d) last
  last-new_order last test o h =
      let (top, is) = some-greatest (new_order_numbers rows w d) o (new_orders.all o h) in
      let same = eqb-true top last (sym (ap (λ n. option_map_or (λ o. o == last) n true) is) ∙ test) in
      greatest-of new_orders last (is ∙ ap (λ (z : ℕ). Some z) same)

  no-gap : (count : ℤ) → are_without_gap (least (new_order_numbers rows w d)) (greatest (new_order_numbers rows w d)) count ≡ true
      → (low high : ℕ) → IsLeast (HasNewOrder rows w d) low → IsGreatest (HasNewOrder rows w d) high → pos (high - low + 1) ≡ count
  no-gap count test low high lowest highest =
      (Decides-int_eq (pos (high - low + 1)) count).0
      (sym (ap₂ (λ l h. are_without_gap l h count) (of-least new_orders low lowest) (of-greatest new_orders high highest)) ∙ test)

-- rows that pass the checks are consistent
pub consistent : (rows : Rows) → next_orders_agree rows ≡ true → spans_agree rows ≡ true → line_counts_agree rows ≡ true
    → (w d : ℕ) (r : DistrictNextRow) → get rows (key.DistrictNext w d) ≡ Some (row.DistrictNext r) → IsConsistent rows w d r.next_order
unfolding next_orders_agree spans_agree line_counts_agree
consistent rows nexts spans line_counts w d r there =
    let next = passes row_key_cmp_total exact_keys (next_order_agrees rows) rows (key.DistrictNext w d) (row.DistrictNext r) nexts there in
    let last_order = unwrap_or (greatest (order_numbers rows w d)) 0 == r.next_order - 1 in
    let last_new_order = option_map_or (λ o. o == r.next_order - 1) (greatest (new_order_numbers rows w d)) true in
    record {
      last_order = last-order rows w d (r.next_order - 1) (and-left last_order last_new_order next);
      last_new_order = last-new_order rows w d (r.next_order - 1) (and-right last_order last_new_order next);
      new_orders = no-gap rows w d (total (new_order_share w d) rows) (passes row_key_cmp_total exact_keys (span_agrees rows) rows (key.DistrictNext w d) (row.DistrictNext r) spans there);
      lines = (Decides-int_eq (total (promised_share w d) rows) (total (line_share w d) rows)).0
          (passes row_key_cmp_total exact_keys (line_count_agrees rows) rows (key.DistrictNext w d) (row.DistrictNext r) line_counts there);
    }
