-- The new orders of a district of a sound database are numbered without a gap, from the oldest on.
use Rattle.std.proofs.Common.{◌≡◌, ◌↔◌, ◌≤◌, ◌<◌, ◌+◌, ℕ, zero, suc, T, List, [], ◌∷◌, Option, Some, None, IsSome, cond, true, false, inl, inr, refl, sym, ap, subst, ◌∙◌, slice_get, arith}
use Rattle.std.proofs.lemmas.Bool.{cases_lt}
use Rattle.std.proofs.lemmas.Bool.Decides.{nat_tests}
use Rattle.std.specs.List.{filter_map, cons_option}
use Rattle.std.specs.Ordering.{is_lt}
use Rattle.std.specs.FinMap.{entries, entries_sorted, get, is_sorted}
use Rattle.std.specs.FinMap.Entries.{below_all}
use Rattle.catalog.specs.CardMap.{Cards}
use Rattle.tpcc_rows.specs.Limits.{IsBetween, between, is_between}
use Rattle.tpcc_rows.specs.Picks.{least, new_pick, oldest, picked}
use Rattle.tpcc_rows.specs.RowMap.{Rows, row_key_cmp}
use Rattle.tpcc_rows.specs.declared.key.RowKey.{RowKey}
use Rattle.tpcc_rows.specs.declared.key.RowKey.TheVariants as key
use Rattle.tpcc_rows.specs.declared.row.DistrictNextRow.{DistrictNextRow}
use Rattle.tpcc_rows.specs.declared.row.Row.{Row}
use Rattle.tpcc_rows.specs.declared.row.Row.TheVariants as row
use Rattle.tpcc_rows.proofs.Picks.{Has, picked-row, row-picked}
use Rattle.tpcc_rows.proofs.Singles.{first, second}
use Rattle.tpcc_model.specs.Conditions.{HasNewOrder}
use Rattle.tpcc_model.specs.Database.{database}
use Rattle.tpcc_model.specs.Soundness.{IsEntry, IsSound}
use Rattle.tpcc_laws.proofs.DeliveryFacts.{new_picked, oldest-is, picked_new}
use Rattle.tpcc_laws.proofs.NewOrderRuns.{book_of}
use Rattle.profiles.specs.Declarations.{nth_new_order}

-- ---- numbers that rise
abbrev pub Rise : List ℕ → Type 0
Rise [] = Unit {0}
Rise (x ∷ xs) = ((y : ℕ) → Has xs y → x < y) × Rise xs

-- the list has the numbers from a on, up to b
abbrev pub IsRange : List ℕ → ℕ → ℕ → Type 0
IsRange xs a b = (x : ℕ) → Has xs x ↔ ((a ≤ x) × (x < b))

starts : (x : ℕ) (xs : List ℕ) (a b : ℕ) → Rise (x ∷ xs) → IsRange (x ∷ xs) a b → (x ≡ a) × (a < b)
starts x xs a b rise range =
    let in_range = (range x).0 (inl refl) in
    let low : a ≤ x = in_range.0 in
    let high : x < b = in_range.1 in
    let some : a < b = omega (arith, low, high) in
    elim ((range a).1 (omega arith, some)) [
      | inl e ↦ (sym e, some)
      | inr h ↦ (let above : x < a = rise.0 a h in absurd (omega (arith, low, above)))
    ]

range-rest : (x : ℕ) (xs : List ℕ) (a b : ℕ) → Rise (x ∷ xs) → IsRange (x ∷ xs) a b → IsRange xs (a + 1) b
range-rest x xs a b rise range y =
    let at : x ≡ a = (starts x xs a b rise range).0 in (
      λ h. (let above : x < y = rise.0 y h in let high : y < b = ((range y).0 (inr h)).1 in (omega (arith, at, above), high)),
      λ r. (let low : a + 1 ≤ y = r.0 in let high : y < b = r.1 in elim ((range y).1 (omega arith, high)) [
        | inl e ↦ absurd (omega (arith, at, low, e))
        | inr h ↦ h
      ]),
    )

pub nth-within : (xs : List ℕ) (a b n : ℕ) → Rise xs → IsRange xs a b → a + n < b → slice_get xs n ≡ Some (a + n)
nth-within [] a b n rise range below = absurd ((range (a + n)).1 (omega arith, below))
nth-within (x ∷ xs) a b zero rise range below = ap (λ (y : ℕ). Some y) (let at = (starts x xs a b rise range).0 in let e : x ≡ a + 0 = omega (arith, at) in e)
nth-within (x ∷ xs) a b (suc n) rise range below =
    let e : a + 1 + n ≡ a + suc n = omega arith in
    nth-within xs (a + 1) b n rise.1 (range-rest x xs a b rise range) (omega (arith, below)) ∙ ap (λ (y : ℕ). Some y) e

pub nth-past : (xs : List ℕ) (a b n : ℕ) → Rise xs → IsRange xs a b → b ≤ a + n → slice_get xs n ≡ None
nth-past [] a b n rise range past = refl
nth-past (x ∷ xs) a b zero rise range past = (let some : a < b = (starts x xs a b rise range).1 in absurd (omega (arith, past, some)))
nth-past (x ∷ xs) a b (suc n) rise range past = nth-past xs (a + 1) b n rise.1 (range-rest x xs a b rise range) (omega (arith, past))

-- ---- the numbers of a district's new orders rise
module _ (w d : ℕ) where
  less_number : (x y : ℕ) → T (is_lt (row_key_cmp (key.NewOrder w d x) (key.NewOrder w d y))) → x < y
  less_number x y h = grind arith

  above : (es : List (RowKey × Row)) (k : RowKey) (x : ℕ) → k ≡ key.NewOrder w d x → T (below_all row_key_cmp k es) → (y : ℕ) → Has (filter_map (λ e. new_pick w d e.0 e.1) es) y → x < y
  above [] k x is below y h = absurd h
  above (e ∷ es) k x is below y h = at (above es k x is (second (is_lt (row_key_cmp k e.0)) (below_all row_key_cmp k es) below) y) (new_pick w d e.0 e.1) refl h
    where
      at : (Has (filter_map (λ e. new_pick w d e.0 e.1) es) y → x < y) → (o : Option ℕ) → new_pick w d e.0 e.1 ≡ o → Has (cons_option o (filter_map (λ e. new_pick w d e.0 e.1) es)) y → x < y
      at later None p h = later h
      at later (Some z) p (inl i) =
          let lower = first (is_lt (row_key_cmp k e.0)) (below_all row_key_cmp k es) below in
          let key_z : e.0 ≡ key.NewOrder w d z = (picked_new w d e.0 e.1 z p).0 in
          let at_keys : T (is_lt (row_key_cmp (key.NewOrder w d x) (key.NewOrder w d z))) = rw is at (rw key_z at lower) in
          let less : x < z = less_number x z at_keys in
          subst (λ v. x < v) (sym i) less
      at later (Some z) p (inr h) = later h

  rises : (es : List (RowKey × Row)) → T (is_sorted row_key_cmp es) → Rise (filter_map (λ e. new_pick w d e.0 e.1) es)
  rises [] s = tt
  rises (e ∷ es) s = at (rises es (second (below_all row_key_cmp e.0 es) (is_sorted row_key_cmp es) s)) (new_pick w d e.0 e.1) refl
    where
      at : Rise (filter_map (λ e. new_pick w d e.0 e.1) es) → (o : Option ℕ) → new_pick w d e.0 e.1 ≡ o → Rise (cons_option o (filter_map (λ e. new_pick w d e.0 e.1) es))
      at rest None p = rest
      at rest (Some z) p = (above es e.0 z (picked_new w d e.0 e.1 z p).0 (first (below_all row_key_cmp e.0 es) (is_sorted row_key_cmp es) s), rest)

  pub new_numbers_rise : (rows : Rows) → Rise (picked (new_pick w d) rows)
  unfolding picked
  new_numbers_rise rows = rises (entries rows) (entries_sorted rows)

  has_new : (rows : Rows) (o : ℕ) → Has (picked (new_pick w d) rows) o ↔ HasNewOrder rows w d o
  has_new rows o = (
    λ h. (let r = picked-row (new_pick w d) rows o h in let k = picked_new w d r.0 r.1 o r.3 in ap (get rows) (sym k.0) ∙ r.2 ∙ ap (λ (x : Row). Some x) k.1),
    λ has. row-picked (new_pick w d) rows (key.NewOrder w d o) row.NewOrder o has (new_picked w d o),
  )

  -- ---- on a sound database
  no_oldest : (xs : List ℕ) (n : ℕ) → least xs ≡ None → slice_get xs n ≡ None
  no_oldest [] n h = refl
  no_oldest (x ∷ xs) n h = cc

  -- no new order is there
  pub nth-none : (rows : Rows) (n : ℕ) → oldest rows w d ≡ None → nth_new_order rows w d n ≡ None
  unfolding nth_new_order oldest
  nth-none rows n h = no_oldest (picked (new_pick w d) rows) n h

  is_new : (cards : Cards) (rows : Rows) (o : ℕ) (x : Row) → IsEntry cards rows (key.NewOrder w d o) x → x ≡ row.NewOrder
  is_new cards rows o row.NewOrder entry = refl
  is_new cards rows o _ entry = absurd entry

  next_of : (cards : Cards) (rows : Rows) (x : Row) → IsEntry cards rows (key.DistrictNext w d) x → (r : DistrictNextRow) × (x ≡ row.DistrictNext r) × IsBetween 1 9999999 r.next_order
  next_of cards rows (row.DistrictNext r) entry = (r, refl, entry.1)
  next_of cards rows _ entry = absurd entry

  some_of_is : {A : Type 0} (o : Option A) → IsSome o → (x : A) × (o ≡ Some x)
  some_of_is (Some x) h = (x, refl)
  some_of_is None h = (let no : false ≡ true = h in cc)

  -- the new orders are those from the oldest on, up to the number that the district has next
  record IsNumbered (rows : Rows) (o : ℕ) : Type 0 where
    pub next : ℕ
    pub high : next ≤ 9999999
    pub low : 1 ≤ o
    pub range : IsRange (picked (new_pick w d) rows) o next

  numbered : (cards : Cards) (rows : Rows) (o : ℕ) → IsSound (database cards rows) → oldest rows w d ≡ Some o → IsNumbered rows o
  numbered cards rows o sound h =
      let first = oldest-is rows w d o h in
      let order = sound.entries (key.NewOrder w d o) row.NewOrder first.there in
      let is_order = sound.entries (key.Order w d o) (row.Order order.0) order.1 in
      let there = some_of_is (get rows (key.DistrictNext w d)) (sound.there (key.DistrictNext w d) is_order.district) in
      let next = next_of cards rows there.0 (sound.entries (key.DistrictNext w d) there.0 there.1) in
      let at : get rows (key.DistrictNext w d) ≡ Some (row.DistrictNext next.0) = there.1 ∙ ap (λ (x : Row). Some x) next.1 in
      let least_next : 1 ≤ next.0.next_order = next.2.0 in
      let most_next : next.0.next_order ≤ 9999999 = next.2.1 in
      let book = book_of w d rows next.0.next_order least_next (sound.districts w d next.0 at) in
      let starts_low : o ≤ book.first = first.below book.first ((book.new_orders book.first).1 (omega arith, let r : o < next.0.next_order = ((book.new_orders o).0 first.there).1 in let l : book.first ≤ o = ((book.new_orders o).0 first.there).0 in omega (arith, r, l))) in
      let starts_high : book.first ≤ o = ((book.new_orders o).0 first.there).0 in
      let same : book.first ≡ o = omega (arith, starts_low, starts_high) in
      let number : 1 ≤ o = is_order.number.0 in
      record {
        next = next.0.next_order;
        high = most_next;
        low = number;
        range = λ x. (
          λ has. (let r = (book.new_orders x).0 ((has_new rows x).0 has) in let l : book.first ≤ x = r.0 in (omega (arith, same, l), r.1)),
          λ r. (let l : o ≤ x = r.0 in (has_new rows x).1 ((book.new_orders x).1 (omega (arith, same, l), r.1))),
        );
      }

  module _ (cards : Cards) (rows : Rows) (o n : ℕ) (sound : IsSound (database cards rows)) (is : oldest rows w d ≡ Some o) where
    -- the new order of this number is there
    pub nth-there : (x : Row) → get rows (key.NewOrder w d (o + n)) ≡ Some x → nth_new_order rows w d n ≡ Some (o + n)
    unfolding nth_new_order
    nth-there x h =
        let from = numbered cards rows o sound is in
        let has : HasNewOrder rows w d (o + n) = h ∙ ap (λ (x : Row). Some x) (is_new cards rows (o + n) x (sound.entries (key.NewOrder w d (o + n)) x h)) in
        nth-within (picked (new_pick w d) rows) o from.next n (new_numbers_rise rows) from.range ((from.range (o + n)).0 ((has_new rows (o + n)).1 has)).1

    -- it isn't
    pub nth-gone : get rows (key.NewOrder w d (o + n)) ≡ None → nth_new_order rows w d n ≡ None
    unfolding nth_new_order
    nth-gone h =
        let from = numbered cards rows o sound is in
        elim (cases_lt (o + n) from.next) [
          | inl below ↦ (let has : HasNewOrder rows w d (o + n) = (has_new rows (o + n)).0 ((from.range (o + n)).1 (omega arith, below)) in let no : None ≡ Some row.NewOrder = sym h ∙ has in cc)
          | inr past ↦ nth-past (picked (new_pick w d) rows) o from.next n (new_numbers_rise rows) from.range past
        ]

    -- there is no such number
    pub nth-above : between 1 9999999 (o + n) ≡ None → nth_new_order rows w d n ≡ None
    unfolding nth_new_order
    nth-above h =
        let from = numbered cards rows o sound is in
        let high : from.next ≤ 9999999 = from.high in
        let low : 1 ≤ o = from.low in
        elim (cases_lt (o + n) from.next) [
          | inl below ↦ (let fits : is_between 1 9999999 (o + n) ≡ true = grind (arith, nat_tests, high, low, below) in let no : None ≡ Some (o + n) = sym h ∙ ap (λ b. cond b (Some (o + n)) None) fits in cc)
          | inr past ↦ nth-past (picked (new_pick w d) rows) o from.next n (new_numbers_rise rows) from.range past
        ]
