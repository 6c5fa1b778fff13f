-- The numbers of a district's new orders, in the order of their ranks.
use Rattle.std.proofs.Common.{◌≡◌, ◌↔◌, ◌<◌, ◌+◌, ◌*◌, ◌/◌, ◌%◌, ◌^◌, ◌==◌, ◌&&◌, ℕ, Bool, true, false, cond, eqb, T, min, map as each, List, [], ◌∷◌, Option, Some, None, inl, inr, refl, sym, ap, subst, ◌∙◌, slice_get, arith}
use Rattle.std.proofs.lemmas.Bool.{cases_Bool, eqb-true, eqb-false, and_from, le-leb}
use Rattle.std.proofs.lemmas.Bool.Decides.{nat_tests}
use Rattle.std.proofs.lemmas.Nat.{div-mul-add, mod-mul-add}
use Rattle.std.proofs.lemmas.Option.{slice_get-map}
use Rattle.std.specs.List.{filter_map, cons_option}
use Rattle.std.specs.Ordering.{is_lt, nat_cmp}
use Rattle.std.specs.Prelude.{⊤, if◌then◌else◌, option_and_then, option_map}
use Rattle.std.specs.FinMap.{entries, entries_sorted, find, get, get-entries, is_sorted}
use Rattle.std.specs.FinMap.Entries.{below_all}
use Rattle.tpcc_rows.specs.Limits.{IsBetween, between}
use Rattle.tpcc_rows.specs.Picks.{least, lesser, new_pick, oldest, picked}
use Rattle.tpcc_rows.specs.RowKinds.{fits}
use Rattle.tpcc_rows.specs.RowMap.{Rows, row_key_cmp}
use Rattle.tpcc_rows.specs.declared.key.RowKey.{RowKey}
use Rattle.tpcc_rows.specs.declared.key.RowKey.TheVariants as key
use Rattle.tpcc_rows.specs.declared.row.Row.{Row}
use Rattle.tpcc_rows.specs.declared.row.Row.TheVariants as row
use Rattle.tpcc_rows.proofs.Picks.{Has, least-is, picked-row, row-picked}
use Rattle.tpcc_rows.proofs.Singles.{first, found_first, found_later, second}
use Rattle.tables.specs.ByRank.{ByRank}
use Rattle.tables.specs.Keys.{key_of, number_in, order_of}
use Rattle.tpcc_rows.specs.Ranks.{IsDistrict, IsNumbered, columns, kind, rank}
use Rattle.tables.specs.Shelves.{place_of, rows_at}
use Rattle.tables.proofs.RankKeys.{kind-of}
use Rattle.tables.proofs.Shelved.{get-rows_at}
use Rattle.tables.proofs.Tables.{rank_total, exact_ranks}
use Rattle.row_tables.specs.Kinds.{table_of, table_of_kind}
use Rattle.row_tables.specs.NewRows.{AreNewOrders, as_rows, new_rows}
use Rattle.row_tables.specs.RankRows.{RankRows}
use Rattle.row_tables.specs.Stored.{AreKept, keyed}
use Rattle.row_tables.proofs.Counting.{found-above, found-here}
use Rattle.row_tables.proofs.Keyed.{get-keyed, is_key, rank-key, row-at, same_key, table-at}

-- ---- numbers that rise
abbrev pub Rise : List ℕ → Type 0
Rise [] = Unit {0}
Rise (x ∷ xs) = ((y : ℕ) → Has xs y → x < y) × Rise xs

-- two lists that rise and have the same numbers are one
same-rise : (xs ys : List ℕ) → Rise xs → Rise ys → ((x : ℕ) → Has xs x ↔ Has ys x) → xs ≡ ys
same-rise [] [] r s h = refl
same-rise [] (y ∷ ys) r s h = absurd ((h y).1 (inl refl))
same-rise (x ∷ xs) [] r s h = absurd ((h x).0 (inl refl))
same-rise (x ∷ xs) (y ∷ ys) r s h =
    let same : x ≡ y = elim ((h x).0 (inl refl)) [
      | inl e ↦ e
      | inr g ↦ elim ((h y).1 (inl refl)) [
        | inl e ↦ sym e
        | inr f ↦ (let a : y < x = s.0 x g in let b : x < y = r.0 y f in absurd (omega (arith, a, b)))
      ]
    ] in
    ap (λ z. z ∷ xs) same ∙ ap (λ zs. y ∷ zs) (same-rise xs ys r.1 s.1 (λ z. (
      λ g. elim ((h z).0 (inr g)) [
        | inl e ↦ (let a : x < z = r.0 z g in absurd (omega (arith, a, e, same)))
        | inr f ↦ f
      ],
      λ g. elim ((h z).1 (inr g)) [
        | inl e ↦ (let a : y < z = s.0 z g in absurd (omega (arith, a, e, same)))
        | inr f ↦ f
      ],
    )))

-- the least is the first
least-first : (xs : List ℕ) → Rise xs → slice_get xs 0 ≡ least xs
least-first [] r = refl
least-first (x ∷ xs) r = at (least xs) refl
  where
    at : (o : Option ℕ) → least xs ≡ o → Some x ≡ Some (lesser x o)
    at None e = refl
    at (Some l) e = (let a : x < l = r.0 l (least-is xs l e).0 in let is : x ≡ min x l = grind arith in ap (λ (z : ℕ). Some z) is)

-- ---- what is found in entries by rank
abbrev numbers : List (ℕ × Row) → List ℕ
numbers es = each (λ e. number_in e.0) es

found-number : (es : List (ℕ × Row)) (r : ℕ) (x : Row) → find nat_cmp r es ≡ Some x → Has (numbers es) (number_in r)
found-number [] r x h = (let no : None ≡ Some x = h in cc)
found-number (e ∷ es) r x h = elim (found_first rank_total exact_ranks e es r x h) [
  | inl same ↦ inl (ap (λ q. number_in q) same.0)
  | inr later ↦ inr (found-number es r x later)
]

number-found : (es : List (ℕ × Row)) → T (is_sorted nat_cmp es) → (o : ℕ) → Has (numbers es) o → (r : ℕ) × (x : Row) × (find nat_cmp r es ≡ Some x) × (o ≡ number_in r)
number-found [] s o h = absurd h
number-found (e ∷ es) s o (inl i) = (e.0, e.1, found-here e es, i)
number-found (e ∷ es) s o (inr g) =
    let there = number-found es (second (below_all nat_cmp e.0 es) (is_sorted nat_cmp es) s) o g in
    (there.0, there.1, found_later rank_total exact_ranks e es there.0 there.1 s there.2, there.3)

-- ---- the ranks of a district's new orders
module _ (w d : ℕ) where
  abbrev new_rank : ℕ → ℕ
  new_rank o = rank (key.NewOrder w d o)

  pub record IsNew (r : ℕ) : Type 0 where
    pub order : ℕ
    pub numbered : IsNumbered (key.NewOrder w d order)
    pub is : r ≡ new_rank order

pub place-of : (k w d n l : ℕ) → w < 128 → d < 16 → n < 2 ^ 24 → l < 16 → place_of (k * 2 ^ 56 + columns w d n l) ≡ w * 16 + d
place-of k w d n l hw hd hn hl =
    let whole : k * 2 ^ 56 + columns w d n l ≡ (k * 2 ^ 17 * 2048 + (w * 16 + d)) * 2 ^ 28 + (n * 16 + l) = omega arith in
    let low : n * 16 + l < 2 ^ 28 = omega arith in
    let small : w * 16 + d < 2048 = omega arith in
    ap (λ x. x / 2 ^ 28 % 2048) whole
    ∙ ap (λ x. x % 2048) (div-mul-add (k * 2 ^ 17 * 2048 + (w * 16 + d)) (2 ^ 28) (n * 16 + l) low)
    ∙ mod-mul-add (k * 2 ^ 17) 2048 (w * 16 + d) small

pub number-of : (k w d n l : ℕ) → n < 2 ^ 24 → l < 16 → number_in (k * 2 ^ 56 + columns w d n l) ≡ n
number-of k w d n l hn hl =
    let whole : k * 2 ^ 56 + columns w d n l ≡ (((k * 2 ^ 24 + w) * 16 + d) * 2 ^ 24 + n) * 16 + l = omega arith in
    ap (λ x. x / 16 % 2 ^ 24) whole
    ∙ ap (λ x. x % 2 ^ 24) (div-mul-add (((k * 2 ^ 24 + w) * 16 + d) * 2 ^ 24 + n) 16 l hl)
    ∙ mod-mul-add ((k * 2 ^ 24 + w) * 16 + d) (2 ^ 24) n hn

place-new : (w d o : ℕ) → IsNumbered (key.NewOrder w d o) → place_of (rank (key.NewOrder w d o)) ≡ w * 16 + d
place-new w d o h = let a = h.0.1 in let b = h.1.1 in let c = h.2.1 in place-of 6 w d o 0 (omega (arith, a)) (omega (arith, b)) (omega (arith, c)) (omega arith)

pub place-district : (w d : ℕ) → IsDistrict w d → place_of (rank (key.DistrictYtd w d)) ≡ w * 16 + d
place-district w d h = let a = h.0.1 in let b = h.1.1 in place-of 9 w d 0 0 (omega (arith, a)) (omega (arith, b)) (omega arith) (omega arith)

number-new : (w d o : ℕ) → IsNumbered (key.NewOrder w d o) → number_in (rank (key.NewOrder w d o)) ≡ o
number-new w d o h = let c = h.2.1 in number-of 6 w d o 0 (omega (arith, c)) (omega arith)

-- a key at the place of new orders, of this district
new-key : (k : RowKey) (w d : ℕ) → IsDistrict w d → IsNumbered k → table_of_kind (kind k) ≡ 4 → place_of (rank k) ≡ w * 16 + d → (o : ℕ) × (k ≡ key.NewOrder w d o)
new-key (key.NewOrder v e o) w d district h four at =
    let same : v * 16 + e ≡ w * 16 + d = sym (place-new v e o h) ∙ at in
    let a = h.1.1 in
    let b = district.1.1 in
    let ws : v ≡ w = omega (arith, same, a, b) in
    let ds : e ≡ d = omega (arith, same, a, b) in
    (o, ap (λ x. key.NewOrder x e o) ws ∙ ap (λ x. key.NewOrder w x o) ds)
new-key (key.Warehouse v) w d district h four at = cc
new-key (key.Customer v e c) w d district h four at = cc
new-key (key.Stock v i) w d district h four at = cc
new-key (key.Order v e o) w d district h four at = cc
new-key (key.OrderLine v e o n) w d district h four at = cc
new-key (key.History n) w d district h four at = cc
new-key (key.DistrictYtd v e) w d district h four at = cc
new-key (key.DistrictNext v e) w d district h four at = cc

-- ---- two tests
pub both-pass : {A : Type 0} (a b : Bool) (o : Option A) (x : A) → cond a (cond b o None) None ≡ Some x → (a ≡ true) × (b ≡ true) × (o ≡ Some x)
both-pass true true o x h = (refl, refl, h)
both-pass true false o x h = (let no : None ≡ Some x = h in cc)
both-pass false b o x h = (let no : None ≡ Some x = h in cc)

pub one-passes : {A : Type 0} (a : Bool) (o : Option A) (x : A) → cond a o None ≡ Some x → (a ≡ true) × (o ≡ Some x)
one-passes true o x h = (refl, h)
one-passes false o x h = (let no : None ≡ Some x = h in cc)

pub same-number : (n : ℕ) → eqb n n ≡ true
same-number n = elim (cases_Bool (eqb n n)) [
  | inl same ↦ same
  | inr apart ↦ absurd (eqb-false n n apart refl)
]

-- ---- what is picked rises
picked_new : (w d : ℕ) (k : RowKey) (x : Row) (o : ℕ) → new_pick w d k x ≡ Some o → (k ≡ key.NewOrder w d o) × (x ≡ row.NewOrder)
picked_new w d (key.NewOrder v e z) row.NewOrder o h =
    let p = one-passes (v == w && e == d) (Some z) o h in
    let t : (v == w && e == d) ≡ true = p.0 in
    let a : v ≡ w = grind (arith, nat_tests) in
    let b : e ≡ d = grind (arith, nat_tests) in
    let some : Some z ≡ Some o = p.1 in
    let c : z ≡ o = cc in
    (cc, refl)
picked_new w d _ _ o h = cc

new_picked : (w d o : ℕ) → new_pick w d (key.NewOrder w d o) row.NewOrder ≡ Some o
new_picked w d o = ap (λ b. cond b (Some o) None) (let t : (w == w && d == d) ≡ true = grind (arith, nat_tests) in t)

module _ (w d : ℕ) where
  less_number : (x y : ℕ) → T (is_lt (row_key_cmp (key.NewOrder w d x) (key.NewOrder w d y))) → x < y
  less_number x y h = grind arith

  above : (es : List (RowKey × Row)) (k : RowKey) (x : ℕ) → k ≡ key.NewOrder w d x → T (below_all row_key_cmp k es) → (y : ℕ) → Has (filter_map (λ e. new_pick w d e.0 e.1) es) y → x < y
  above [] k x is below y h = absurd h
  above (e ∷ es) k x is below y h = at (above es k x is (second (is_lt (row_key_cmp k e.0)) (below_all row_key_cmp k es) below) y) (new_pick w d e.0 e.1) refl h
    where
      at : (Has (filter_map (λ e. new_pick w d e.0 e.1) es) y → x < y) → (o : Option ℕ) → new_pick w d e.0 e.1 ≡ o → Has (cons_option o (filter_map (λ e. new_pick w d e.0 e.1) es)) y → x < y
      at later None p h = later h
      at later (Some z) p (inl i) =
          let lower = first (is_lt (row_key_cmp k e.0)) (below_all row_key_cmp k es) below in
          let key_z : e.0 ≡ key.NewOrder w d z = (picked_new w d e.0 e.1 z p).0 in
          let at_keys : T (is_lt (row_key_cmp (key.NewOrder w d x) (key.NewOrder w d z))) = rw is at (rw key_z at lower) in
          let less : x < z = less_number x z at_keys in
          subst (λ v. x < v) (sym i) less
      at later (Some z) p (inr h) = later h

  rises : (es : List (RowKey × Row)) → T (is_sorted row_key_cmp es) → Rise (filter_map (λ e. new_pick w d e.0 e.1) es)
  rises [] s = tt
  rises (e ∷ es) s = at (rises es (second (below_all row_key_cmp e.0 es) (is_sorted row_key_cmp es) s)) (new_pick w d e.0 e.1) refl
    where
      at : Rise (filter_map (λ e. new_pick w d e.0 e.1) es) → (o : Option ℕ) → new_pick w d e.0 e.1 ≡ o → Rise (cons_option o (filter_map (λ e. new_pick w d e.0 e.1) es))
      at rest None p = rest
      at rest (Some z) p = (above es e.0 z (picked_new w d e.0 e.1 z p).0 (first (below_all row_key_cmp e.0 es) (is_sorted row_key_cmp es) s), rest)

  picked-rise : (rows : Rows) → Rise (picked (new_pick w d) rows)
  unfolding picked
  picked-rise rows = rises (entries rows) (entries_sorted rows)

  -- ---- the numbers of the rows at the district's place
  module _ (district : IsDistrict w d) (m : RankRows) (h : AreKept m) (p : ℕ) (at : p ≡ w * 16 + d) where
    get-new : (r : ℕ) → get (new_rows m p) r ≡ cond (eqb (place_of r) p) (cond (eqb (table_of r) 4) (get m r) None) None
    get-new r = get-rows_at place_of (rows_at table_of m 4) p r ∙ ap (λ o. cond (eqb (place_of r) p) o None) (get-rows_at table_of m 4 r)

    -- a rank with a row there
    is-new : (r : ℕ) (x : Row) → get (new_rows m p) r ≡ Some x → IsNew w d r × (get m r ≡ Some x)
    is-new r x there =
        let parts = both-pass (eqb (place_of r) p) (eqb (table_of r) 4) (get m r) x (sym (get-new r) ∙ there) in
        let kept = h.kept r x parts.2 in
        let k = kept.is_rank in
        let four : table_of_kind (kind k.key) ≡ 4 = sym (ap table_of_kind (kind-of k.key k.numbered)) ∙ ap table_of k.ranked ∙ eqb-true (table_of r) 4 parts.1 in
        let place : place_of (rank k.key) ≡ w * 16 + d = ap place_of k.ranked ∙ eqb-true (place_of r) p parts.0 ∙ at in
        let new = new-key k.key w d district k.numbered four place in
        (record { order = new.0; numbered = subst IsNumbered new.1 k.numbered; is = sym k.ranked ∙ ap rank new.1 }, parts.2)

    number-is : (r : ℕ) (n : IsNew w d r) → number_in r ≡ n.order
    number-is r n = ap (λ q. number_in q) n.is ∙ number-new w d n.order n.numbered

    number-less : (r s : ℕ) → IsNew w d r → IsNew w d s → r < s → number_in r < number_in s
    number-less r s n o below =
        let a = n.is in
        let b = o.is in
        let x = number-is r n in
        let y = number-is s o in
        omega (arith, a, b, x, y, below)

    numbers-rise : (es : List (ℕ × Row)) → T (is_sorted nat_cmp es) → ((r : ℕ) (x : Row) → find nat_cmp r es ≡ Some x → IsNew w d r) → Rise (numbers es)
    numbers-rise [] s all = tt
    numbers-rise (e ∷ es) s all =
        let rest = second (below_all nat_cmp e.0 es) (is_sorted nat_cmp es) s in
        let later : (r : ℕ) (x : Row) → find nat_cmp r es ≡ Some x → IsNew w d r = λ r x there. all r x (found_later rank_total exact_ranks e es r x s there) in (
          λ y has.
              let found = number-found es rest y has in
              subst (λ z. number_in e.0 < z) (sym found.3)
              (number-less e.0 found.0 (all e.0 e.1 (found-here e es)) (later found.0 found.1 found.2) (found-above e.0 es found.0 found.1 (first (below_all nat_cmp e.0 es) (is_sorted nat_cmp es) s) found.2)),
          numbers-rise es rest later,
        )

    all-new : (r : ℕ) (x : Row) → find nat_cmp r (entries (new_rows m p)) ≡ Some x → IsNew w d r × (get m r ≡ Some x)
    all-new r x there = is-new r x (get-entries (new_rows m p) r ∙ there)

    only_new : (o : ℕ) (x : Row) → fits (key.NewOrder w d o) x ≡ true → x ≡ row.NewOrder
    only_new o row.NewOrder f = refl
    only_new o x f = cc

    -- a number among them is picked
    listed : (o : ℕ) → Has (numbers (entries (new_rows m p))) o → Has (picked (new_pick w d) (keyed m)) o
    listed o has =
        let found = number-found (entries (new_rows m p)) (entries_sorted (new_rows m p)) o has in
        let new = all-new found.0 found.1 found.2 in
        let k = key.NewOrder w d new.0.order in
        let there : get (keyed m) k ≡ Some found.1 = sym (row-at m h k new.0.numbered found.0 new.0.is) ∙ new.1 in
        let kept = h.kept found.0 found.1 new.1 in
        let same : kept.is_rank.key ≡ k = sym (rank-key found.0 kept.is_rank) ∙ ap (λ q. key_of q) new.0.is ∙ rank-key (rank k) (record { key = k; numbered = new.0.numbered; ranked = refl }) in
        let fit : fits k found.1 ≡ true = ap (λ q. fits q found.1) (sym same) ∙ kept.fit in
        let only : found.1 ≡ row.NewOrder = only_new new.0.order found.1 fit in
        subst (Has (picked (new_pick w d) (keyed m))) (sym (found.3 ∙ number-is found.0 new.0))
        (row-picked (new_pick w d) (keyed m) k row.NewOrder new.0.order (there ∙ ap (λ (x : Row). Some x) only) (new_picked w d new.0.order))

    -- and one that is picked is among them
    unlisted : (o : ℕ) → Has (picked (new_pick w d) (keyed m)) o → Has (numbers (entries (new_rows m p))) o
    unlisted o has =
        let r = picked-row (new_pick w d) (keyed m) o has in
        let picks = picked_new w d r.0 r.1 o r.3 in
        let k = key.NewOrder w d o in
        let there : get (keyed m) k ≡ Some r.1 = ap (get (keyed m)) (sym picks.0) ∙ r.2 in
        let parts = one-passes (is_key k) (get m (rank k)) r.1 (sym (get-keyed m h k) ∙ there) in
        let kept = h.kept (rank k) r.1 parts.1 in
        let same : kept.is_rank.key ≡ k = sym (rank-key (rank k) kept.is_rank) ∙ sym (same_key k (key_of (rank k)) parts.0) in
        let numbered : IsNumbered k = subst IsNumbered same kept.is_rank.numbered in
        let place : eqb (place_of (rank k)) p ≡ true = ap (λ n. eqb n p) (place-new w d o numbered ∙ sym at) ∙ same-number p in
        let four : eqb (table_of (rank k)) 4 ≡ true = ap (λ n. eqb n 4) (table-at m h k numbered (rank k) refl) in
        let got : get (new_rows m p) (rank k) ≡ Some r.1 =
        get-new (rank k) ∙ ap (λ b. cond b (cond (eqb (table_of (rank k)) 4) (get m (rank k)) None) None) place
        ∙ ap (λ b. cond b (get m (rank k)) None) four ∙ parts.1 in
        subst (Has (numbers (entries (new_rows m p)))) (number-new w d o numbered) (found-number (entries (new_rows m p)) (rank k) r.1 (sym (get-entries (new_rows m p) (rank k)) ∙ got))

    numbers-are : numbers (entries (new_rows m p)) ≡ picked (new_pick w d) (keyed m)
    numbers-are = same-rise _ _ (numbers-rise (entries (new_rows m p)) (entries_sorted (new_rows m p)) (λ r x there. (all-new r x there).0)) (picked-rise (keyed m)) (λ o. (listed o, unlisted o))

    -- the order of such a rank is its number
    order-is : (r : ℕ) → IsNew w d r → order_of r ≡ Some (number_in r)
    order-is r n =
        let within : IsBetween 1 9999999 n.order = n.numbered.2 in
        ap (λ x. between 1 9999999 x) (number-is r n)
        ∙ ap (λ (b : Bool). if b then Some n.order else None) (and_from _ _ (le-leb 1 n.order within.0) (le-leb n.order 9999999 within.1))
        ∙ sym (ap (λ (x : ℕ). Some x) (number-is r n))

    orders-are : (es : List (ℕ × Row)) → T (is_sorted nat_cmp es) → ((r : ℕ) (x : Row) → find nat_cmp r es ≡ Some x → IsNew w d r) → each (λ e. order_of e.0) es ≡ each (λ o. Some o) (numbers es)
    orders-are [] s all = refl
    orders-are (e ∷ es) s all =
        let rest = orders-are es (second (below_all nat_cmp e.0 es) (is_sorted nat_cmp es) s) (λ r x there. all r x (found_later rank_total exact_ranks e es r x s there)) in
        ap (λ o. o ∷ each (λ e. order_of e.0) es) (order-is e.0 (all e.0 e.1 (found-here e es))) ∙ ap (λ os. Some (number_in e.0) ∷ os) rest

    orders-as_rows : (es : List (ℕ × ⊤)) → each (λ e. order_of e.0) es ≡ each (λ e. order_of e.0) (as_rows es)
    orders-as_rows [] = refl
    orders-as_rows (e ∷ es) = ap (λ os. order_of e.0 ∷ os) (orders-as_rows es)

    pub are-new-orders : (ranks : ByRank ⊤) → as_rows (entries ranks) ≡ entries (new_rows m p) → AreNewOrders (keyed m) w d ranks
    are-new-orders ranks same =
        orders-as_rows (entries ranks) ∙ ap (each (λ e. order_of e.0)) same
        ∙ orders-are (entries (new_rows m p)) (entries_sorted (new_rows m p)) (λ r x there. (all-new r x there).0) ∙ ap (each (λ o. Some o)) numbers-are

  -- ---- number n of them
  number-at : (e : Option (ℕ × ⊤)) (o : Option ℕ) → option_map (λ e. order_of e.0) e ≡ option_map (λ o. Some o) o → option_and_then order_of (option_map (λ e. e.0) e) ≡ o
  number-at None None same = refl
  number-at None (Some o) same = cc
  number-at (Some e) None same = cc
  number-at (Some e) (Some o) same = cc

  pub nth-number : (rows : Rows) (ranks : ByRank ⊤) → AreNewOrders rows w d ranks → (n : ℕ) → option_and_then order_of (option_map (λ e. e.0) (slice_get (entries ranks) n)) ≡ slice_get (picked (new_pick w d) rows) n
  nth-number rows ranks are n = number-at (slice_get (entries ranks) n) (slice_get (picked (new_pick w d) rows) n)
      (sym (slice_get-map (λ e. order_of e.0) (entries ranks) n) ∙ ap (λ os. slice_get os n) are ∙ slice_get-map (λ o. Some o) (picked (new_pick w d) rows) n)

  -- the first one is the oldest
  pub first-oldest : (rows : Rows) → slice_get (picked (new_pick w d) rows) 0 ≡ oldest rows w d
  unfolding oldest
  first-oldest rows = least-first (picked (new_pick w d) rows) (picked-rise rows)
