-- In key order, part follows part.
use Rattle.std.proofs.Common.{◌≡◌, ◌⊎◌, ◌<◌, ◌≤◌, ◌+◌, ◌-◌, ◌*◌, ◌/◌, ◌%◌, ◌^◌, ◌==◌, ◌&&◌, ℕ, zero, suc, add-one, Bool, true, false, cond, eqb, T, map as each, List, [], ◌∷◌, ◌++◌, length, get_or, drop, Option, Some, None, unwrap_or, inl, inr, refl, sym, ap, subst, ◌∙◌, slice_get, arith}
use Rattle.std.proofs.lemmas.Bool.{cases_Bool, cases_lt, eqb-true, eqb-false}
use Rattle.std.proofs.lemmas.Bool.Decides.{nat_tests}
use Rattle.std.proofs.lemmas.Cmp.{ranked}
use Rattle.std.proofs.lemmas.List.{get_or_default}
use Rattle.std.proofs.lemmas.Option.{slice_get-map, slice_get_within}
use Rattle.std.specs.FinMap as map
use Rattle.std.specs.FinMap.{entries, entries_sorted, get, get-entries, is_sorted, len, len-entries, same_map}
use Rattle.std.specs.FinMap.Entries.{below_all, find-where_key, is_sorted-where_key, same_entries, where_key}
use Rattle.std.specs.List.{filter}
use Rattle.std.specs.Ordering.{is_lt, nat_cmp}
use Rattle.std.specs.Prelude.{nat_le, nat_lt, option_map}
use Rattle.tables.specs.ByRank.{ByRank}
use Rattle.tables.specs.Keys.{key_at, key_of, kind_in}
use Rattle.tables.specs.Shelves.{place_of, rows_at, union}
use Rattle.tables.proofs.RankKeys.{key_at-rank, kind-of}
use Rattle.tables.proofs.Shelved.{get-rows_at, table-union}
use Rattle.tables.proofs.Tables.{rank_total, exact_ranks}
use Rattle.tpcc_rows.proofs.KeyRanks.{in_kind-small}
use Rattle.tpcc_rows.proofs.Singles.{first, less, second}
use Rattle.tpcc_rows.specs.Ranks.{IsNumbered, columns, kind, rank}
use Rattle.tpcc_rows.specs.RowMap.{Rows}
use Rattle.tpcc_rows.specs.declared.key.RowKey.{RowKey}
use Rattle.tpcc_rows.specs.declared.key.RowKey.TheVariants as key
use Rattle.tpcc_rows.specs.declared.row.Row.{Row}
use Rattle.row_tables.specs.Kinds.{AreByKind, table_of, table_of_kind, typed}
use Rattle.row_tables.specs.Parts.{AreInParts, is_of_table, part_in, part_of, part_rows, ranks_in, rows_between}
use Rattle.row_tables.specs.RankRows.{RankRows}
use Rattle.row_tables.specs.Stored.{AreKept, IsRank, keyed}
use Rattle.row_tables.proofs.ByKind.{entries-at, entries-typed}
use Rattle.row_tables.proofs.Counting.{counted-rows, entries-keyed, few}
use Rattle.row_tables.proofs.Keyed.{AreRanks, keyed_entries, rank-back, rank-key, ranks-kept}
use Rattle.row_tables.proofs.NewNumbers.{place-of}

-- ---- rows of one kind, and of them those of a part
-- both tests of a part of a kind whose rows are in a table for each district
one-test : (t q table place : ℕ) → q < 2048 → place < 2048 → eqb table 6 ≡ false → eqb (t * 2048 + cond (eqb t 6) 0 q) (table * 2048 + place) ≡ (eqb q place && eqb t table)
one-test t q table place hq hp other = elim (cases_Bool (eqb t table)) [
  | inl same ↦
      (let is : t ≡ table = eqb-true t table same in
      let apart : eqb t 6 ≡ false = ap (λ n. eqb n 6) is ∙ other in
      rw (apart, same) (grind (arith, nat_tests)))
  | inr apart ↦ (let no : t ≡ table → ⊥ = eqb-false t table apart in rw apart (grind (arith, nat_tests)))
]

twice : {A : Type 0} (a b : Bool) (o : Option A) → cond (a && b) o None ≡ cond a (cond b o None) None
twice true b o = refl
twice false b o = refl

entries-at-part : (m : RankRows) (part : ℕ) → entries (ranks_in m part) ≡ where_key nat_cmp (λ r. eqb (part_in r) part) (entries m)
entries-at-part m part =
    same_entries nat_cmp rank_total exact_ranks _ _ (entries_sorted (ranks_in m part)) (is_sorted-where_key nat_cmp (λ r. eqb (part_in r) part) (entries m) (entries_sorted m))
    (λ q. sym (get-entries (ranks_in m part) q) ∙ get-rows_at part_in m part q ∙ ap (λ o. cond (eqb (part_in q) part) o None) (get-entries m q)
    ∙ sym (find-where_key nat_cmp (λ r. eqb (part_in r) part) q (λ x t. ap (λ r. eqb (part_in r) part) (sym (exact_ranks q x t))) (entries m)))

module _ (m : RankRows) where
  pub of-district : (table part : ℕ) → part / 2048 ≡ table → eqb table 6 ≡ false → ranks_in m part ≡ rows_at place_of (rows_at table_of m table) (part % 2048)
  of-district table part is other = same_map rank_total exact_ranks _ _ (λ q.
      let whole : part ≡ table * 2048 + part % 2048 = omega (arith, is) in
      get-rows_at part_in m part q
      ∙ ap (λ b. cond b (get m q) None) (ap (eqb (part_in q)) whole ∙ one-test (table_of q) (place_of q) table (part % 2048) (omega arith) (omega arith) other)
      ∙ twice (eqb (place_of q) (part % 2048)) (eqb (table_of q) table) (get m q)
      ∙ sym (get-rows_at place_of (rows_at table_of m table) (part % 2048) q ∙ ap (λ o. cond (eqb (place_of q) (part % 2048)) o None) (get-rows_at table_of m table q)))

  all-payments : (t q : ℕ) → q < 2048 → eqb (t * 2048 + cond (eqb t 6) 0 q) (6 * 2048) ≡ eqb t 6
  all-payments t q hq = elim (cases_Bool (eqb t 6)) [
    | inl same ↦ (let is : t ≡ 6 = eqb-true t 6 same in rw same (grind (arith, nat_tests)))
    | inr apart ↦ (let no : t ≡ 6 → ⊥ = eqb-false t 6 apart in rw apart (grind (arith, nat_tests)))
  ]

  pub of-payments : ranks_in m (6 * 2048) ≡ rows_at table_of m 6
  of-payments = same_map rank_total exact_ranks _ _ (λ q.
      get-rows_at part_in m (6 * 2048) q
      ∙ ap (λ b. cond b (get m q) None) (all-payments (table_of q) (place_of q) (omega arith))
      ∙ sym (get-rows_at table_of m 6 q))

  no-part : (t q part : ℕ) → q < 2048 → part / 2048 ≡ 6 → eqb (part % 2048) 0 ≡ false → eqb (t * 2048 + cond (eqb t 6) 0 q) part ≡ false
  no-part t q part hq is later = elim (cases_Bool (eqb t 6)) [
    | inl same ↦ (let six : t ≡ 6 = eqb-true t 6 same in let no : part % 2048 ≡ 0 → ⊥ = eqb-false (part % 2048) 0 later in rw same (grind (arith, nat_tests)))
    | inr apart ↦ (let no : t ≡ 6 → ⊥ = eqb-false t 6 apart in rw apart (grind (arith, nat_tests)))
  ]

  none-kept : (p : ℕ → Bool) (es : List (ℕ × Row)) → ((r : ℕ) → p r ≡ false) → where_key nat_cmp p es ≡ []
  none-kept p [] h = refl
  none-kept p (e ∷ es) h = ap (λ b. cond b (e ∷ where_key nat_cmp p es) (where_key nat_cmp p es)) (h e.0) ∙ none-kept p es h

  pub past-payments : (part : ℕ) → part / 2048 ≡ 6 → eqb (part % 2048) 0 ≡ false → entries (ranks_in m part) ≡ []
  past-payments part is later = entries-at-part m part ∙ none-kept (λ r. eqb (part_in r) part) (entries m) (λ r. no-part (table_of r) (place_of r) part (omega arith) is later)

-- ---- no part past the last
module _ (m : RankRows) where
  either-below : (b : Bool) (x y n : ℕ) → x ≤ n → y ≤ n → cond b x y ≤ n
  either-below true x y n h g = h
  either-below false x y n h g = g

  most-tables : (k : ℕ) → table_of_kind k ≤ 8
  most-tables k =
      either-below (k == 1) 0 _ 8 (omega arith) (either-below (k == 3) 1 _ 8 (omega arith) (either-below (k == 4) 2 _ 8 (omega arith) (either-below (k == 5) 3 _ 8 (omega arith)
      (either-below (k == 6) 4 _ 8 (omega arith) (either-below (k == 7) 5 _ 8 (omega arith) (either-below (k == 8) 6 _ 8 (omega arith) (either-below (k == 9) 7 8 8 (omega arith) (omega arith))))))))

  past-all : (t q part : ℕ) → q < 2048 → t ≤ 8 → 9 * 2048 ≤ part → eqb (t * 2048 + cond (eqb t 6) 0 q) part ≡ false
  past-all t q part hq ht later =
      let few : cond (eqb t 6) 0 q ≤ 2047 = either-below (eqb t 6) 0 q 2047 (omega arith) (omega (arith, hq)) in
      grind (arith, nat_tests)

  pub past-parts : (part : ℕ) → 9 * 2048 ≤ part → entries (ranks_in m part) ≡ []
  past-parts part later = entries-at-part m part ∙ none-kept m (λ r. eqb (part_in r) part) (entries m) (λ r. past-all (table_of r) (place_of r) part (omega arith) (most-tables (kind_in r)) later)

-- ---- the n-th row of a part
pub both-maps : {A B C : Type 0} (f : A → B) (g : B → C) (o : Option A) → option_map (λ x. g (f x)) o ≡ option_map g (option_map f o)
both-maps f g None = refl
both-maps f g (Some x) = refl

module _ {X : Type 0} (make : X → Row) (maps : List RankRows) (h : AreByKind maps) (m : RankRows) (whole : union maps ≡ m) (t : ByRank X) where
  pub nth-in : (table : ℕ) → table < length maps → eqb table 6 ≡ false → typed make t ≡ get_or maps table (typed make t) → (part place : ℕ) → part / 2048 ≡ table → place ≡ part % 2048
      → (es : List (ℕ × X)) → es ≡ entries (rows_at place_of t place) → (n : ℕ) → option_map (λ e. (e.0, make e.1)) (slice_get es n) ≡ slice_get (entries (ranks_in m part)) n
  nth-in table small other here part place is at es are n =
      sym (slice_get-map (λ e. (e.0, make e.1)) es n)
      ∙ ap (λ xs. slice_get xs n) (
      ap (each (λ e. (e.0, make e.1))) (are ∙ ap (λ p. entries (rows_at place_of t p)) at)
      ∙ entries-at make maps h table small t here place_of (part % 2048)
      ∙ ap (λ (a : RankRows). entries a) (sym (of-district (union maps) table part is other) ∙ ap (λ a. ranks_in a part) whole))

  pub nth-payment : 6 < length maps → typed make t ≡ get_or maps 6 (typed make t) → (part : ℕ) → part / 2048 ≡ 6 → eqb (part % 2048) 0 ≡ true
      → (es : List (ℕ × X)) → es ≡ entries t → (n : ℕ) → option_map (λ e. (e.0, make e.1)) (slice_get es n) ≡ slice_get (entries (ranks_in m part)) n
  nth-payment small here part is first_part es are n =
      let at : part ≡ 6 * 2048 = (let zero : part % 2048 ≡ 0 = eqb-true (part % 2048) 0 first_part in omega (arith, is, zero)) in
      sym (slice_get-map (λ e. (e.0, make e.1)) es n)
      ∙ ap (λ xs. slice_get xs n) (
      ap (each (λ e. (e.0, make e.1))) are ∙ sym (entries-typed make t)
      ∙ ap (λ (a : RankRows). entries a) (here ∙ get_or_default maps 6 (typed make t) map.empty small ∙ table-union table_of maps h 6 ∙ sym (of-payments (union maps)) ∙ ap (λ p. ranks_in (union maps) p) (sym at) ∙ ap (λ a. ranks_in a part) whole))

-- ---- parts of keys
-- a number of places of which the last 28 bits are a part's own
pub record IsPart (k : RowKey) : Type 0 where
  pub place : ℕ
  pub low : ℕ
  pub small : place < 2048
  pub is : part_of k ≡ table_of_kind (kind k) * 2048 + place
  pub ranked : rank k ≡ kind k * 2 ^ 56 + (place * 2 ^ 28 + low)
  pub within : place * 2 ^ 28 + low < 2 ^ 56
  pub own : (low < 2 ^ 28) ⊎ (kind k ≡ 8)
  pub paid : kind k ≡ 8 → place ≡ 0
  pub valid : (kind k ≡ 1) ⊎ (3 ≤ kind k)
  pub tabled : table_of_kind (kind k) ≡ kind k - 2

of-kind : (k : RowKey) → IsNumbered k → table_of (rank k) ≡ table_of_kind (kind k)
of-kind k h = ap table_of_kind (kind-of k h)

module _ (k : RowKey) (h : IsNumbered k) where
  in-kind : part_of k ≡ table_of_kind (kind k) * 2048 + cond (table_of_kind (kind k) == 6) 0 (place_of (rank k))
  in-kind = ap (λ t. t * 2048 + cond (t == 6) 0 (place_of (rank k))) (of-kind k h)

  of-columns : (w d n l : ℕ) → w < 128 → d < 16 → n < 2 ^ 24 → l < 16 → rank k ≡ kind k * 2 ^ 56 + columns w d n l → (table_of_kind (kind k) == 6) ≡ false → (kind k ≡ 8 → ⊥)
      → (kind k ≡ 1) ⊎ (3 ≤ kind k) → table_of_kind (kind k) ≡ kind k - 2 → IsPart k
  of-columns w d n l hw hd hn hl at other unpaid valid tabled = record {
    place = w * 16 + d;
    low = n * 16 + l;
    small = omega (arith, hw, hd);
    is = in-kind ∙ ap (λ b. table_of_kind (kind k) * 2048 + cond b 0 (place_of (rank k))) other
        ∙ ap (λ p. table_of_kind (kind k) * 2048 + p) (ap place_of at ∙ place-of (kind k) w d n l hw hd hn hl);
    ranked = at ∙ ap (λ c. kind k * 2 ^ 56 + c) (omega arith);
    within = omega (arith, hw, hd, hn, hl);
    own = inl (omega (arith, hn, hl));
    paid = λ eight. absurd (unpaid eight);
    valid = valid;
    tabled = tabled;
  }

is-part : (k : RowKey) → IsNumbered k → IsPart k
is-part (key.Warehouse w) h = let a = h.1 in of-columns (key.Warehouse w) h w 0 0 0 (omega (arith, a)) (omega arith) (omega arith) (omega arith) refl refl (λ e. omega (arith, e)) (inl refl) refl
is-part (key.Customer w d c) h = let a = h.0.1 in let b = h.1.1 in let e = h.2.1 in of-columns (key.Customer w d c) h w d c 0 (omega (arith, a)) (omega (arith, b)) (omega (arith, e)) (omega arith) refl refl (λ e. omega (arith, e)) (inr (omega arith)) refl
is-part (key.Stock w i) h = let a = h.0.1 in let b = h.1.1 in of-columns (key.Stock w i) h w 0 i 0 (omega (arith, a)) (omega arith) (omega (arith, b)) (omega arith) refl refl (λ e. omega (arith, e)) (inr (omega arith)) refl
is-part (key.Order w d o) h = let a = h.0.1 in let b = h.1.1 in let e = h.2.1 in of-columns (key.Order w d o) h w d o 0 (omega (arith, a)) (omega (arith, b)) (omega (arith, e)) (omega arith) refl refl (λ e. omega (arith, e)) (inr (omega arith)) refl
is-part (key.NewOrder w d o) h = let a = h.0.1 in let b = h.1.1 in let e = h.2.1 in of-columns (key.NewOrder w d o) h w d o 0 (omega (arith, a)) (omega (arith, b)) (omega (arith, e)) (omega arith) refl refl (λ e. omega (arith, e)) (inr (omega arith)) refl
is-part (key.OrderLine w d o n) h =
    let a = h.0.1 in let b = h.1.1 in let e = h.2.1 in let f = h.3.1 in
    of-columns (key.OrderLine w d o n) h w d o n (omega (arith, a)) (omega (arith, b)) (omega (arith, e)) (omega (arith, f)) refl refl (λ e. omega (arith, e)) (inr (omega arith)) refl
is-part (key.History n) h = record {
  place = 0;
  low = n;
  small = omega arith;
  is = in-kind (key.History n) h;
  ranked = omega arith;
  within = (let small = in_kind-small (key.History n) h in omega (arith, small));
  own = inr refl;
  paid = λ e. refl;
  valid = inr (omega arith);
  tabled = refl;
}
is-part (key.DistrictYtd w d) h = let a = h.0.1 in let b = h.1.1 in of-columns (key.DistrictYtd w d) h w d 0 0 (omega (arith, a)) (omega (arith, b)) (omega arith) (omega arith) refl refl (λ e. omega (arith, e)) (inr (omega arith)) refl
is-part (key.DistrictNext w d) h = let a = h.0.1 in let b = h.1.1 in of-columns (key.DistrictNext w d) h w d 0 0 (omega (arith, a)) (omega (arith, b)) (omega arith) (omega arith) refl refl (λ e. omega (arith, e)) (inr (omega arith)) refl

few-tables : (k : RowKey) → table_of_kind (kind k) ≤ 8
few-tables (key.Warehouse w) = omega arith
few-tables (key.Customer w d c) = omega arith
few-tables (key.Stock w i) = omega arith
few-tables (key.Order w d o) = omega arith
few-tables (key.NewOrder w d o) = omega arith
few-tables (key.OrderLine w d o n) = omega arith
few-tables (key.History n) = omega arith
few-tables (key.DistrictYtd w d) = omega arith
few-tables (key.DistrictNext w d) = omega arith

-- parts rise with ranks
module _ (a b : RowKey) (p : IsPart a) (q : IsPart b) (less : rank a < rank b) where
  same-kind : kind a ≡ kind b → p.place ≤ q.place
  same-kind same = elim p.own [
    | inr paid ↦ (let none = p.paid paid in omega (arith, none))
    | inl low_a ↦ elim q.own [
      | inr paid ↦ (let none = p.paid (same ∙ paid) in omega (arith, none))
      | inl low ↦ (let ra = p.ranked in let rb = q.ranked in omega (arith, ra, rb, less, same, low))
    ]
  ]

  pub parts-rise : part_of a ≤ part_of b
  parts-rise =
      let ra = p.ranked in
      let rb = q.ranked in
      let pa = p.is in
      let pb = q.is in
      let ta = p.tabled in
      let tb = q.tabled in
      let sa = p.small in
      let wa = p.within in
      let wb = q.within in
      elim (cases_lt (kind a) (kind b)) [
        | inl fewer ↦ elim q.valid [
          | inl one ↦ (let none : kind a ≡ 0 = omega (arith, fewer, one) in elim p.valid [ inl is ↦ omega (arith, none, is) | inr is ↦ omega (arith, none, is) ])
          | inr three ↦ elim p.valid [
            | inl is ↦ omega (arith, is, three, ta, tb, pa, pb, sa)
            | inr is ↦ omega (arith, is, three, fewer, ta, tb, pa, pb, sa)
          ]
        ]
        | inr more ↦
            let same : kind a ≡ kind b = omega (arith, ra, rb, less, more, wb, wa) in
            let places = same-kind same in
            let tables : table_of_kind (kind a) ≡ table_of_kind (kind b) = ap table_of_kind same in
            omega (arith, pa, pb, places, tables)
      ]

-- ---- a list whose numbers don't descend, by number
module _ {A : Type 0} (f : A → ℕ) where
  abbrev AtLeast : ℕ → List A → Type 0
  AtLeast n [] = Unit {0}
  AtLeast n (x ∷ xs) = (n ≤ f x) × AtLeast n xs

  abbrev Rising : List A → Type 0
  Rising [] = Unit {0}
  Rising (x ∷ xs) = AtLeast (f x) xs × Rising xs

  abbrev AllBelow : ℕ → List A → Type 0
  AllBelow n [] = Unit {0}
  AllBelow n (x ∷ xs) = (f x < n) × AllBelow n xs

  none-at : (n p : ℕ) (xs : List A) → p < n → AtLeast n xs → filter (λ x. f x == p) xs ≡ []
  none-at n p [] less h = refl
  none-at n p (x ∷ xs) less h =
      let above = h.0 in
      let apart : (f x == p) ≡ false = grind (arith, nat_tests) in
      ap (λ b. cond b (x ∷ filter (λ x. f x == p) xs) (filter (λ x. f x == p) xs)) apart ∙ none-at n p xs less h.1

  abbrev between : ℕ → ℕ → List A → List A
  between p q xs = filter (λ x. nat_le p (f x) && nat_lt (f x) q) xs

  abbrev with_number : ℕ → List A → List A
  with_number p xs = filter (λ x. f x == p) xs

  first-of : (p q : ℕ) (xs : List A) → p < q → Rising xs → between p q xs ≡ with_number p xs ++ between (p + 1) q xs
  first-of p q [] less h = refl
  first-of p q (x ∷ xs) less h = by (first-of p q xs less h.1)
    where
      by : between p q xs ≡ with_number p xs ++ between (p + 1) q xs → between p q (x ∷ xs) ≡ with_number p (x ∷ xs) ++ between (p + 1) q (x ∷ xs)
      by rest = elim (cases_lt p (f x)) [
        | inl above ↦
            let low : nat_le p (f x) ≡ true = grind (arith, nat_tests) in
            let apart : (f x == p) ≡ false = grind (arith, nat_tests) in
            let next : nat_le (p + 1) (f x) ≡ true = grind (arith, nat_tests) in
            let none : with_number p xs ≡ [] = none-at (f x) p xs above h.0 in
            let tail : between p q xs ≡ between (p + 1) q xs = rest ∙ ap (λ ys. ys ++ between (p + 1) q xs) none in
            rw (low, apart, next, none) (ap (λ ys. cond (nat_lt (f x) q) (x ∷ ys) ys) tail)
        | inr under ↦ elim (cases_Bool (f x == p)) [
          | inl same ↦
              let is : f x ≡ p = eqb-true (f x) p same in
              let low : nat_le p (f x) ≡ true = grind (arith, nat_tests) in
              let high : nat_lt (f x) q ≡ true = grind (arith, nat_tests) in
              let next : nat_le (p + 1) (f x) ≡ false = grind (arith, nat_tests) in
              rw (low, high, same, next) (ap (λ ys. x ∷ ys) rest)
          | inr apart ↦
              let no : f x ≡ p → ⊥ = eqb-false (f x) p apart in
              let low : nat_le p (f x) ≡ false = grind (arith, nat_tests) in
              let next : nat_le (p + 1) (f x) ≡ false = grind (arith, nat_tests) in
              rw (low, apart, next) rest
        ]
      ]

  all-between : (q : ℕ) (xs : List A) → AllBelow q xs → between 0 q xs ≡ xs
  all-between q [] h = refl
  all-between q (x ∷ xs) h =
      let within = h.0 in
      let low : nat_le 0 (f x) ≡ true = grind (arith, nat_tests) in
      let high : nat_lt (f x) q ≡ true = grind (arith, nat_tests) in
      rw (low, high) (ap (λ ys. x ∷ ys) (all-between q xs h.1))

-- ---- the rows of a database in parts
-- a key's part is its rank's
key-part : (r : ℕ) → IsRank r → part_of (key_of r) ≡ part_in r
key-part r h = ap (λ q. part_in q) (rank-back r h)

part-below : (r : ℕ) → IsRank r → part_in r < 9 * 2048
part-below r h =
    let p = is-part h.key h.numbered in
    let few = few-tables h.key in
    let small = p.small in
    let is : part_in r ≡ table_of_kind (kind h.key) * 2048 + p.place = ap (λ q. part_in q) (sym h.ranked) ∙ p.is in
    omega (arith, few, small, is)

part-rises : (r s : ℕ) → IsRank r → IsRank s → r < s → part_of (key_of r) ≤ part_of (key_of s)
part-rises r s h g less =
    let less_keys : rank h.key < rank g.key = subst (λ x. x < rank g.key) (sym h.ranked) (subst (λ x. r < x) (sym g.ranked) less) in
    let rise = parts-rise h.key g.key (is-part h.key h.numbered) (is-part g.key g.numbered) less_keys in
    subst (λ k. part_of k ≤ part_of (key_of s)) (sym (rank-key r h)) (subst (λ k. part_of h.key ≤ part_of k) (sym (rank-key s g)) rise)

abbrev of_entry : RowKey × Row → ℕ
of_entry e = part_of e.0

at-least : (r : ℕ) → IsRank r → (es : List (ℕ × Row)) → AreRanks es → T (below_all nat_cmp r es) → AtLeast of_entry (part_of (key_of r)) (keyed_entries es)
at-least r h [] hs b = tt
at-least r h (e ∷ es) hs b =
    let less : r < e.0 = ranked r e.0 _ (sym (less (nat_cmp r e.0) (first (is_lt (nat_cmp r e.0)) (below_all nat_cmp r es) b))) in
    (part-rises r e.0 h hs.0 less, at-least r h es hs.1 (second (is_lt (nat_cmp r e.0)) (below_all nat_cmp r es) b))

rising : (es : List (ℕ × Row)) → AreRanks es → T (is_sorted nat_cmp es) → Rising of_entry (keyed_entries es)
rising [] hs s = tt
rising (e ∷ es) hs s =
    (at-least e.0 hs.0 es hs.1 (first (below_all nat_cmp e.0 es) (is_sorted nat_cmp es) s), rising es hs.1 (second (below_all nat_cmp e.0 es) (is_sorted nat_cmp es) s))

all-below : (es : List (ℕ × Row)) → AreRanks es → AllBelow of_entry (9 * 2048) (keyed_entries es)
all-below [] hs = tt
all-below (e ∷ es) hs = (subst (λ p. p < 9 * 2048) (sym (key-part e.0 hs.0)) (part-below e.0 hs.0), all-below es hs.1)

at-table : (t table place : ℕ) → place < 2048 → (nat_le (t * 2048) (table * 2048 + place) && nat_lt (table * 2048 + place) ((t + 1) * 2048)) ≡ (table == t)
at-table t table place small = grind (arith, nat_tests)

-- the parts of a kind are those of its table
of-table : (t : ℕ) (k : RowKey) → IsNumbered k → (nat_le (t * 2048) (part_of k) && nat_lt (part_of k) ((t + 1) * 2048)) ≡ (table_of_kind (kind k) == t)
of-table t k h = let p = is-part k h in ap (λ n. nat_le (t * 2048) n && nat_lt n ((t + 1) * 2048)) p.is ∙ at-table t (table_of_kind (kind k)) p.place p.small

by-table : (t : ℕ) (es : List (ℕ × Row)) → AreRanks es
    → filter (λ e. nat_le (t * 2048) (part_of e.0) && nat_lt (part_of e.0) ((t + 1) * 2048)) (keyed_entries es) ≡ filter (is_of_table t) (keyed_entries es)
by-table t [] hs = refl
by-table t (e ∷ es) hs =
    let here = of-table t (key_of e.0) (subst IsNumbered (sym (rank-key e.0 hs.0)) hs.0.numbered) in
    let rest = by-table t es hs.1 in
    rw (here, rest) refl

-- what of a part is at a place
keyed-part : (part : ℕ) (es : List (ℕ × Row)) → AreRanks es → filter (λ e. part_of e.0 == part) (keyed_entries es) ≡ keyed_entries (where_key nat_cmp (λ r. eqb (part_in r) part) es)
keyed-part part [] hs = refl
keyed-part part (e ∷ es) hs = by (eqb (part_in e.0) part) refl (keyed-part part es hs.1)
  where
    at : (part_of (key_of e.0) == part) ≡ eqb (part_in e.0) part
    at = ap (λ p. eqb p part) (key-part e.0 hs.0)

    by : (b : Bool) → eqb (part_in e.0) part ≡ b
        → filter (λ e. part_of e.0 == part) (keyed_entries es) ≡ keyed_entries (where_key nat_cmp (λ r. eqb (part_in r) part) es)
        → filter (λ e. part_of e.0 == part) (keyed_entries (e ∷ es)) ≡ keyed_entries (where_key nat_cmp (λ r. eqb (part_in r) part) (e ∷ es))
    by true is rest = rw (at ∙ is, is) (ap (λ ys. (key_of e.0, e.1) ∷ ys) rest)
    by false is rest = rw (at ∙ is, is) rest

shorter : (p : ℕ → Bool) (es : List (ℕ × Row)) → length (where_key nat_cmp p es) ≤ length es
shorter p [] = omega arith
shorter p (e ∷ es) = by (p e.0) (shorter p es)
  where
    by : (b : Bool) → length (where_key nat_cmp p es) ≤ length es → length (cond b (e ∷ where_key nat_cmp p es) (where_key nat_cmp p es)) ≤ suc (length es)
    by true rest = omega (arith, rest)
    by false rest = omega (arith, rest)

rank-at : (p : ℕ → Bool) (es : List (ℕ × Row)) → AreRanks es → AreRanks (where_key nat_cmp p es)
rank-at p [] hs = tt
rank-at p (e ∷ es) hs = by (p e.0) (rank-at p es hs.1)
  where
    by : (b : Bool) → AreRanks (where_key nat_cmp p es) → AreRanks (cond b (e ∷ where_key nat_cmp p es) (where_key nat_cmp p es))
    by true rest = (hs.0, rest)
    by false rest = rest

some-is : {A : Type 0} (x y : A) → Some x ≡ Some y → x ≡ y
some-is x y e = ap (λ o. unwrap_or o x) e

is-rank : (es : List (ℕ × Row)) → AreRanks es → (n : ℕ) (e : ℕ × Row) → slice_get es n ≡ Some e → IsRank e.0
is-rank [] hs n e h = (let no : None ≡ Some e = h in cc)
is-rank (f ∷ es) hs zero e h = subst (λ (g : ℕ × Row). IsRank g.0) (some-is f e h) hs.0
is-rank (f ∷ es) hs (suc n) e h = is-rank es hs.1 n e h

parts-of : (rows : Rows) (es : List (RowKey × Row)) → entries rows ≡ es → Rising of_entry es → AllBelow of_entry (9 * 2048) es
    → ((t : ℕ) → between of_entry (t * 2048) ((t + 1) * 2048) es ≡ filter (is_of_table t) es) → length (entries rows) < 2 ^ 63 → AreInParts rows
unfolding rows_between part_rows
parts-of rows es e rise below tables few = record {
  all = ap (between of_entry 0 (9 * 2048)) e ∙ all-between of_entry (9 * 2048) es below ∙ sym e;
  first = λ part end less. subst (λ fs. between of_entry part end fs ≡ with_number of_entry part fs ++ between of_entry (part + 1) end fs) (sym e) (first-of of_entry part end es less rise);
  of_table = λ t. subst (λ fs. between of_entry (t * 2048) ((t + 1) * 2048) fs ≡ filter (is_of_table t) fs) (sym e) (tables t);
  few = few;
}

-- what is left from a part on
none-between : (part end : ℕ) (es : List (RowKey × Row)) → end ≤ part → between of_entry part end es ≡ []
none-between part end [] past = refl
none-between part end (e ∷ es) past =
    let none : (nat_le part (part_of e.0) && nat_lt (part_of e.0) end) ≡ false = grind (arith, nat_tests) in
    ap (λ b. cond b (e ∷ between of_entry part end es) (between of_entry part end es)) none ∙ none-between part end es past

pub left-from : (rows : Rows) → AreInParts rows → (part end : ℕ) → rows_between rows part end ≡ cond (nat_lt part end) (drop 0 (part_rows rows part) ++ rows_between rows (part + 1) end) []
unfolding rows_between
left-from rows in_parts part end = elim (cases_lt part end) [
  | inl less ↦ (let within : nat_lt part end ≡ true = grind (arith, nat_tests) in rw within (in_parts.first part end less))
  | inr past ↦ (let without : nat_lt part end ≡ false = grind (arith, nat_tests) in rw without (none-between part end (entries rows) past))
]

drop-next : {A : Type 0} (xs : List A) (n : ℕ) (x : A) → Some x ≡ slice_get xs n → drop n xs ≡ x ∷ drop (suc n) xs
drop-next [] n x e = (let no : Some x ≡ None = e in cc)
drop-next (y ∷ xs) zero x e = ap (λ z. z ∷ xs) (some-is y x (sym e))
drop-next (y ∷ xs) (suc n) x e = drop-next xs n x e

pub drop-at : {A : Type 0} (xs : List A) (n : ℕ) (x : A) → Some x ≡ slice_get xs n → drop n xs ≡ x ∷ drop (n + 1) xs
drop-at xs n x e = drop-next xs n x e ∙ ap (λ k. x ∷ drop k xs) (sym (add-one n))

pub drop-past : {A : Type 0} (xs : List A) (n : ℕ) → None ≡ slice_get xs n → drop n xs ≡ []
drop-past [] zero e = refl
drop-past [] (suc n) e = refl
drop-past (y ∷ xs) zero e = (let no : None ≡ Some y = e in cc)
drop-past (y ∷ xs) (suc n) e = drop-past xs n e

pub key-is : (r : ℕ) (k : RowKey) → Some k ≡ key_at r → k ≡ key_of r
key-is r k e = ap (λ o. unwrap_or o (key.Warehouse 1)) e

pub has-key : (r : ℕ) → IsRank r → None ≡ key_at r → ⊥
has-key r h none = (let no : None ≡ Some h.key = none ∙ ap (λ q. key_at q) (sym h.ranked) ∙ key_at-rank h.key h.numbered in cc)

module _ (m : RankRows) (h : AreKept m) where
  pub in-parts : AreInParts (keyed m)
  in-parts = parts-of (keyed m) (keyed_entries (entries m)) (entries-keyed m h) (rising (entries m) (ranks-kept m h) (entries_sorted m)) (all-below (entries m) (ranks-kept m h))
      (λ t. by-table t (entries m) (ranks-kept m h)) (let most = few m h in let same = counted-rows m h in omega (arith, most, same))

  module _ (part n : ℕ) where
    pub nth-part : slice_get (part_rows (keyed m) part) n ≡ option_map (λ e. (key_of e.0, e.1)) (slice_get (entries (ranks_in m part)) n)
    unfolding part_rows
    nth-part =
        ap (λ es. slice_get (filter (λ e. part_of e.0 == part) es) n) (entries-keyed m h)
        ∙ ap (λ es. slice_get es n) (keyed-part part (entries m) (ranks-kept m h))
        ∙ slice_get-map (λ e. (key_of e.0, e.1)) (where_key nat_cmp (λ r. eqb (part_in r) part) (entries m)) n
        ∙ ap (λ es. option_map (λ e. (key_of e.0, e.1)) (slice_get es n)) (sym (entries-at-part m part))

    module _ (e : ℕ × Row) (there : slice_get (entries (ranks_in m part)) n ≡ Some e) where
      there-part : slice_get (where_key nat_cmp (λ r. eqb (part_in r) part) (entries m)) n ≡ Some e
      there-part = ap (λ es. slice_get es n) (sym (entries-at-part m part)) ∙ there

      pub rank-there : IsRank e.0
      rank-there = is-rank _ (rank-at (λ r. eqb (part_in r) part) (entries m) (ranks-kept m h)) n e there-part

      pub few-there : n < 2 ^ 60
      few-there =
          let within = slice_get_within _ n e there-part in
          let fewer = shorter (λ r. eqb (part_in r) part) (entries m) in
          let most = few m h in
          let same : len m ≡ length (entries m) = len-entries m in
          omega (arith, within, fewer, most, same)
