-- The rows of tables and those aside, after a change of either.
use Rattle.std.proofs.Common.{◌≡◌, ◌<◌, ◌+◌, ◌-◌, ℕ, Bool, true, false, cond, is_some, List, [], ◌∷◌, ◌++◌, length, Option, Some, None, Result, Ok, Err, inl, inr, refl, sym, ap, ap₂, subst, ◌∙◌, arith}
use Rattle.std.specs.FinMap as map
use Rattle.std.specs.FinMap.{entries, find, get, get-empty, get-entries, get-from_entries, len, len-empty, len-entries, len-insert, len-remove, remove, same_map}
use Rattle.std.specs.Option.{option_or, unwrap_or}
use Rattle.std.specs.Result.{OnOk, OnErr}
use Rattle.std.specs.Ordering.{eq_by_cmp}
use Rattle.std.proofs.lemmas.Bool.{cases_Bool}
use Rattle.serializability.specs.Changes.{changed}
use Rattle.serializability.proofs.Changes.{get-changed}
use Rattle.tpcc_rows.specs.declared.key.RowKey.{RowKey}
use Rattle.tpcc_rows.specs.declared.row.Row.{Row}
use Rattle.tpcc_rows.specs.Changing.{AreRows, new_row_fits}
use Rattle.tpcc_rows.specs.RowMap.{Rows, row_key_cmp}
use Rattle.tpcc_rows.proofs.Fitting.{rows-empty, rows-insert, rows-remove}
use Rattle.tpcc_rows.proofs.Keys.{row_key_cmp_total, exact_keys}
use Rattle.tpcc_rows.proofs.Singles.{gone, tied}
use Rattle.pointed_tables.specs.Aside.{IsBeside, Roomy, both}

first_of : (b : Bool) (x : Row) (o later all : Option Row) → all ≡ option_or o later → cond b (Some x) all ≡ option_or (cond b (Some x) o) later
first_of true x o later all h = refl
first_of false x o later all h = h

find-two : (es fs : List (RowKey × Row)) (q : RowKey) → find row_key_cmp q (es ++ fs) ≡ option_or (find row_key_cmp q es) (find row_key_cmp q fs)
find-two [] fs q = refl
find-two (e ∷ es) fs q = first_of (eq_by_cmp row_key_cmp q e.0) e.1 (find row_key_cmp q es) (find row_key_cmp q fs) (find row_key_cmp q (es ++ fs)) (find-two es fs q)

or_none : (o : Option Row) → option_or o None ≡ o
or_none None = refl
or_none (Some x) = refl

-- two keys that tie are one
one_key : (q k : RowKey) → eq_by_cmp row_key_cmp q k ≡ true → q ≡ k
one_key q k t = exact_keys q k (tied _ t)

pub none_of : (o : Option Row) → is_some o ≡ false → o ≡ None
none_of None e = refl
none_of (Some x) e = cc

pub get-both : (a m : Rows) (q : RowKey) → get (both a m) q ≡ option_or (get a q) (get m q)
unfolding both
get-both a m q = get-from_entries row_key_cmp_total _ q ∙ find-two (entries a) (entries m) q ∙ ap₂ (λ (x y : Option Row). option_or x y) (sym (get-entries a q)) (sym (get-entries m q))

-- ---- how many there are after a change
abbrev more : Option Row → Option Row → ℕ → ℕ
more None was n = cond (is_some was) (n - 1) n
more (Some x) was n = cond (is_some was) n (n + 1)

len-changed : (m : Rows) (k : RowKey) (c : Option Row) → len (changed m k c) ≡ more c (get m k) (len m)
len-changed m k None = len-remove row_key_cmp_total m k
len-changed m k (Some x) = len-insert row_key_cmp_total m k x

-- one of two parts changes, and the whole with it; a part with a row isn't empty
more-whole : (c was : Option Row) (part other whole : ℕ) → other + part ≡ whole → (is_some was ≡ true → 0 < part) → other + more c was part ≡ more c was whole
more-whole None None part other whole e h = e
more-whole None (Some x) part other whole e h = let some = h refl in omega (arith, e, some)
more-whole (Some y) None part other whole e h = omega (arith, e)
more-whole (Some y) (Some x) part other whole e h = e

-- rows with one of the key
some-len : (m : Rows) (k : RowKey) → is_some (get m k) ≡ true → 0 < len m
some-len m k there = by (get m k) refl there
  where
    by : (o : Option Row) → get m k ≡ o → is_some o ≡ true → 0 < len m
    by None e h = cc
    by (Some x) e h =
        let back : changed (remove m k) k (Some x) ≡ m = same_map row_key_cmp_total exact_keys _ _ (λ q.
        get-changed row_key_cmp_total exact_keys (remove m k) k (Some x) q ∙ elim (cases_Bool (eq_by_cmp row_key_cmp q k)) [
          | inl t ↦ ap (λ b. cond b (Some x) (get (remove m k) q)) t ∙ sym e ∙ ap (get m) (sym (one_key q k t))
          | inr f ↦ ap (λ b. cond b (Some x) (get (remove m k) q)) f ∙ get-changed row_key_cmp_total exact_keys m k None q ∙ ap (λ b. cond b None (get m q)) f
        ]) in
        let none : get (remove m k) k ≡ None = gone row_key_cmp_total exact_keys m k in
        let count : len m ≡ len (remove m k) + 1 =
        ap (λ (z : Rows). len z) (sym back) ∙ len-changed (remove m k) k (Some x) ∙ ap (λ o. more (Some x) o (len (remove m k))) none in
        omega (arith, count)

module _ (a m : Rows) where
  pub both-empty : a ≡ map.empty → both a m ≡ m
  both-empty e = same_map row_key_cmp_total exact_keys _ _ (λ q. get-both a m q ∙ ap (λ o. option_or o (get m q)) (ap (λ (x : Rows). get x q) e ∙ get-empty row_key_cmp q))

  module _ (k : RowKey) (c : Option Row) where
    -- a change aside of a key that has nothing in the tables
    pub both-aside : get m k ≡ None → both (changed a k c) m ≡ changed (both a m) k c
    both-aside none = same_map row_key_cmp_total exact_keys _ _ at
      where
        at : (q : RowKey) → get (both (changed a k c) m) q ≡ get (changed (both a m) k c) q
        at q =
            get-both (changed a k c) m q
            ∙ ap (λ o. option_or o (get m q)) (get-changed row_key_cmp_total exact_keys a k c q)
            ∙ elim (cases_Bool (eq_by_cmp row_key_cmp q k)) [
              | inl t ↦
                  ap (λ b. option_or (cond b c (get a q)) (get m q)) t
                  ∙ ap (λ o. option_or c o) (ap (get m) (one_key q k t) ∙ none) ∙ or_none c
                  ∙ sym (ap (λ b. cond b c (get (both a m) q)) t)
              | inr f ↦
                  ap (λ b. option_or (cond b c (get a q)) (get m q)) f
                  ∙ sym (get-both a m q)
                  ∙ sym (ap (λ b. cond b c (get (both a m) q)) f)
            ]
            ∙ sym (get-changed row_key_cmp_total exact_keys (both a m) k c q)

    -- a change in the tables of a key that has nothing aside
    pub both-tables : get a k ≡ None → both a (changed m k c) ≡ changed (both a m) k c
    both-tables none = same_map row_key_cmp_total exact_keys _ _ at
      where
        at : (q : RowKey) → get (both a (changed m k c)) q ≡ get (changed (both a m) k c) q
        at q =
            get-both a (changed m k c) q
            ∙ ap (λ o. option_or (get a q) o) (get-changed row_key_cmp_total exact_keys m k c q)
            ∙ elim (cases_Bool (eq_by_cmp row_key_cmp q k)) [
              | inl t ↦
                  ap (λ b. option_or (get a q) (cond b c (get m q))) t
                  ∙ ap (λ o. option_or o c) (ap (get a) (one_key q k t) ∙ none)
                  ∙ sym (ap (λ b. cond b c (get (both a m) q)) t)
              | inr f ↦
                  ap (λ b. option_or (get a q) (cond b c (get m q))) f
                  ∙ sym (get-both a m q)
                  ∙ sym (ap (λ b. cond b c (get (both a m) q)) f)
            ]
            ∙ sym (get-changed row_key_cmp_total exact_keys (both a m) k c q)

    rows-changed : AreRows a → new_row_fits k c ≡ true → AreRows (changed a k c)
    rows-changed are fit = by c fit
      where
        by : (d : Option Row) → new_row_fits k d ≡ true → AreRows (changed a k d)
        by None f = rows-remove a k are
        by (Some x) f = rows-insert a k x are f

    counted-aside : IsBeside a m → get m k ≡ None → len (changed a k c) + len m ≡ len (both (changed a k c) m)
    counted-aside h none =
        let same : get (both a m) k ≡ get a k = get-both a m k ∙ ap (λ o. option_or (get a k) o) none ∙ or_none (get a k) in
        let swap : len m + len a ≡ len (both a m) = let sum = h.counted in omega (arith, sum) in
        let part = len-changed a k c in
        let sum = more-whole c (get a k) (len a) (len m) (len (both a m)) swap (some-len a k) in
        let whole : len (both (changed a k c) m) ≡ more c (get a k) (len (both a m)) =
        ap (λ (z : Rows). len z) (both-aside none) ∙ len-changed (both a m) k c ∙ ap (λ o. more c o (len (both a m))) same in
        omega (arith, part, sum, whole)

    counted-tables : IsBeside a m → get a k ≡ None → len a + len (changed m k c) ≡ len (both a (changed m k c))
    counted-tables h none =
        let same : get (both a m) k ≡ get m k = get-both a m k ∙ ap (λ o. option_or o (get m k)) none in
        ap (λ n. len a + n) (len-changed m k c) ∙ more-whole c (get m k) (len m) (len a) (len (both a m)) h.counted (some-len m k)
        ∙ sym (ap (λ (z : Rows). len z) (both-tables none) ∙ len-changed (both a m) k c ∙ ap (λ o. more c o (len (both a m))) same)

    pub beside-aside : IsBeside a m → get m k ≡ None → new_row_fits k c ≡ true → IsBeside (changed a k c) m
    beside-aside h none fit = record {
      kinds = rows-changed h.kinds fit;
      apart = λ q there. elim (cases_Bool (eq_by_cmp row_key_cmp q k)) [
        | inl t ↦ ap (get m) (one_key q k t) ∙ none
        | inr f ↦ h.apart q (ap is_some (sym (get-changed row_key_cmp_total exact_keys a k c q ∙ ap (λ b. cond b c (get a q)) f)) ∙ there)
      ];
      counted = counted-aside h none;
    }

    pub beside-tables : IsBeside a m → get a k ≡ None → IsBeside a (changed m k c)
    beside-tables h none = record {
      kinds = h.kinds;
      apart = λ q there. elim (cases_Bool (eq_by_cmp row_key_cmp q k)) [
        | inl t ↦ (let wrong : true ≡ false = sym there ∙ ap is_some (ap (get a) (one_key q k t) ∙ none) in cc)
        | inr f ↦ get-changed row_key_cmp_total exact_keys m k c q ∙ ap (λ b. cond b c (get m q)) f ∙ h.apart q there
      ];
      counted = counted-tables h none;
    }

    -- the same, unless memory was refused
    pub beside-tried : {A E : Type 0} (m2 : Rows) (r : Result A E) → OnOk r (m2 ≡ changed m k c) → OnErr r (m2 ≡ m) → IsBeside a m → get a k ≡ None → IsBeside a m2
    beside-tried m2 (Ok x) ok err h none = subst (λ (z : Rows). IsBeside a z) (sym ok) (beside-tables h none)
    beside-tried m2 (Err e) ok err h none = subst (λ (z : Rows). IsBeside a z) (sym err) h

  -- ---- what a key has
  pub got-aside : (k : RowKey) → IsBeside a m → is_some (get a k) ≡ true → get a k ≡ get (both a m) k
  got-aside k h there = sym (or_none (get a k)) ∙ ap (λ o. option_or (get a k) o) (sym (h.apart k there)) ∙ sym (get-both a m k)

  pub got-tables : (k : RowKey) → get a k ≡ None → get m k ≡ get (both a m) k
  got-tables k none = ap (λ o. option_or o (get m k)) (sym none) ∙ sym (get-both a m k)

  pub got-first : (k : RowKey) (x : Row) → get a k ≡ Some x → Some x ≡ get (both a m) k
  got-first k x e = ap (λ o. option_or o (get m k)) (sym e) ∙ sym (get-both a m k)

  pub fits-aside : (k : RowKey) (was : Option Row) → IsBeside a m → was ≡ get a k → new_row_fits k was ≡ true
  fits-aside k None h e = refl
  fits-aside k (Some x) h e = h.kinds k x (sym e)

  pub beside-empty : a ≡ map.empty → IsBeside a m
  beside-empty e = record {
    kinds = subst AreRows (sym e) rows-empty;
    apart = λ q there. (let wrong : true ≡ false = sym there ∙ ap is_some (ap (λ (x : Rows). get x q) e ∙ get-empty row_key_cmp q) in cc);
    counted = (
        let none : len a ≡ 0 = ap (λ (z : Rows). len z) e ∙ len-empty row_key_cmp Row in
        let whole : len (both a m) ≡ len m = ap (λ (z : Rows). len z) (both-empty e) in
        omega (arith, none, whole)
        );
  }

-- ---- a row of the tables and another have changed places, or neither has
module _ (a m : Rows) (k : RowKey) (x : Row) (none : get a k ≡ None) where
  pub beside-swapped : IsBeside a m → (b : Bool) (m2 : Rows) → m2 ≡ cond b (map.insert m k x) m → IsBeside a m2
  beside-swapped h true m2 e = subst (λ (z : Rows). IsBeside a z) (sym e) (beside-tables a m k (Some x) h none)
  beside-swapped h false m2 e = subst (λ (z : Rows). IsBeside a z) (sym e) h

  pub both-swapped : (b : Bool) (m2 : Rows) → m2 ≡ cond b (map.insert m k x) m → both a m2 ≡ cond b (map.insert (both a m) k x) (both a m)
  both-swapped true m2 e = ap (λ (z : Rows). both a z) e ∙ both-tables a m k (Some x) none
  both-swapped false m2 e = ap (λ (z : Rows). both a z) e

pub given-back : (o : Option Row) (x y : Row) → y ≡ unwrap_or o x → is_some o ≡ true → o ≡ Some y
given-back None x y e h = cc
given-back (Some z) x y e h = ap Some (sym e)

pub not-taken : (o : Option Row) (x y : Row) → y ≡ unwrap_or o x → is_some o ≡ false → y ≡ x
not-taken None x y e h = e
not-taken (Some z) x y e h = cc

-- ---- what is shown of both
module _ (a m : Rows) (room : ℕ) (s : Roomy) (is : record { rows = both a m; room = room } ≡ s) where
  pub seen : (k : RowKey) → get (both a m) k ≡ get s.rows k
  seen k = ap (λ (z : Roomy). get z.rows k) is

  pub count-both : IsBeside a m → length (entries a) + length (entries m) ≡ length (entries s.rows)
  count-both h =
      ap₂ (λ (x y : ℕ). x + y) (sym (len-entries a)) (sym (len-entries m)) ∙ h.counted ∙ len-entries (both a m) ∙ ap (λ (z : Roomy). length (entries z.rows)) is

  -- with none aside, those of the tables
  pub seen-alone : a ≡ map.empty → m ≡ s.rows
  seen-alone e = sym (both-empty a m e) ∙ ap (λ (z : Roomy). z.rows) is

  -- one that is nowhere is in neither
  pub nowhere : (k : RowKey) → is_some (get s.rows k) ≡ false → (get a k ≡ None) × (get m k ≡ None)
  nowhere k none = neither (get a k) (get m k) (sym (get-both a m k) ∙ seen k ∙ none_of _ none)
    where
      neither : (o p : Option Row) → option_or o p ≡ None → (o ≡ None) × (p ≡ None)
      neither None p e = (refl, e)
      neither (Some x) p e = cc

  pub seen-changed : (k : RowKey) (c : Option Row) → changed (both a m) k c ≡ changed s.rows k c
  seen-changed k c = ap (λ (z : Roomy). changed z.rows k c) is
