-- What tables side by side hold, and what a change of one table does to the rows of all.
use Rattle.std.proofs.Common.{◌≡◌, ℕ, zero, suc, ◌<◌, eqb, Bool, true, false, cond, List, [], ◌∷◌, ◌++◌, length, get_or, set, Option, Some, None, Result, Ok, Err, refl, sym, ap, subst, ◌∙◌, arith}
use Rattle.std.proofs.Math.Dec.{eqb-suc-suc, eqb-suc-zero, eqb-zero-suc}
use Rattle.std.proofs.lemmas.Bool.{eqb-true, eqb-false}
use Rattle.std.proofs.lemmas.List.{get_or_default, length-set, set-get_or}
use Rattle.std.specs.Option.{option_or}
use Rattle.std.specs.Result.{OnOk, OnErr}
use Rattle.std.specs.FinMap as map
use Rattle.std.specs.FinMap.{get, entries, find, same_map, get-empty, get-entries, get-from_entries, get-retain_keys}
use Rattle.std.specs.Ordering.{eq_by_cmp, nat_cmp}
use Rattle.serializability.specs.Changes.{changed}
use Rattle.serializability.proofs.Changes.{get-changed}
use Rattle.tpcc_rows.proofs.Singles.{tied}
use Rattle.tables.specs.ByRank.{ByRank}
use Rattle.tables.specs.Shelves.{entries_of, union, table_at, IsPlaced, IsShelf, rows_at}
use Rattle.tables.proofs.Tables.{rank_total, exact_ranks}

-- what holds after both ends of a call
pub either : {T E P : Type 0} (r : Result T E) → OnOk r P → OnErr r P → P
either (Ok x) p q = p
either (Err e) p q = q

-- at another place no rank ties
pub other_place : (place : ℕ → ℕ) (q k : ℕ) → eqb (place q) (place k) ≡ false → eq_by_cmp nat_cmp q k ≡ false
other_place place q k e = elim (eq_by_cmp nat_cmp q k) as (λ b. eq_by_cmp nat_cmp q k ≡ b → b ≡ false) [
  | true ↦ λ t. absurd (eqb-false (place q) (place k) e (ap place (exact_ranks q k (tied _ t))))
  | false ↦ λ t. refl
] refl

module _ {X : Type 0} where
  -- ---- what a table has
  pub or_none : (o : Option X) → option_or o None ≡ o
  or_none None = refl
  or_none (Some x) = refl

  first_of : (b : Bool) (x : X) (o later all : Option X) → all ≡ option_or o later → cond b (Some x) all ≡ option_or (cond b (Some x) o) later
  first_of true x o later all h = refl
  first_of false x o later all h = h

  pub find-two : (es fs : List (ℕ × X)) (q : ℕ) → find nat_cmp q (es ++ fs) ≡ option_or (find nat_cmp q es) (find nat_cmp q fs)
  find-two [] fs q = refl
  find-two (e ∷ es) fs q = first_of (eq_by_cmp nat_cmp q e.0) e.1 (find nat_cmp q es) (find nat_cmp q fs) (find nat_cmp q (es ++ fs)) (find-two es fs q)

  find-table : (t : ByRank X) (ts : List (ByRank X)) (q : ℕ) → find nat_cmp q (entries_of (t ∷ ts)) ≡ option_or (get t q) (find nat_cmp q (entries_of ts))
  find-table t ts q = find-two (entries t) (entries_of ts) q ∙ ap (λ o. option_or o (find nat_cmp q (entries_of ts))) (sym (get-entries t q))

  nowhere : (ts : List (ByRank X)) (q : ℕ) → ((n : ℕ) → get (table_at ts n) q ≡ None) → find nat_cmp q (entries_of ts) ≡ None
  nowhere [] q h = refl
  nowhere (t ∷ ts) q h = find-table t ts q ∙ ap (λ o. option_or o (find nat_cmp q (entries_of ts))) (h 0) ∙ nowhere ts q (λ n. h (suc n))

  -- what no other table has stands in this one
  in_table : (ts : List (ByRank X)) (q m : ℕ) → ((n : ℕ) → eqb m n ≡ false → get (table_at ts n) q ≡ None) → find nat_cmp q (entries_of ts) ≡ get (table_at ts m) q
  in_table [] q m h = sym (get-empty nat_cmp q)
  in_table (t ∷ ts) q zero h = find-table t ts q ∙ ap (option_or (get t q)) (nowhere ts q (λ n. h (suc n) (eqb-zero-suc n))) ∙ or_none (get t q)
  in_table (t ∷ ts) q (suc m) h = find-table t ts q ∙ ap (λ o. option_or o (find nat_cmp q (entries_of ts))) (h 0 (eqb-suc-zero m)) ∙ in_table ts q m (λ n e. h (suc n) (eqb-suc-suc m n ∙ e))

  pub table-set : (ts : List (ByRank X)) (n : ℕ) (t : ByRank X) (m : ℕ) → n < length ts → table_at (set ts n t) m ≡ cond (eqb m n) t (table_at ts m)
  table-set [] n t m h = absurd (omega arith)
  table-set (x ∷ ts) zero t zero h = refl
  table-set (x ∷ ts) zero t (suc m) h = ap (λ b. cond b t (table_at ts m)) (sym (eqb-suc-zero m))
  table-set (x ∷ ts) (suc n) t zero h = ap (λ b. cond b t x) (sym (eqb-zero-suc n))
  table-set (x ∷ ts) (suc n) t (suc m) h = table-set ts n t m (omega arith) ∙ ap (λ b. cond b t (table_at ts m)) (sym (eqb-suc-suc m n))

  -- a row replaced by itself
  pub insert-same : (m : ByRank X) (k : ℕ) (x : X) → get m k ≡ Some x → m ≡ map.insert m k x
  insert-same m k x there = same_map rank_total exact_ranks _ _ (λ q.
      elim (eq_by_cmp nat_cmp q k) as (λ b. eq_by_cmp nat_cmp q k ≡ b → get m q ≡ cond b (Some x) (get m q)) [
        | true ↦ λ t. ap (get m) (exact_ranks q k (tied _ t)) ∙ there
        | false ↦ λ t. refl
      ] refl ∙ sym (get-changed rank_total exact_ranks m k (Some x) q))

  -- a table replaced by itself
  pub set-same : (ts : List (ByRank X)) (n : ℕ) (old new : ByRank X) → old ≡ get_or ts n old → new ≡ old → set ts n new ≡ ts
  set-same ts n old new here same = ap (set ts n) (same ∙ here) ∙ set-get_or ts n old

  -- one table replaced by one that is changed at a rank of its place
  pub record IsChange (place : ℕ → ℕ) (ts : List (ByRank X)) (n : ℕ) (old new : ByRank X) (k : ℕ) (c : Option X) : Type 0 where
    pub at : n ≡ place k
    pub small : n < length ts
    pub here : old ≡ get_or ts n old
    pub change : new ≡ changed old k c

  -- ---- empty tables
  pub record AreEmpty (ts : List (ByRank X)) : Type 0 where
    pub empty_at : (n : ℕ) → table_at ts n ≡ map.empty

  empty_at-push : (ts : List (ByRank X)) → ((n : ℕ) → table_at ts n ≡ map.empty) → (n : ℕ) → table_at (ts ++ map.empty ∷ []) n ≡ map.empty
  empty_at-push [] h zero = refl
  empty_at-push [] h (suc n) = refl
  empty_at-push (t ∷ ts) h zero = h 0
  empty_at-push (t ∷ ts) h (suc n) = empty_at-push ts (λ m. h (suc m)) n

  pub AreEmpty-push : (ts : List (ByRank X)) (t : ByRank X) → t ≡ map.empty → AreEmpty ts → AreEmpty (ts ++ t ∷ [])
  AreEmpty-push ts t e h = subst (λ (x : ByRank X). AreEmpty (ts ++ x ∷ [])) (sym e) (record { empty_at = empty_at-push ts h.empty_at })

module _ {X : Type 0} (place : ℕ → ℕ) where
  -- a rank is looked up in the table at its place
  pub get-union : (ts : List (ByRank X)) → IsPlaced place ts → (q : ℕ) → get (union ts) q ≡ get (table_at ts (place q)) q
  unfolding union
  get-union ts placed q = get-from_entries rank_total (entries_of ts) q ∙ in_table ts q (place q) (λ n e. placed.placed n q e)

  pub get-rows_at : (m : ByRank X) (n q : ℕ) → get (rows_at place m n) q ≡ cond (eqb (place q) n) (get m q) None
  unfolding rows_at
  get-rows_at m n q = get-retain_keys m (λ k. eqb (place k) n) q (λ x t. ap (λ k. eqb (place k) n) (sym (exact_ranks q x t)))

  -- table n has the rows of place n
  pub table-union : (ts : List (ByRank X)) → IsPlaced place ts → (n : ℕ) → table_at ts n ≡ rows_at place (union ts) n
  table-union ts placed n = same_map rank_total exact_ranks _ _ (λ q.
      elim (eqb (place q) n) as (λ b. eqb (place q) n ≡ b → get (table_at ts n) q ≡ cond b (get (union ts) q) None) [
        | true ↦ λ t. ap (λ m. get (table_at ts m) q) (sym (eqb-true (place q) n t)) ∙ sym (get-union ts placed q)
        | false ↦ λ t. placed.placed n q t
      ] refl ∙ sym (get-rows_at (union ts) n q))

  module _ (ts : List (ByRank X)) (placed : IsPlaced place ts) (n : ℕ) (old new : ByRank X) (k : ℕ) (c : Option X) (h : IsChange place ts n old new k c) where
    old_table : old ≡ table_at ts n
    old_table = h.here ∙ get_or_default ts n old map.empty h.small

    get-new : (q : ℕ) → get new q ≡ cond (eq_by_cmp nat_cmp q k) c (get (table_at ts n) q)
    get-new q = ap (λ (t : ByRank X). get t q) h.change ∙ get-changed rank_total exact_ranks old k c q ∙ ap (λ (t : ByRank X). cond (eq_by_cmp nat_cmp q k) c (get t q)) old_table

    -- each table after the change
    get-table : (m q : ℕ) → get (table_at (set ts n new) m) q ≡ cond (eqb m n) (cond (eq_by_cmp nat_cmp q k) c (get (table_at ts n) q)) (get (table_at ts m) q)
    get-table m q = ap (λ (t : ByRank X). get t q) (table-set ts n new m h.small) ∙ elim (eqb m n) as (λ b. get (cond b new (table_at ts m)) q ≡ cond b (cond (eq_by_cmp nat_cmp q k) c (get (table_at ts n) q)) (get (table_at ts m) q)) [
      | true ↦ get-new q
      | false ↦ refl
    ]

    pub placed-change : IsPlaced place (set ts n new)
    placed-change = record {
      placed = λ m q e. get-table m q ∙ elim (eqb m n) as (λ b. eqb m n ≡ b → cond b (cond (eq_by_cmp nat_cmp q k) c (get (table_at ts n) q)) (get (table_at ts m) q) ≡ None) [
        | true ↦ λ t.
            let here : m ≡ n = eqb-true m n t in
            let apart : eqb (place q) (place k) ≡ false = ap (eqb (place q)) (sym (here ∙ h.at)) ∙ e in
            ap (λ b. cond b c (get (table_at ts n) q)) (other_place place q k apart) ∙ ap (λ i. get (table_at ts i) q) (sym here) ∙ placed.placed m q e
        | false ↦ λ t. placed.placed m q e
      ] refl;
    }

    pub union-change : union (set ts n new) ≡ changed (union ts) k c
    union-change = same_map rank_total exact_ranks _ _ (λ q.
        get-union (set ts n new) placed-change q ∙ get-table (place q) q
        ∙ elim (eqb (place q) n) as (λ b. eqb (place q) n ≡ b → cond b (cond (eq_by_cmp nat_cmp q k) c (get (table_at ts n) q)) (get (table_at ts (place q)) q) ≡ cond (eq_by_cmp nat_cmp q k) c (get (table_at ts (place q)) q)) [
          | true ↦ λ t. ap (λ i. cond (eq_by_cmp nat_cmp q k) c (get (table_at ts i) q)) (sym (eqb-true (place q) n t))
          | false ↦ λ t. ap (λ b. cond b c (get (table_at ts (place q)) q)) (sym (other_place place q k (ap (eqb (place q)) (sym h.at) ∙ t)))
        ] refl
        ∙ ap (cond (eq_by_cmp nat_cmp q k) c) (sym (get-union ts placed q)) ∙ sym (get-changed rank_total exact_ranks (union ts) k c q))

  -- the same of a whole shelf
  pub shelf-change : (count : ℕ) (ts : List (ByRank X)) → IsShelf count place ts → (n : ℕ) (old new : ByRank X) (k : ℕ) (c : Option X) → IsChange place ts n old new k c → IsShelf count place (set ts n new)
  shelf-change count ts shelf n old new k c h = record { full = length-set ts n new ∙ shelf.full; fits = placed-change ts shelf.fits n old new k c h }

  pub placed_empty : (ts : List (ByRank X)) → AreEmpty ts → IsPlaced place ts
  placed_empty ts h = record { placed = λ n q f. ap (λ (t : ByRank X). get t q) (h.empty_at n) ∙ get-empty nat_cmp q }

  pub union_empty : (ts : List (ByRank X)) → AreEmpty ts → union ts ≡ map.empty
  union_empty ts h = same_map rank_total exact_ranks _ _ (λ q. get-union ts (placed_empty ts h) q ∙ ap (λ (t : ByRank X). get t q) (h.empty_at (place q)))

  -- what the table at a rank's place has
  pub get-at : (ts : List (ByRank X)) (count : ℕ) → IsShelf count place ts → (n q : ℕ) (t : ByRank X) → n ≡ place q → n < count → t ≡ get_or ts n t → get t q ≡ get (union ts) q
  get-at ts count shelf n q t at small here =
      ap (λ (x : ByRank X). get x q) (here ∙ get_or_default ts n t map.empty (subst (λ m. n < m) (sym shelf.full) small))
      ∙ ap (λ m. get (table_at ts m) q) at ∙ sym (get-union ts shelf.fits q)

  -- the table at a rank's place has the rows of that place
  pub table-at : (ts : List (ByRank X)) (count : ℕ) → IsShelf count place ts → (n q : ℕ) (t : ByRank X) → n ≡ place q → n < count → t ≡ get_or ts n t → t ≡ rows_at place (union ts) (place q)
  table-at ts count shelf n q t at small here =
      here ∙ get_or_default ts n t map.empty (subst (λ m. n < m) (sym shelf.full) small)
      ∙ ap (λ m. table_at ts m) at ∙ table-union ts shelf.fits (place q)

  -- a table in which the rank's row is replaced, or that is as it was
  module _ (ts : List (ByRank X)) (count : ℕ) (shelf : IsShelf count place ts) (n : ℕ) (old new : ByRank X) (k : ℕ) (x : X) (at : n ≡ place k) (small : n < count) (here : old ≡ get_or ts n old) where
    replaced : new ≡ map.insert old k x → IsChange place ts n old new k (Some x)
    replaced e = record { at = at; small = subst (λ m. n < m) (sym shelf.full) small; here = here; change = e }

    pub shelf-swapped : (b : Bool) → new ≡ cond b (map.insert old k x) old → IsShelf count place (set ts n new)
    shelf-swapped true e = shelf-change count ts shelf n old new k (Some x) (replaced e)
    shelf-swapped false e = subst (λ us. IsShelf count place us) (sym (set-same ts n old new here e)) shelf

    pub union-swapped : (b : Bool) → new ≡ cond b (map.insert old k x) old → union (set ts n new) ≡ cond b (map.insert (union ts) k x) (union ts)
    union-swapped true e = union-change ts shelf.fits n old new k (Some x) (replaced e)
    union-swapped false e = ap (λ us. union us) (set-same ts n old new here e)
