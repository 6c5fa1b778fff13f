-- Late rows and the others.
use Rattle.std.proofs.Common.{◌≡◌, ◌&&◌, ◌||◌, Bool, true, false, T, cond, is_some, List, [], ◌∷◌, ◌++◌, Option, Some, None, inl, inr, refl, sym, ap, ◌∙◌}
use Rattle.std.proofs.lemmas.Bool.{cases_Bool}
use Rattle.std.proofs.lemmas.List.{reverse-append}
use Rattle.std.specs.FinMap as map
use Rattle.std.specs.FinMap.{entries, entries_sorted, find, get, get-empty, get-entries, get-from_entries, get-insert, insert, is_sorted, same_map}
use Rattle.std.specs.FinMap.Entries.{below_all}
use Rattle.std.specs.List.{list_all}
use Rattle.std.specs.Option.{option_or}
use Rattle.std.specs.Ordering.{eq_by_cmp}
use Rattle.std.specs.Prelude.{reverse}
use Rattle.loader.specs.LateRows.{AreApart, listed, over}
use Rattle.loader.proofs.Sorting.{get-last, last_of}
use Rattle.tpcc_rows.specs.Changing.{AreRows, with_each}
use Rattle.tpcc_rows.specs.RowKinds.{fits}
use Rattle.tpcc_rows.specs.RowMap.{Rows, row_key_cmp}
use Rattle.tpcc_rows.specs.declared.key.RowKey.{RowKey}
use Rattle.tpcc_rows.specs.declared.row.Row.{Row}
use Rattle.tpcc_rows.proofs.Keys.{exact_keys, row_key_cmp_total}
use Rattle.tpcc_rows.proofs.Singles as single
use Rattle.tpcc_rows.proofs.Singles.{and-left, and-right, first, not_found, second, tied}

-- ---- what a key has
find-either : (es fs : List (RowKey × Row)) (q : RowKey) → find row_key_cmp q (es ++ fs) ≡ option_or (find row_key_cmp q es) (find row_key_cmp q fs)
find-either [] fs q = refl
find-either (e ∷ es) fs q = by (eq_by_cmp row_key_cmp q e.0) (find-either es fs q)
  where
    by : (b : Bool) → find row_key_cmp q (es ++ fs) ≡ option_or (find row_key_cmp q es) (find row_key_cmp q fs)
        → cond b (Some e.1) (find row_key_cmp q (es ++ fs)) ≡ option_or (cond b (Some e.1) (find row_key_cmp q es)) (find row_key_cmp q fs)
    by true rest = refl
    by false rest = rest

get-over : (late rows : Rows) (q : RowKey) → get (over late rows) q ≡ option_or (get late q) (get rows q)
unfolding over
get-over late rows q =
    get-from_entries row_key_cmp_total (entries late ++ entries rows) q ∙ find-either (entries late) (entries rows) q
    ∙ ap (λ o. option_or o (find row_key_cmp q (entries rows))) (sym (get-entries late q)) ∙ ap (option_or (get late q)) (sym (get-entries rows q))

or-cond : (b : Bool) (x : Row) (o p : Option Row) → option_or (cond b (Some x) o) p ≡ cond b (Some x) (option_or o p)
or-cond true x o p = refl
or-cond false x o p = refl

or-none : (o : Option Row) → option_or o None ≡ o
or-none None = refl
or-none (Some x) = refl

some-either : (o p : Option Row) → is_some (option_or o p) ≡ (is_some o || is_some p)
some-either None p = refl
some-either (Some x) p = refl

has-either : (late rows : Rows) (q : RowKey) → is_some (get (over late rows) q) ≡ (is_some (get late q) || is_some (get rows q))
has-either late rows q = ap is_some (get-over late rows q) ∙ some-either (get late q) (get rows q)

-- a late row, a row that isn't late, and none
pub has-late : (late rows : Rows) (q : RowKey) → true ≡ is_some (get late q) → true ≡ is_some (get (over late rows) q)
has-late late rows q there = ap (λ b. b || is_some (get rows q)) there ∙ sym (has-either late rows q)

pub has-row : (late rows : Rows) (q : RowKey) → false ≡ is_some (get late q) → is_some (get rows q) ≡ is_some (get (over late rows) q)
has-row late rows q none = ap (λ b. b || is_some (get rows q)) none ∙ sym (has-either late rows q)

pub has-none : (late rows : Rows) (q : RowKey) → false ≡ is_some (get late q) → get rows q ≡ None → false ≡ is_some (get (over late rows) q)
has-none late rows q none absent = ap is_some (sym absent) ∙ has-row late rows q none

pub no-some : (o : Option Row) → is_some o ≡ false → o ≡ None
no-some None h = refl
no-some (Some x) h = cc

-- ---- no rows
pub over-empty : (late rows : Rows) → late ≡ map.empty → rows ≡ map.empty → over late rows ≡ map.empty
over-empty late rows none empty = same_map row_key_cmp_total exact_keys _ _ (λ q.
    get-over late rows q ∙ ap (λ (m : Rows). option_or (get m q) (get rows q)) none ∙ ap (λ o. option_or o (get rows q)) (get-empty row_key_cmp q)
    ∙ ap (λ (m : Rows). get m q) empty)

pub over-none : (late rows : Rows) → late ≡ map.empty → over late rows ≡ rows
over-none late rows none = same_map row_key_cmp_total exact_keys _ _ (λ q.
    get-over late rows q ∙ ap (λ (m : Rows). option_or (get m q) (get rows q)) none ∙ ap (λ o. option_or o (get rows q)) (get-empty row_key_cmp q))

pub apart-none : (late rows : Rows) → late ≡ map.empty → AreApart late rows
apart-none late rows none k there = (let wrong : false ≡ true = ap is_some (sym (ap (λ (m : Rows). get m k) none ∙ get-empty row_key_cmp k)) ∙ there in cc)

pub rows-none : (rows : Rows) → rows ≡ map.empty → AreRows rows
rows-none rows none k x there = (let wrong : None ≡ Some x = sym (ap (λ (m : Rows). get m k) none ∙ get-empty row_key_cmp k) ∙ there in cc)

-- ---- a row more
module _ (late rows : Rows) (k : RowKey) (x : Row) where
  pub over-late : over (insert late k x) rows ≡ insert (over late rows) k x
  over-late = same_map row_key_cmp_total exact_keys _ _ (λ q.
      get-over (insert late k x) rows q ∙ ap (λ o. option_or o (get rows q)) (get-insert row_key_cmp_total late k x q)
      ∙ or-cond (eq_by_cmp row_key_cmp q k) x (get late q) (get rows q)
      ∙ sym (get-insert row_key_cmp_total (over late rows) k x q ∙ ap (cond (eq_by_cmp row_key_cmp q k) (Some x)) (get-over late rows q)))

  under : (q : RowKey) → get late k ≡ None → option_or (get late q) (cond (eq_by_cmp row_key_cmp q k) (Some x) (get rows q)) ≡ cond (eq_by_cmp row_key_cmp q k) (Some x) (option_or (get late q) (get rows q))
  under q none = elim (cases_Bool (eq_by_cmp row_key_cmp q k)) [
    | inl same ↦
        let absent : get late q ≡ None = ap (get late) (exact_keys q k (tied _ same)) ∙ none in
        rw (same, absent) refl
    | inr other ↦ rw other refl
  ]

  pub over-rows : get late k ≡ None → over late (insert rows k x) ≡ insert (over late rows) k x
  over-rows none = same_map row_key_cmp_total exact_keys _ _ (λ q.
      get-over late (insert rows k x) q ∙ ap (option_or (get late q)) (get-insert row_key_cmp_total rows k x q) ∙ under q none
      ∙ sym (get-insert row_key_cmp_total (over late rows) k x q ∙ ap (cond (eq_by_cmp row_key_cmp q k) (Some x)) (get-over late rows q)))

  pub apart-late : AreApart late rows → get rows k ≡ None → AreApart (insert late k x) rows
  apart-late h none q there = elim (single.same_key row_key_cmp_total exact_keys q k) [
    | inl is ↦ ap (get rows) is ∙ none
    | inr other ↦ h q (ap is_some (sym (single.apart row_key_cmp_total exact_keys late k x q other)) ∙ there)
  ]

  pub apart-rows : AreApart late rows → get late k ≡ None → AreApart late (insert rows k x)
  apart-rows h none q there = elim (single.same_key row_key_cmp_total exact_keys q k) [
    | inl is ↦ (let wrong : false ≡ true = ap is_some (sym (ap (get late) is ∙ none)) ∙ there in cc)
    | inr other ↦ single.apart row_key_cmp_total exact_keys rows k x q other ∙ h q there
  ]

-- ---- the late rows and then the others, in one list
with_each-both : (es fs : List (RowKey × Row)) (rows : Rows) → with_each (es ++ fs) rows ≡ with_each fs (with_each es rows)
with_each-both [] fs rows = refl
with_each-both (e ∷ es) fs rows = with_each-both es fs (insert rows e.0 e.1)

last-sorted : (q : RowKey) (es : List (RowKey × Row)) (was : Option Row) → T (is_sorted row_key_cmp es) → last_of q es was ≡ option_or (find row_key_cmp q es) was
last-sorted q [] was s = refl
last-sorted q (e ∷ es) was s = elim (cases_Bool (eq_by_cmp row_key_cmp q e.0)) [
  | inl same ↦
      let is : q ≡ e.0 = exact_keys q e.0 (tied _ same) in
      let none : find row_key_cmp q es ≡ None = ap (λ k. find row_key_cmp k es) is ∙ not_found row_key_cmp_total exact_keys e.0 es (first (below_all row_key_cmp e.0 es) (is_sorted row_key_cmp es) s) in
      let rest = last-sorted q es (Some e.1) (second (below_all row_key_cmp e.0 es) (is_sorted row_key_cmp es) s) in
      ap (λ b. last_of q es (cond b (Some e.1) was)) same ∙ rest ∙ ap (λ o. option_or o (Some e.1)) none
      ∙ sym (ap (λ b. option_or (cond b (Some e.1) (find row_key_cmp q es)) was) same)
  | inr other ↦
      let rest = last-sorted q es was (second (below_all row_key_cmp e.0 es) (is_sorted row_key_cmp es) s) in
      ap (λ b. last_of q es (cond b (Some e.1) was)) other ∙ rest
      ∙ sym (ap (λ b. option_or (cond b (Some e.1) (find row_key_cmp q es)) was) other)
]

-- where no key has both, either may count
either-counts : (o p : Option Row) → (is_some o ≡ true → p ≡ None) → option_or p o ≡ option_or o p
either-counts None p h = or-none p
either-counts (Some x) p h = ap (λ z. option_or z (Some x)) (h refl)

module _ (late : List (RowKey × Row)) (rows : Rows) where
  pub joined-all : (all : List (RowKey × Row)) → all ≡ late ++ entries rows → AreApart (listed late) rows → listed all ≡ over (listed late) rows
  joined-all all is apart = ap listed is ∙ with_each-both late (entries rows) map.empty ∙ same_map row_key_cmp_total exact_keys _ _ (λ q.
      get-last (entries rows) (listed late) q ∙ last-sorted q (entries rows) (get (listed late) q) (entries_sorted rows)
      ∙ ap (λ o. option_or o (get (listed late) q)) (sym (get-entries rows q))
      ∙ either-counts (get (listed late) q) (get rows q) (apart q) ∙ sym (get-over (listed late) rows q))

all-both : (es fs : List (RowKey × Row)) → list_all (λ row. fits row.0 row.1) es ≡ true → list_all (λ row. fits row.0 row.1) fs ≡ true → list_all (λ row. fits row.0 row.1) (es ++ fs) ≡ true
all-both [] fs all fit = fit
all-both (e ∷ es) fs all fit = rw (and-left (fits e.0 e.1) _ all, all-both es fs (and-right (fits e.0 e.1) _ all) fit) refl

pub joined-fit : (late all : List (RowKey × Row)) (rows : Rows) → all ≡ late ++ entries rows → list_all (λ row. fits row.0 row.1) late ≡ true → AreRows rows → list_all (λ row. fits row.0 row.1) all ≡ true
joined-fit late all rows is fit are =
    ap (list_all (λ row. fits row.0 row.1)) is
    ∙ all-both late (entries rows) fit (single.all-pass row_key_cmp_total exact_keys (λ row. fits row.0 row.1) rows are)

-- ---- rows of a list put one after the other
-- what is still to come, and what has been put
pub record IsPutting (all left : List (RowKey × Row)) (rows : Rows) : Type 0 where
  pub whole : with_each left rows ≡ listed all
  pub fit : list_all (λ row. fits row.0 row.1) left ≡ true

pub put-none : (all : List (RowKey × Row)) (rows : Rows) → list_all (λ row. fits row.0 row.1) all ≡ true → rows ≡ map.empty → IsPutting all all rows
put-none all rows fit empty = record { whole = ap (with_each all) empty; fit = fit }

module _ (all old left : List (RowKey × Row)) (k : RowKey) (x : Row) (steps : old ≡ (k, x) ∷ left) (rows : Rows) (h : IsPutting all old rows) where
  fit-all : (fits k x && list_all (λ row. fits row.0 row.1) left) ≡ true
  fit-all = ap (list_all (λ row. fits row.0 row.1)) (sym steps) ∙ h.fit

  pub fits-next : fits k x ≡ true
  fits-next = and-left (fits k x) (list_all (λ row. fits row.0 row.1) left) fit-all

  pub put-more : (next : Rows) → next ≡ insert rows k x → IsPutting all left next
  put-more next put = record {
    whole = ap (with_each left) put ∙ ap (λ es. with_each es rows) (sym steps) ∙ h.whole;
    fit = and-right (fits k x) (list_all (λ row. fits row.0 row.1) left) fit-all;
  }

-- the last of a list is the first of the reversed one
pub last_first : (old new : List (RowKey × Row)) (k : RowKey) (x : Row) → old ≡ new ++ (k, x) ∷ [] → reverse old ≡ (k, x) ∷ reverse new
last_first old new k x e = ap reverse e ∙ reverse-append new ((k, x) ∷ [])
