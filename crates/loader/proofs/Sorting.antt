-- Rows sorted by key, stably.
use Rattle.std.proofs.Common.{◌≡◌, Bool, true, false, ◌&&◌, ◌||◌, not, cond, List, [], ◌∷◌, Option, Some, inl, inr, refl, sym, ap, ◌∙◌}
use Rattle.std.proofs.lemmas.Bool.{cases_Bool}
use Rattle.std.proofs.lemmas.List.Sorted.{list_any-IsPermutation}
use Rattle.std.specs.FinMap.{empty, get, get-insert, insert, same_map}
use Rattle.std.specs.List.{filter, list_all, list_any}
use Rattle.std.specs.List.Sorted.{IsPermutation, IsStableByKey, ties}
use Rattle.std.specs.Ordering.{eq_by_cmp, is_eq, is_lt, ordering_reverse}
use Rattle.std.specs.declared.cmp.Ordering.{Ordering}
use Rattle.std.specs.declared.cmp.Ordering.TheVariants.{Less, Equal, Greater}
use Rattle.loader.specs.LateRows.{listed}
use Rattle.tpcc_rows.specs.Changing.{with_each}
use Rattle.tpcc_rows.specs.RowKinds.{fits}
use Rattle.tpcc_rows.specs.RowMap.{Rows, row_key_cmp}
use Rattle.tpcc_rows.specs.declared.key.RowKey.{RowKey}
use Rattle.tpcc_rows.specs.declared.row.Row.{Row}
use Rattle.tpcc_rows.specs.declared.row.Row.TheVariants as row
use Rattle.tpcc_rows.proofs.Keys.{exact_keys, row_key_cmp_total}

-- the row of the key's last entry
abbrev pub last_of : RowKey → List (RowKey × Row) → Option Row → Option Row
last_of q [] was = was
last_of q (e ∷ es) was = last_of q es (cond (eq_by_cmp row_key_cmp q e.0) (Some e.1) was)

pub get-last : (es : List (RowKey × Row)) (rows : Rows) (q : RowKey) → get (with_each es rows) q ≡ last_of q es (get rows q)
get-last [] rows q = refl
get-last (e ∷ es) rows q = get-last es (insert rows e.0 e.1) q ∙ ap (last_of q es) (get-insert row_key_cmp_total rows e.0 e.1 q)

-- whether two entries tie
abbrev same_key : RowKey × Row → RowKey × Row → Bool
same_key = ties (λ x y. is_lt (row_key_cmp x.0 y.0))

tie-equal : (o p : Ordering) → p ≡ ordering_reverse o → (not (is_lt o) && not (is_lt p)) ≡ is_eq o
tie-equal Less p h = refl
tie-equal Equal p h = ap (λ x. not (is_lt x)) h
tie-equal Greater p h = ap (λ x. not (is_lt x)) h

same-equal : (x e : RowKey × Row) → same_key x e ≡ eq_by_cmp row_key_cmp x.0 e.0
same-equal x e = tie-equal (row_key_cmp x.0 e.0) (row_key_cmp e.0 x.0) (row_key_cmp_total.antisymm e.0 x.0)

-- entries of other keys don't change it
last-filter : (x : RowKey × Row) (es : List (RowKey × Row)) (was : Option Row) → last_of x.0 (filter (same_key x) es) was ≡ last_of x.0 es was
last-filter x [] was = refl
last-filter x (e ∷ es) was =
    let rest = filter (same_key x) es in
    elim (cases_Bool (eq_by_cmp row_key_cmp x.0 e.0)) [
      | inl same ↦
          ap (λ b. last_of x.0 (cond b (e ∷ rest) rest) was) (same-equal x e ∙ same)
          ∙ last-filter x es (cond (eq_by_cmp row_key_cmp x.0 e.0) (Some e.1) was)
      | inr other ↦
          ap (λ b. last_of x.0 (cond b (e ∷ rest) rest) was) (same-equal x e ∙ other) ∙ last-filter x es was
          ∙ ap (λ b. last_of x.0 es (cond b (Some e.1) was)) (sym other)
    ]

pub listed-sorted : (old new : List (RowKey × Row)) → IsStableByKey (λ (e : RowKey × Row). e.0) row_key_cmp old new → listed new ≡ listed old
listed-sorted old new stable = same_map row_key_cmp_total exact_keys _ _ (λ q.
    let x : RowKey × Row = (q, row.NewOrder) in
    let none : Rows = empty in
    get-last new none q ∙ sym (last-filter x new (get none q)) ∙ ap (λ (es : List (RowKey × Row)). last_of q es (get none q)) (stable x)
    ∙ last-filter x old (get none q) ∙ sym (get-last old none q))

-- each row is of its key's kind, in any order
apart : (b x y : Bool) → x ≡ not y → (b && x) ≡ not (not b || y)
apart true x y h = h
apart false x y h = refl

all-any : (es : List (RowKey × Row)) → list_all (λ row. fits row.0 row.1) es ≡ not (list_any (λ row. not (fits row.0 row.1)) es)
all-any [] = refl
all-any (e ∷ es) = apart (fits e.0 e.1) _ _ (all-any es)

pub fits-sorted : (old new : List (RowKey × Row)) → IsPermutation old new → list_all (λ row. fits row.0 row.1) old ≡ true → list_all (λ row. fits row.0 row.1) new ≡ true
fits-sorted old new moved all =
    all-any new ∙ ap not (sym (list_any-IsPermutation (λ (row : RowKey × Row). not (fits row.0 row.1)) old new moved)) ∙ sym (all-any old) ∙ all
