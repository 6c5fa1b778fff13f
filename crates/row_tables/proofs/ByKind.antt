-- The maps of all kinds as one, and what a change of one of them does to it.
use Rattle.std.proofs.Common.{◌≡◌, ◌<◌, ℕ, zero, suc, Bool, true, false, cond, eqb, T, map as each, List, ◌∷◌, length, get_or, set, Option, Some, None, is_some, unwrap_or, Result, refl, sym, ap, subst, ◌∙◌}
use Rattle.std.specs.Prelude.{⊤, option_map}
use Rattle.std.specs.FinMap as map
use Rattle.std.specs.FinMap.{entries, entries_sorted, get, get-empty, get-entries, get-from_entries, insert, same_map}
use Rattle.std.specs.FinMap.Entries.{same_entries}
use Rattle.std.specs.Ordering.{eq_by_cmp, nat_cmp}
use Rattle.std.specs.Result.{OnOk, OnErr}
use Rattle.std.proofs.lemmas.List.{get_or_default}
use Rattle.std.proofs.lemmas.Result.{on_ok_weaker, on_err_weaker}
use Rattle.serializability.specs.Changes.{changed}
use Rattle.serializability.proofs.Changes.{get-changed}
use Rattle.tpcc_rows.specs.declared.row.Row.{Row}
use Rattle.tpcc_rows.specs.declared.row.WarehouseRow.{WarehouseRow}
use Rattle.tpcc_rows.specs.declared.row.DistrictYtdRow.{DistrictYtdRow}
use Rattle.tpcc_rows.specs.declared.row.DistrictNextRow.{DistrictNextRow}
use Rattle.tpcc_rows.specs.declared.row.CustomerRow.{CustomerRow}
use Rattle.tpcc_rows.specs.declared.row.HistoryRow.{HistoryRow}
use Rattle.tpcc_rows.specs.declared.row.StockRow.{StockRow}
use Rattle.tpcc_rows.specs.declared.row.OrderRow.{OrderRow}
use Rattle.tpcc_rows.specs.declared.row.OrderLineRow.{OrderLineRow}
use Rattle.tables.specs.ByRank.{ByRank}
use Rattle.tables.specs.Shelves.{rows_at, table_at, union}
use Rattle.tables.proofs.Each.{find-each, sorted-each}
use Rattle.tables.proofs.Shelved.{AreEmpty, IsChange, either, get-rows_at, get-union, placed-change, set-same, table-union, union-change}
use Rattle.tables.proofs.Tables.{rank_total, exact_ranks}
use Rattle.row_tables.specs.RankRows.{RankRows}
use Rattle.row_tables.specs.Kinds.{AreByKind, kinds, table_of, typed}

-- one map more without rows
empty-more : (m : RankRows) (ms : List RankRows) → m ≡ map.empty → AreEmpty ms → AreEmpty (m ∷ ms)
empty-more m ms e h = record { empty_at = at }
  where
    at : (n : ℕ) → table_at (m ∷ ms) n ≡ map.empty
    at zero = e
    at (suc n) = h.empty_at n

module _ {X : Type 0} (make : X → Row) where
  -- ---- the rows of one kind as rows of any
  pub get-typed : (t : ByRank X) (r : ℕ) → get (typed make t) r ≡ option_map make (get t r)
  unfolding typed
  get-typed t r = get-from_entries rank_total _ r ∙ find-each make (entries t) r ∙ ap (option_map make) (sym (get-entries t r))

  -- the same entries in the same order
  pub entries-typed : (t : ByRank X) → entries (typed make t) ≡ each (λ e. (e.0, make e.1)) (entries t)
  entries-typed t = same_entries nat_cmp rank_total exact_ranks _ _ (entries_sorted (typed make t)) (subst T (sym (sorted-each make (entries t))) (entries_sorted t))
      (λ q. sym (get-entries (typed make t) q) ∙ get-typed t q ∙ ap (option_map make) (get-entries t q) ∙ sym (find-each make (entries t) q))

  map-cond : (b : Bool) (c o : Option X) → option_map make (cond b c o) ≡ cond b (option_map make c) (option_map make o)
  map-cond true c o = refl
  map-cond false c o = refl

  typed-changed : (t : ByRank X) (k : ℕ) (c : Option X) → typed make (changed t k c) ≡ changed (typed make t) k (option_map make c)
  typed-changed t k c = same_map rank_total exact_ranks _ _ (λ q.
      get-typed (changed t k c) q ∙ ap (option_map make) (get-changed rank_total exact_ranks t k c q) ∙ map-cond (eq_by_cmp nat_cmp q k) c (get t q)
      ∙ ap (cond (eq_by_cmp nat_cmp q k) (option_map make c)) (sym (get-typed t q))
      ∙ sym (get-changed rank_total exact_ranks (typed make t) k (option_map make c) q))

  pub typed-empty : (t : ByRank X) → t ≡ map.empty → typed make t ≡ map.empty
  typed-empty t e = same_map rank_total exact_ranks _ _ (λ q.
      get-typed t q ∙ ap (λ (m : ByRank X). option_map make (get m q)) e ∙ ap (option_map make) (get-empty nat_cmp q) ∙ sym (get-empty nat_cmp q))

  rows-typed : (place : ℕ → ℕ) (t : ByRank X) (n : ℕ) → typed make (rows_at place t n) ≡ rows_at place (typed make t) n
  rows-typed place t n = same_map rank_total exact_ranks _ _ (λ q.
      get-typed (rows_at place t n) q ∙ ap (option_map make) (get-rows_at place t n q) ∙ map-cond (eqb (place q) n) (get t q) None
      ∙ ap (λ o. cond (eqb (place q) n) o None) (sym (get-typed t q)) ∙ sym (get-rows_at place (typed make t) n q))

  some-mapped : (o : Option X) → is_some (option_map make o) ≡ is_some o
  some-mapped None = refl
  some-mapped (Some x) = refl

  row-mapped : (o : Option X) (x : X) → unwrap_or (option_map make o) (make x) ≡ make (unwrap_or o x)
  row-mapped None x = refl
  row-mapped (Some y) x = refl

  -- the rows of kind n at a place, with their ranks
  pub entries-at : (maps : List RankRows) → AreByKind maps → (n : ℕ) → n < length maps → (t : ByRank X) → typed make t ≡ get_or maps n (typed make t) → (place : ℕ → ℕ) (p : ℕ)
      → each (λ e. (e.0, make e.1)) (entries (rows_at place t p)) ≡ entries (rows_at place (rows_at table_of (union maps) n) p)
  entries-at maps h n small t here place p =
      sym (entries-typed (rows_at place t p))
      ∙ ap (λ (m : RankRows). entries m) (rows-typed place t p ∙ ap (λ (m : RankRows). rows_at place m p) (here ∙ get_or_default maps n (typed make t) map.empty small ∙ table-union table_of maps h n))

  -- ---- the map of kind n
  module _ (maps : List RankRows) (h : AreByKind maps) (n k : ℕ) (is : table_of k ≡ n) (small : n < length maps) (t : ByRank X) (here : typed make t ≡ get_or maps n (typed make t)) where
    -- what the rank has there, it has among the rows of all kinds
    pub get-kind : option_map make (get t k) ≡ get (union maps) k
    get-kind =
        sym (get-typed t k)
        ∙ ap (λ (m : RankRows). get m k) (here ∙ get_or_default maps n (typed make t) map.empty small ∙ ap (λ i. table_at maps i) (sym is))
        ∙ sym (get-union table_of maps h k)

    module _ (after : ByRank X) (c : Option X) (e : after ≡ changed t k c) where
      change : IsChange table_of maps n (typed make t) (typed make after) k (option_map make c)
      change = record { at = sym is; small = small; here = here; change = ap (λ m. typed make m) e ∙ typed-changed t k c }

      pub kinds-changed : AreByKind (set maps n (typed make after))
      kinds-changed = placed-change table_of maps h n (typed make t) (typed make after) k (option_map make c) change

      pub union-changed : union (set maps n (typed make after)) ≡ changed (union maps) k (option_map make c)
      union-changed = union-change table_of maps h n (typed make t) (typed make after) k (option_map make c) change

    kept : (after : ByRank X) → after ≡ t → set maps n (typed make after) ≡ maps
    kept after e = set-same maps n (typed make t) (typed make after) here (ap (λ m. typed make m) e)

    -- a row put there, unless memory was refused
    module _ {A E : Type 0} (done : Result A E) (after : ByRank X) (x : X) (ok : OnOk done (after ≡ insert t k x)) (err : OnErr done (after ≡ t)) where
      pub kinds-tried : AreByKind (set maps n (typed make after))
      kinds-tried = either done
          (on_ok_weaker done (λ e. kinds-changed after (Some x) e) ok)
          (on_err_weaker done (λ e. subst (λ ms. AreByKind ms) (sym (kept after e)) h) err)

      pub union-tried : (m : RankRows) → union maps ≡ m → OnOk done (union (set maps n (typed make after)) ≡ insert m k (make x))
      union-tried m is_m = on_ok_weaker done (λ e. union-changed after (Some x) e ∙ ap (λ a. insert a k (make x)) is_m) ok

      pub union-refused : (m : RankRows) → union maps ≡ m → OnErr done (union (set maps n (typed make after)) ≡ m)
      union-refused m is_m = on_err_weaker done (λ e. ap (λ ms. union ms) (kept after e) ∙ is_m) err

    -- a row exchanged there, if the rank has one
    module _ (after : ByRank X) (x : X) (b : Bool) where
      pub kinds-swapped : after ≡ cond b (insert t k x) t → AreByKind (set maps n (typed make after))
      kinds-swapped e = by b e
        where
          by : (d : Bool) → after ≡ cond d (insert t k x) t → AreByKind (set maps n (typed make after))
          by true f = kinds-changed after (Some x) f
          by false f = subst (λ ms. AreByKind ms) (sym (kept after f)) h

      pub union-swapped : after ≡ cond b (insert t k x) t → union (set maps n (typed make after)) ≡ cond b (insert (union maps) k (make x)) (union maps)
      union-swapped e = by b e
        where
          by : (d : Bool) → after ≡ cond d (insert t k x) t → union (set maps n (typed make after)) ≡ cond d (insert (union maps) k (make x)) (union maps)
          by true f = union-changed after (Some x) f
          by false f = ap (λ ms. union ms) (kept after f)

    pub found-kind : is_some (get t k) ≡ is_some (get (union maps) k)
    found-kind = sym (some-mapped (get t k)) ∙ ap is_some get-kind

    pub row-kind : (x : X) → make (unwrap_or (get t k) x) ≡ unwrap_or (get (union maps) k) (make x)
    row-kind x = sym (row-mapped (get t k) x) ∙ ap (λ o. unwrap_or o (make x)) get-kind

-- ---- no rows
module _ (warehouses : ByRank WarehouseRow) (customers : ByRank CustomerRow) (stocks : ByRank StockRow) (orders : ByRank OrderRow) (new_orders : ByRank ⊤) (lines : ByRank OrderLineRow)
    (history : ByRank HistoryRow) (ytds : ByRank DistrictYtdRow) (nexts : ByRank DistrictNextRow) where
  pub kinds-empty : warehouses ≡ map.empty → customers ≡ map.empty → stocks ≡ map.empty → orders ≡ map.empty → new_orders ≡ map.empty → lines ≡ map.empty
      → history ≡ map.empty → ytds ≡ map.empty → nexts ≡ map.empty → AreEmpty (kinds warehouses customers stocks orders new_orders lines history ytds nexts)
  kinds-empty w c s o n l h y x =
      empty-more _ _ (typed-empty _ warehouses w) (empty-more _ _ (typed-empty _ customers c) (empty-more _ _ (typed-empty _ stocks s)
      (empty-more _ _ (typed-empty _ orders o) (empty-more _ _ (typed-empty _ new_orders n) (empty-more _ _ (typed-empty _ lines l)
      (empty-more _ _ (typed-empty _ history h) (empty-more _ _ (typed-empty _ ytds y) (empty-more _ _ (typed-empty _ nexts x) (record { empty_at = λ n. refl })))))))))
