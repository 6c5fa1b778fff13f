-- The rows of a leaf are those of the ranks that are listed for it.
use Rattle.std.proofs.Common.{◌≡◌, ◌&&◌, ℕ, Bool, T, true, false, cond, eqb, is_some, List, [], ◌∷◌, Option, Some, None, inl, inr, refl, sym, ap, subst, ◌∙◌}
use Rattle.std.proofs.lemmas.Bool.{cases_Bool}
use Rattle.std.specs.Option.{option_map, option_and_then}
use Rattle.std.specs.FinMap.{entries, entries_sorted, find, get, get-entries, is_sorted}
use Rattle.std.specs.FinMap.Entries.{below_all, same_entries}
use Rattle.std.specs.Prelude.{⊤, map as each}
use Rattle.std.specs.Ordering.{eq_by_cmp, is_lt, nat_cmp}
use Rattle.tpcc_rows.specs.Leaves.{leaf, page_rows}
use Rattle.tpcc_rows.specs.Ranks.{IsNumbered, rank}
use Rattle.tpcc_rows.specs.RowMap.{Rows, row_key_cmp}
use Rattle.tpcc_rows.specs.declared.key.RowKey.{RowKey}
use Rattle.tpcc_rows.specs.declared.row.Row.{Row}
use Rattle.tpcc_rows.proofs.Keys.{row_key_cmp_total, exact_keys}
use Rattle.tpcc_rows.proofs.Singles.{first, found_later, second, tied, ties_itself}
use Rattle.tables.specs.ByRank.{ByRank}
use Rattle.tables.specs.Keys.{key_at, key_of}
use Rattle.tables.specs.Leaves.{leaf_of}
use Rattle.tables.specs.Shelves.{rows_at}
use Rattle.tables.proofs.RankKeys.{key_at-rank, key_of-rank}
use Rattle.tables.proofs.Shelved.{get-rows_at}
use Rattle.tables.proofs.Tables.{rank_total, exact_ranks}
use Rattle.row_tables.specs.Stored.{IsRank}
use Rattle.row_tables.proofs.Counting.{same-order}
use Rattle.row_tables.proofs.Keyed.{rank-back, rank-key, same_key}
use Rattle.rollback.proofs.Paging.{get-page_rows}
use Rattle.row_store.specs.Leaves.{AreListed}
use Rattle.row_store.specs.Slots.{filled, slot}

-- ---- ranks of keys
abbrev AreRanks : List (ℕ × ⊤) → Type 0
AreRanks [] = ⊤
AreRanks (e ∷ es) = IsRank e.0 × AreRanks es

ranks-found : (es : List (ℕ × ⊤)) → T (is_sorted nat_cmp es) → ((r : ℕ) (x : ⊤) → find nat_cmp r es ≡ Some x → IsRank r) → AreRanks es
ranks-found [] s h = tt
ranks-found (e ∷ es) s h =
    let here : find nat_cmp e.0 (e ∷ es) ≡ Some e.1 = ap (λ b. cond b (Some e.1) (find nat_cmp e.0 es)) (ties_itself rank_total exact_ranks e.0) in
    (h e.0 e.1 here, ranks-found es (second (below_all nat_cmp e.0 es) (is_sorted nat_cmp es) s) (λ r x there. h r x (found_later rank_total exact_ranks e es r x s there)))

same_rank : (q r : ℕ) → eq_by_cmp nat_cmp q r ≡ true → q ≡ r
same_rank q r t = exact_ranks q r (tied _ t)

nothing-either : {A : Type 0} (b : Bool) → ◌≡◌ {A = Option A} None (cond b None None)
nothing-either true = refl
nothing-either false = refl

-- ---- what is filled
module _ (rows : Rows) where
  abbrev rows_in : List (ℕ × ⊤) → List (RowKey × Row)
  rows_in es = filled (each (slot rows) es)

  slot-of : (e : ℕ × ⊤) → IsRank e.0 → slot rows e ≡ option_map (λ x. (key_of e.0, x)) (get rows (key_of e.0))
  slot-of e h =
      ap (λ o. option_and_then (λ k. option_map (λ x. (k, x)) (get rows k)) o) (ap (λ r. key_at r) (sym h.ranked) ∙ key_at-rank h.key h.numbered)
      ∙ ap (λ (k : RowKey). option_map (λ x. (k, x)) (get rows k)) (sym (rank-key e.0 h))

  -- the first slot, empty or filled
  abbrev more : Option (RowKey × Row) → List (RowKey × Row) → List (RowKey × Row)
  more None es = es
  more (Some e) es = e ∷ es

  rows-first : (e : ℕ × ⊤) (es : List (ℕ × ⊤)) → rows_in (e ∷ es) ≡ more (slot rows e) (rows_in es)
  rows-first e es = by (slot rows e) refl
    where
      by : (o : Option (RowKey × Row)) → slot rows e ≡ o → rows_in (e ∷ es) ≡ more (slot rows e) (rows_in es)
      by None is = rw is refl
      by (Some x) is = rw is refl

  rows-none : (e : ℕ × ⊤) (es : List (ℕ × ⊤)) → IsRank e.0 → get rows (key_of e.0) ≡ None → rows_in (e ∷ es) ≡ rows_in es
  rows-none e es h none = rows-first e es ∙ ap (λ o. more o (rows_in es)) (slot-of e h ∙ ap (option_map (λ x. (key_of e.0, x))) none)

  rows-some : (e : ℕ × ⊤) (es : List (ℕ × ⊤)) (x : Row) → IsRank e.0 → get rows (key_of e.0) ≡ Some x → rows_in (e ∷ es) ≡ (key_of e.0, x) ∷ rows_in es
  rows-some e es x h some = rows-first e es ∙ ap (λ o. more o (rows_in es)) (slot-of e h ∙ ap (option_map (λ x. (key_of e.0, x))) some)

  both : (a b : Bool) → T a → T b → T (a && b)
  both true b p q = q
  both false b p q = absurd p

  -- ---- in order
  below : (r : ℕ) → IsRank r → (es : List (ℕ × ⊤)) → AreRanks es → T (below_all nat_cmp r es) → T (below_all row_key_cmp (key_of r) (rows_in es))
  below r h [] hs b = tt
  below r h (e ∷ es) hs b = by (get rows (key_of e.0)) refl (below r h es hs.1 (second (is_lt (nat_cmp r e.0)) (below_all nat_cmp r es) b))
    where
      by : (o : Option Row) → get rows (key_of e.0) ≡ o → T (below_all row_key_cmp (key_of r) (rows_in es)) → T (below_all row_key_cmp (key_of r) (rows_in (e ∷ es)))
      by None is rest = subst (λ (fs : List (RowKey × Row)). T (below_all row_key_cmp (key_of r) fs)) (sym (rows-none e es hs.0 is)) rest
      by (Some x) is rest = subst (λ (fs : List (RowKey × Row)). T (below_all row_key_cmp (key_of r) fs)) (sym (rows-some e es x hs.0 is))
          (both (is_lt (row_key_cmp (key_of r) (key_of e.0))) _ (subst (λ o. T (is_lt o)) (sym (same-order r e.0 h hs.0)) (first (is_lt (nat_cmp r e.0)) (below_all nat_cmp r es) b)) rest)

  in-order : (es : List (ℕ × ⊤)) → AreRanks es → T (is_sorted nat_cmp es) → T (is_sorted row_key_cmp (rows_in es))
  in-order [] hs s = tt
  in-order (e ∷ es) hs s = by (get rows (key_of e.0)) refl (in-order es hs.1 (second (below_all nat_cmp e.0 es) (is_sorted nat_cmp es) s))
    where
      by : (o : Option Row) → get rows (key_of e.0) ≡ o → T (is_sorted row_key_cmp (rows_in es)) → T (is_sorted row_key_cmp (rows_in (e ∷ es)))
      by None is rest = subst (λ (fs : List (RowKey × Row)). T (is_sorted row_key_cmp fs)) (sym (rows-none e es hs.0 is)) rest
      by (Some x) is rest = subst (λ (fs : List (RowKey × Row)). T (is_sorted row_key_cmp fs)) (sym (rows-some e es x hs.0 is))
          (both (below_all row_key_cmp (key_of e.0) (rows_in es)) _ (below e.0 hs.0 es hs.1 (first (below_all nat_cmp e.0 es) (is_sorted nat_cmp es) s)) rest)

  -- ---- what is found
  -- past a first slot of another key
  further : (e : ℕ × ⊤) (es : List (ℕ × ⊤)) → IsRank e.0 → (q : RowKey) → eq_by_cmp row_key_cmp q (key_of e.0) ≡ false → find row_key_cmp q (rows_in (e ∷ es)) ≡ find row_key_cmp q (rows_in es)
  further e es h q apart = by (get rows (key_of e.0)) refl
    where
      by : (o : Option Row) → get rows (key_of e.0) ≡ o → find row_key_cmp q (rows_in (e ∷ es)) ≡ find row_key_cmp q (rows_in es)
      by None is = ap (find row_key_cmp q) (rows-none e es h is)
      by (Some x) is = ap (find row_key_cmp q) (rows-some e es x h is) ∙ ap (λ b. cond b (Some x) (find row_key_cmp q (rows_in es))) apart

  none-found : (es : List (ℕ × ⊤)) → AreRanks es → (q : RowKey) → get rows q ≡ None → find row_key_cmp q (rows_in es) ≡ None
  none-found [] hs q none = refl
  none-found (e ∷ es) hs q none = elim (cases_Bool (eq_by_cmp row_key_cmp q (key_of e.0))) [
    | inl same ↦ ap (find row_key_cmp q) (rows-none e es hs.0 (ap (get rows) (sym (same_key q (key_of e.0) same)) ∙ none)) ∙ none-found es hs.1 q none
    | inr apart ↦ further e es hs.0 q apart ∙ none-found es hs.1 q none
  ]

  -- at the slot of the key
  here : (e : ℕ × ⊤) (es : List (ℕ × ⊤)) → AreRanks (e ∷ es) → (q : RowKey) → q ≡ key_of e.0 → find row_key_cmp q (rows_in (e ∷ es)) ≡ get rows q
  here e es hs q is = by (get rows q) refl
    where
      by : (o : Option Row) → get rows q ≡ o → find row_key_cmp q (rows_in (e ∷ es)) ≡ o
      by None row = none-found (e ∷ es) hs q row
      by (Some x) row =
          ap (find row_key_cmp q) (rows-some e es x hs.0 (ap (get rows) (sym is) ∙ row))
          ∙ ap (λ b. cond b (Some x) (find row_key_cmp q (rows_in es))) (ap (λ k. eq_by_cmp row_key_cmp q k) (sym is) ∙ ties_itself row_key_cmp_total exact_keys q)

  other : (e : ℕ × ⊤) (q : RowKey) → IsNumbered q → eq_by_cmp row_key_cmp q (key_of e.0) ≡ false → eq_by_cmp nat_cmp (rank q) e.0 ≡ false
  other e q numbered apart = elim (cases_Bool (eq_by_cmp nat_cmp (rank q) e.0)) [
    | inl ties ↦
        (let one : q ≡ key_of e.0 = sym (key_of-rank q numbered) ∙ ap (λ r. key_of r) (same_rank (rank q) e.0 ties) in
        let no : true ≡ false = sym (ap (λ k. eq_by_cmp row_key_cmp q k) (sym one) ∙ ties_itself row_key_cmp_total exact_keys q) ∙ apart in cc)
    | inr so ↦ so
  ]

  found : (es : List (ℕ × ⊤)) → AreRanks es → (q : RowKey) → IsNumbered q → find row_key_cmp q (rows_in es) ≡ cond (is_some (find nat_cmp (rank q) es)) (get rows q) None
  found [] hs q numbered = refl
  found (e ∷ es) hs q numbered = elim (cases_Bool (eq_by_cmp row_key_cmp q (key_of e.0))) [
    | inl same ↦
        (let is : q ≡ key_of e.0 = same_key q (key_of e.0) same in
        let ranked : rank q ≡ e.0 = ap rank is ∙ rank-back e.0 hs.0 in
        let ties : eq_by_cmp nat_cmp (rank q) e.0 ≡ true = ap (λ r. eq_by_cmp nat_cmp r e.0) ranked ∙ ties_itself rank_total exact_ranks e.0 in
        here e es hs q is ∙ sym (ap (λ b. cond (is_some (cond b (Some e.1) (find nat_cmp (rank q) es))) (get rows q) None) ties))
    | inr apart ↦
        further e es hs.0 q apart ∙ found es hs.1 q numbered
        ∙ sym (ap (λ b. cond (is_some (cond b (Some e.1) (find nat_cmp (rank q) es))) (get rows q) None) (other e q numbered apart))
  ]

-- ---- the ranks of a leaf
module _ (ranks : ByRank ⊤) (keys : (r : ℕ) → is_some (get ranks r) ≡ true → IsRank r) (rows : Rows) (listed : AreListed ranks rows) (n : ℕ) where
  abbrev of_leaf : List (ℕ × ⊤)
  of_leaf = entries (rows_at leaf_of ranks n)

  only-leaf : (r : ℕ) → find nat_cmp r of_leaf ≡ cond (eqb (leaf_of r) n) (get ranks r) None
  only-leaf r = sym (get-entries (rows_at leaf_of ranks n) r) ∙ get-rows_at leaf_of ranks n r

  are-ranks : AreRanks of_leaf
  are-ranks = ranks-found of_leaf (entries_sorted (rows_at leaf_of ranks n)) (λ r x there. by r (eqb (leaf_of r) n) (sym (only-leaf r) ∙ there))
    where
      by : (r : ℕ) {x : ⊤} (b : Bool) → cond b (get ranks r) None ≡ Some x → IsRank r
      by r true e = keys r (ap is_some e)
      by r false e = cc

  found-key : (q : RowKey) → find row_key_cmp q (filled (each (slot rows) of_leaf)) ≡ cond (eqb (leaf q) n) (get rows q) None
  found-key q = by (get rows q) refl
    where
      there : (b : Bool) (o : Option ⊤) → is_some o ≡ true → cond (is_some (cond b o None)) (get rows q) None ≡ cond b (get rows q) None
      there true o is = ap (λ c. cond c (get rows q) None) is
      there false o is = refl

      by : (o : Option Row) → get rows q ≡ o → find row_key_cmp q (filled (each (slot rows) of_leaf)) ≡ cond (eqb (leaf q) n) (get rows q) None
      by None none = none-found rows of_leaf are-ranks q none ∙ nothing-either (eqb (leaf q) n) ∙ sym (ap (λ o. cond (eqb (leaf q) n) o None) none)
      by (Some x) some =
          let is = listed.listed q (ap is_some some) in
          found rows of_leaf are-ranks q is.numbered
          ∙ ap (λ o. cond (is_some o) (get rows q) None) (only-leaf (rank q))
          ∙ ap (λ k. cond (is_some (cond (eqb (leaf k) n) (get ranks (rank q)) None)) (get rows q) None) (key_of-rank q is.numbered)
          ∙ there (eqb (leaf q) n) (get ranks (rank q)) is.there

  pub page-is : filled (each (slot rows) of_leaf) ≡ entries (page_rows rows n)
  page-is =
      sym (same_entries row_key_cmp row_key_cmp_total exact_keys _ _ (entries_sorted (page_rows rows n)) (in-order rows of_leaf are-ranks (entries_sorted (rows_at leaf_of ranks n)))
      (λ q. sym (get-entries (page_rows rows n) q) ∙ get-page_rows rows n q ∙ sym (found-key q)))
