-- The keys of rows with records of their own, gathered leaf by leaf, and those records.
use Rattle.std.proofs.Common.{◌≡◌, ◌∙◌, inl, inr, ℕ, ◌+◌, ◌<◌, List, [], ◌∷◌, cond, T, Bool, true, false, ◌&&◌, ◌||◌, eqb, ltb, Option, Some, None, drop, get_or, length, refl, sym, ap, arith}
use Rattle.std.specs.Prelude.{filter_map, is_some}
use Rattle.std.specs.BTreeMap.{is_at}
use Rattle.std.specs.BTreeSet.{BTreeSet, contains}
use Rattle.std.specs.Cmp.{eq_by_cmp_equiv}
use Rattle.std.specs.FinMap.{entries, entries_sorted, find, get, get-entries, is_sorted}
use Rattle.std.specs.FinMap.Entries.{below_all, find-where_key, is_sorted-where_key, same_entries, where_key}
use Rattle.std.specs.List.{AllByRecursion, cons_option, list_any}
use Rattle.std.specs.List.Sorted.{IsStrictlySortedBy}
use Rattle.std.specs.Option.{option_and_then, option_map}
use Rattle.std.specs.Ordering.{eq_by_cmp, is_lt}
use Rattle.std.specs.declared.cmp.Ordering.TheVariants.{Less}
use Rattle.std.proofs.lemmas.Bool.{cases_Bool, cases_eq, cases_lt, eq-eqb, le-ltb, lt-ltb, ne_eqb}
use Rattle.std.proofs.lemmas.List.{at_drop_more}
use Rattle.std.proofs.lemmas.Map.Keys.{sorted_head, sorted_tail}
use Rattle.tpcc_rows.specs.declared.key.RowKey.{RowKey}
use Rattle.tpcc_rows.specs.declared.key.RowKey.TheVariants as key
use Rattle.tpcc_rows.specs.declared.row.Row.{Row}
use Rattle.tpcc_rows.specs.Leaves.{leaf, page_rows}
use Rattle.tpcc_rows.specs.RowMap.{Rows, row_key_cmp}
use Rattle.tpcc_rows.proofs.Keys.{exact_keys, row_key_cmp_total}
use Rattle.tpcc_rows.proofs.LeafPicks.{leaf-small}
use Rattle.tpcc_rows.proofs.Singles.{tied}
use Rattle.rollback.proofs.Paging.{get-page_rows}
use Rattle.row_store.specs.Slots.{filled}
use Rattle.stored_image.specs.StoredImage.{HasAlsoAlone, row_said, rows_said, said_at, stands_alone}
use Rattle.stored_image.specs.declared.stored_record.RowPart.{RowPart}
use Rattle.stored_image.specs.declared.stored_record.RowPart.TheVariants as row_part
use Rattle.image_records.specs.Databases.{has_row}
use Rattle.image_records.specs.declared.image_record.ImageRecord.{ImageRecord}

both : (a b : Bool) → T a → T b → T (a && b)
both true b p q = q
both false b p q = p

either_way : {A : Type 0} (b : Bool) (x : A) → cond b x x ≡ x
either_way true x = refl
either_way false x = refl

-- ---- the rows of some keys
module _ (rows : Rows) where
  abbrev pub row_at : RowKey → Option (RowKey × Row)
  row_at k = option_map (λ r. (k, r)) (get rows k)

  abbrev pub rows_at : List RowKey → List (RowKey × Row)
  rows_at ks = filter_map row_at ks

  said-cons : (p : RowPart) (k : RowKey) (o : Option Row) (ss : List ImageRecord) (es : List (RowKey × Row)) → ss ≡ rows_said p es
      → cons_option (option_and_then (λ r. row_said p (k, r)) o) ss ≡ rows_said p (cons_option (option_map (λ r. (k, r)) o) es)
  said-cons p k None ss es h = h
  said-cons p k (Some r) ss es h = ap (cons_option (row_said p (k, r))) h

  said-rows_at : (p : RowPart) (ks : List RowKey) → filter_map (said_at p rows) ks ≡ rows_said p (rows_at ks)
  said-rows_at p [] = refl
  said-rows_at p (k ∷ ks) = said-cons p k (get rows k) _ _ (said-rows_at p ks)

  below-cons : (k y : RowKey) (o : Option Row) (es : List (RowKey × Row)) → row_key_cmp k y ≡ Less → T (below_all row_key_cmp k es)
      → T (below_all row_key_cmp k (cons_option (option_map (λ r. (y, r)) o) es))
  below-cons k y None es l h = h
  below-cons k y (Some r) es l h = both (is_lt (row_key_cmp k y)) (below_all row_key_cmp k es) (rw l tt) h

  below-rows_at : (k : RowKey) (ks : List RowKey) → AllByRecursion (λ y. row_key_cmp k y ≡ Less) ks → T (below_all row_key_cmp k (rows_at ks))
  below-rows_at k [] h = tt
  below-rows_at k (y ∷ ks) h = below-cons k y (get rows y) (rows_at ks) h.0 (below-rows_at k ks h.1)

  sorted-cons : (k : RowKey) (o : Option Row) (es : List (RowKey × Row)) → T (below_all row_key_cmp k es) → T (is_sorted row_key_cmp es)
      → T (is_sorted row_key_cmp (cons_option (option_map (λ r. (k, r)) o) es))
  sorted-cons k None es b h = h
  sorted-cons k (Some r) es b h = both (below_all row_key_cmp k es) (is_sorted row_key_cmp es) b h

  sorted-rows_at : (ks : List RowKey) → IsStrictlySortedBy row_key_cmp ks → T (is_sorted row_key_cmp (rows_at ks))
  sorted-rows_at [] h = tt
  sorted-rows_at (k ∷ ks) h = sorted-cons k (get rows k) (rows_at ks) (below-rows_at k ks (sorted_head row_key_cmp k ks h)) (sorted-rows_at ks (sorted_tail row_key_cmp k ks h))

  found-cons : (q k : RowKey) (o : Option Row) (es : List (RowKey × Row)) (any : Bool) → get rows k ≡ o → find row_key_cmp q es ≡ cond any (get rows q) None
      → find row_key_cmp q (cons_option (option_map (λ r. (k, r)) o) es) ≡ cond (is_at (row_key_cmp q) k || any) (get rows q) None
  found-cons q k o es any e h = elim (cases_Bool (eq_by_cmp row_key_cmp q k)) [
    | inl same ↦ found-same o e same
    | inr other ↦ found-other o other
  ]
    where
      found-same : (o : Option Row) → get rows k ≡ o → eq_by_cmp row_key_cmp q k ≡ true → find row_key_cmp q (cons_option (option_map (λ r. (k, r)) o) es) ≡ cond (is_at (row_key_cmp q) k || any) (get rows q) None
      found-same None e same =
          let none : get rows q ≡ None = ap (get rows) (exact_keys q k (tied _ same)) ∙ e in
          h ∙ ap (λ x. cond any x None) none ∙ either_way any None ∙ sym none ∙ ap (λ b. cond (b || any) (get rows q) None) (sym same)
      found-same (Some r) e same =
          let some : get rows q ≡ Some r = ap (get rows) (exact_keys q k (tied _ same)) ∙ e in
          ap (λ b. cond b (Some r) (find row_key_cmp q es)) same ∙ sym some ∙ ap (λ b. cond (b || any) (get rows q) None) (sym same)

      found-other : (o : Option Row) → eq_by_cmp row_key_cmp q k ≡ false → find row_key_cmp q (cons_option (option_map (λ r. (k, r)) o) es) ≡ cond (is_at (row_key_cmp q) k || any) (get rows q) None
      found-other None other = h ∙ ap (λ b. cond (b || any) (get rows q) None) (sym other)
      found-other (Some r) other = ap (λ b. cond b (Some r) (find row_key_cmp q es)) other ∙ h ∙ ap (λ b. cond (b || any) (get rows q) None) (sym other)

  find-rows_at : (q : RowKey) (ks : List RowKey) → find row_key_cmp q (rows_at ks) ≡ cond (list_any (is_at (row_key_cmp q)) ks) (get rows q) None
  find-rows_at q [] = refl
  find-rows_at q (k ∷ ks) = found-cons q k (get rows k) (rows_at ks) (list_any (is_at (row_key_cmp q)) ks) refl (find-rows_at q ks)

-- ---- rows with records of their own
not_said : (p : RowPart) (e : RowKey × Row) → stands_alone e.0 ≡ false → row_said p e ≡ None
not_said p (key.Order w d o, r) h = cc
not_said p (key.NewOrder w d o, r) h = cc
not_said p (key.OrderLine w d o n, r) h = cc
not_said p (key.History n, r) h = cc
not_said p (key.DistrictYtd w d, r) h = cc
not_said p (key.DistrictNext w d, r) h = cc
not_said row_part.Districts (_, r) h = refl
not_said row_part.Others (_, r) h = refl

said-where : (p : RowPart) (es : List (RowKey × Row)) → rows_said p (where_key row_key_cmp stands_alone es) ≡ rows_said p es
said-where p [] = refl
said-where p (e ∷ es) = elim (cases_Bool (stands_alone e.0)) [
  | inl alone ↦ ap (λ b. rows_said p (cond b (e ∷ where_key row_key_cmp stands_alone es) (where_key row_key_cmp stands_alone es))) alone ∙ ap (cons_option (row_said p e)) (said-where p es)
  | inr with_card ↦
      ap (λ b. rows_said p (cond b (e ∷ where_key row_key_cmp stands_alone es) (where_key row_key_cmp stands_alone es))) with_card
      ∙ said-where p es ∙ ap (λ o. cons_option o (rows_said p es)) (sym (not_said p e with_card))
]

there : (alone : Bool) (o : Option Row) → cond (alone && is_some o) o None ≡ cond alone o None
there true None = refl
there true (Some r) = refl
there false o = refl

-- the records at the keys of all rows with records of their own
pub said-in_order : (p : RowPart) (rows : Rows) (keys : BTreeSet RowKey) → IsStrictlySortedBy row_key_cmp keys.keys
    → ((q : RowKey) → contains row_key_cmp keys q ≡ (stands_alone q && has_row rows q))
    → filter_map (said_at p rows) keys.keys ≡ rows_said p (entries rows)
said-in_order p rows keys ordered all =
    let left = where_key row_key_cmp stands_alone (entries rows) in
    let same : rows_at rows keys.keys ≡ left = same_entries row_key_cmp row_key_cmp_total exact_keys (rows_at rows keys.keys) left (sorted-rows_at rows keys.keys ordered)
    (is_sorted-where_key row_key_cmp stands_alone (entries rows) (entries_sorted rows))
    (λ q. find-rows_at rows q keys.keys ∙ ap (λ b. cond b (get rows q) None) (all q) ∙ there (stands_alone q) (get rows q)
    ∙ ap (λ o. cond (stands_alone q) o None) (get-entries rows q)
    ∙ sym (find-where_key row_key_cmp stands_alone q (λ x t. ap stands_alone (sym (exact_keys q x t))) (entries rows))) in
    said-rows_at rows p keys.keys ∙ ap (rows_said p) same ∙ said-where p (entries rows)

-- ---- the keys of one leaf
-- what is filled from a slot on
pub filled-more : (ss : List (Option (RowKey × Row))) (i : ℕ) (o : Option (RowKey × Row)) → i < length ss → o ≡ get_or ss i None
    → filled (drop i ss) ≡ cons_option o (filled (drop (i + 1) ss))
filled-more ss i o lt is = at_drop_more filled ss i None lt ∙ ap (λ s. cons_option s (filled (drop (i + 1) ss))) (sym is)

-- the keys so far and those of the leaf's other rows are the earlier keys and those of all its rows
pub record IsAdding (old : BTreeSet RowKey) (page left : List (RowKey × Row)) (new : BTreeSet RowKey) : Type 0 where
  pub whole : (q : RowKey) → (contains row_key_cmp new q || (stands_alone q && is_some (find row_key_cmp q left))) ≡ (contains row_key_cmp old q || (stands_alone q && is_some (find row_key_cmp q page)))

or-true : (b : Bool) → (b || true) ≡ true
or-true true = refl
or-true false = refl

or-false : (b c : Bool) → (b || (c && false)) ≡ b
or-false true c = refl
or-false false true = refl
or-false false false = refl

module _ (old : BTreeSet RowKey) (page : List (RowKey × Row)) (e : RowKey × Row) (left : List (RowKey × Row)) (now : BTreeSet RowKey) (h : IsAdding old page (e ∷ left) now) where
  found : (b : Bool) (q : RowKey) → eq_by_cmp row_key_cmp q e.0 ≡ b → find row_key_cmp q (e ∷ left) ≡ cond b (Some e.1) (find row_key_cmp q left)
  found b q same = ap (λ c. cond c (Some e.1) (find row_key_cmp q left)) same

  pub adding-passed : stands_alone e.0 ≡ false → IsAdding old page left now
  adding-passed with_card = record {
    whole = λ q. elim (cases_Bool (eq_by_cmp row_key_cmp q e.0)) [
      | inl same ↦
          let no : stands_alone q ≡ false = ap stands_alone (exact_keys q e.0 (tied _ same)) ∙ with_card in
          ap (λ a. contains row_key_cmp now q || (a && is_some (find row_key_cmp q left))) no
          ∙ sym (ap (λ a. contains row_key_cmp now q || (a && is_some (find row_key_cmp q (e ∷ left)))) no) ∙ h.whole q
      | inr other ↦ sym (ap (λ o. contains row_key_cmp now q || (stands_alone q && is_some o)) (found false q other)) ∙ h.whole q
    ];
  }

  pub adding-added : (new : BTreeSet RowKey) → stands_alone e.0 ≡ true → ((q : RowKey) → contains row_key_cmp new q ≡ cond (is_at (row_key_cmp e.0) q) true (contains row_key_cmp now q)) → IsAdding old page left new
  adding-added new alone added = record {
    whole = λ q. elim (cases_Bool (eq_by_cmp row_key_cmp q e.0)) [
      | inl same ↦
          let yes : stands_alone q ≡ true = ap stands_alone (exact_keys q e.0 (tied _ same)) ∙ alone in
          let has : contains row_key_cmp new q ≡ true = added q ∙ ap (λ b. cond b true (contains row_key_cmp now q)) ((eq_by_cmp_equiv row_key_cmp_total).symm e.0 q ∙ same) in
          ap (λ b. b || (stands_alone q && is_some (find row_key_cmp q left))) has
          ∙ sym (ap (λ a. contains row_key_cmp now q || (a && is_some (find row_key_cmp q (e ∷ left)))) yes ∙ ap (λ o. contains row_key_cmp now q || is_some o) (found true q same) ∙ or-true (contains row_key_cmp now q))
          ∙ h.whole q
      | inr other ↦
          let kept : contains row_key_cmp new q ≡ contains row_key_cmp now q = added q ∙ ap (λ b. cond b true (contains row_key_cmp now q)) ((eq_by_cmp_equiv row_key_cmp_total).symm e.0 q ∙ other) in
          ap (λ b. b || (stands_alone q && is_some (find row_key_cmp q left))) kept
          ∙ sym (ap (λ o. contains row_key_cmp now q || (stands_alone q && is_some o)) (found false q other)) ∙ h.whole q
    ];
  }

pub adding-whole : (old : BTreeSet RowKey) (page : List (RowKey × Row)) (new : BTreeSet RowKey) → IsAdding old page [] new → HasAlsoAlone old page new
adding-whole old page new h q = sym (or-false (contains row_key_cmp new q) (stands_alone q)) ∙ h.whole q

-- ---- the keys of all leaves
-- the keys of rows with records of their own on the leaves below n
pub record HasBelow (rows : Rows) (n : ℕ) (keys : BTreeSet RowKey) : Type 0 where
  pub has : (q : RowKey) → contains row_key_cmp keys q ≡ (ltb (leaf q) n && (stands_alone q && has_row rows q))

pub below-none : (rows : Rows) (keys : BTreeSet RowKey) → keys.keys ≡ [] → HasBelow rows 0 keys
below-none rows keys empty = record {
  has = λ q. ap (list_any (is_at (row_key_cmp q))) empty ∙ sym (ap (λ b. b && (stands_alone q && has_row rows q)) (le-ltb (leaf q) 0 (omega arith)));
}

pub below-more : (rows : Rows) (n : ℕ) (old new : BTreeSet RowKey) → HasBelow rows n old → HasAlsoAlone old (entries (page_rows rows n)) new → HasBelow rows (n + 1) new
below-more rows n old new h more = record {
  has = λ q.
      more q ∙ ap (λ b. b || (stands_alone q && is_some (find row_key_cmp q (entries (page_rows rows n))))) (h.has q)
      ∙ ap (λ o. (ltb (leaf q) n && (stands_alone q && has_row rows q)) || (stands_alone q && is_some o)) (sym (get-entries (page_rows rows n) q) ∙ get-page_rows rows n q)
      ∙ by q (stands_alone q) (get rows q);
}
  where
    by : (q : RowKey) (a : Bool) (o : Option Row) → ((ltb (leaf q) n && (a && is_some o)) || (a && is_some (cond (eqb (leaf q) n) o None))) ≡ (ltb (leaf q) (n + 1) && (a && is_some o))
    by q a o = elim (cases_lt (leaf q) n) [
      | inl less ↦ rw (lt-ltb (leaf q) n less, ne_eqb (leaf q) n (λ e. absurd (omega arith)), lt-ltb (leaf q) (n + 1) (omega arith)) (or-false (a && is_some o) a)
      | inr rest ↦ elim (cases_eq (leaf q) n) [
        | inl same ↦ rw (le-ltb (leaf q) n rest, eq-eqb (leaf q) n same, lt-ltb (leaf q) (n + 1) (omega arith)) refl
        | inr other ↦ rw (le-ltb (leaf q) n rest, ne_eqb (leaf q) n other, le-ltb (leaf q) (n + 1) (grind arith)) (or-false false a)
      ]
    ]

pub below-all : (rows : Rows) (n : ℕ) (keys : BTreeSet RowKey) → n ≡ 65536 → HasBelow rows n keys → (q : RowKey) → contains row_key_cmp keys q ≡ (stands_alone q && has_row rows q)
below-all rows n keys last h q =
    let small = leaf-small q in
    h.has q ∙ ap (λ b. b && (stands_alone q && has_row rows q)) (lt-ltb (leaf q) n (omega (arith, small, last)))
