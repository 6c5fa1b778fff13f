-- Rows by rank as rows by key.
use Rattle.std.specs.Prelude.{⊤}
use Rattle.std.proofs.Common.{◌≡◌, ℕ, Bool, true, false, cond, T, map as each, List, [], ◌∷◌, Option, Some, None, inl, inr, refl, sym, ap, subst, ◌∙◌}
use Rattle.std.specs.FinMap as map
use Rattle.std.specs.FinMap.{entries, entries_sorted, find, get, get-empty, get-entries, get-from_entries, insert, is_sorted, remove, same_map}
use Rattle.std.specs.FinMap.Entries.{below_all}
use Rattle.std.specs.Option.{IfSome}
use Rattle.std.specs.Ordering.{eq_by_cmp, is_eq, nat_cmp}
use Rattle.std.proofs.lemmas.Bool.{cases_Bool, false≢true}
use Rattle.std.proofs.lemmas.Cmp.{tied_itself}
use Rattle.serializability.specs.Changes.{changed}
use Rattle.serializability.proofs.Changes.{get-changed}
use Rattle.tpcc_rows.proofs.Keys.{row_key_cmp_total, exact_keys}
use Rattle.tpcc_rows.proofs.Singles.{entry_of, entry_left, found_later, second, tied, ties_itself}
use Rattle.tpcc_rows.specs.declared.key.RowKey.{RowKey}
use Rattle.tpcc_rows.specs.declared.key.RowKey.TheVariants as key
use Rattle.tpcc_rows.specs.declared.row.Row.{Row}
use Rattle.tpcc_rows.specs.declared.row.Row.TheVariants as row
use Rattle.tpcc_rows.specs.Changing.{new_row_fits}
use Rattle.tpcc_rows.specs.RowKinds.{fits}
use Rattle.tpcc_rows.specs.RowMap.{row_key_cmp}
use Rattle.tables.specs.Keys.{key_of}
use Rattle.tpcc_rows.specs.Ranks.{IsNumbered, kind, rank}
use Rattle.tables.proofs.RankKeys.{key_of-rank, kind-of}
use Rattle.tables.proofs.Tables.{rank_total, exact_ranks}
use Rattle.row_tables.specs.RankRows.{RankRows}
use Rattle.row_tables.specs.Kinds.{table_of, table_of_kind, table_of_row}
use Rattle.row_tables.specs.Stored.{AreKept, IsRank, keyed}

-- ---- ranks
-- whether the key is that of its rank
abbrev pub is_key : RowKey → Bool
is_key q = eq_by_cmp row_key_cmp q (key_of (rank q))

-- the key of a rank has the rank
pub rank-back : (r : ℕ) → IsRank r → rank (key_of r) ≡ r
rank-back r h = ap (λ x. rank (key_of x)) (sym h.ranked) ∙ ap rank (key_of-rank h.key h.numbered) ∙ h.ranked

pub rank-key : (r : ℕ) (h : IsRank r) → key_of r ≡ h.key
rank-key r h = ap (λ x. key_of x) (sym h.ranked) ∙ key_of-rank h.key h.numbered

is_key-numbered : (k : RowKey) → IsNumbered k → is_key k ≡ true
is_key-numbered k h = ap (λ q. eq_by_cmp row_key_cmp k q) (key_of-rank k h) ∙ ties_itself row_key_cmp_total exact_keys k

pub same_key : (q k : RowKey) → eq_by_cmp row_key_cmp q k ≡ true → q ≡ k
same_key q k t = exact_keys q k (tied _ t)

same_rank : (q r : ℕ) → eq_by_cmp nat_cmp q r ≡ true → q ≡ r
same_rank q r t = exact_ranks q r (tied _ t)

not-both : {A : Type 0} (b : Bool) → b ≡ true → b ≡ false → A
not-both b t f = absurd (false≢true (sym f ∙ t))

abbrev pub AreRanks : List (ℕ × Row) → Type 0
AreRanks [] = ⊤
AreRanks (e ∷ es) = IsRank e.0 × AreRanks es

ranks-found : (es : List (ℕ × Row)) → T (is_sorted nat_cmp es) → ((r : ℕ) (x : Row) → find nat_cmp r es ≡ Some x → IsRank r) → AreRanks es
ranks-found [] s h = tt
ranks-found (e ∷ es) s h =
    let here : find nat_cmp e.0 (e ∷ es) ≡ Some e.1 = ap (λ r. cond (is_eq r) (Some e.1) (find nat_cmp e.0 es)) (tied_itself rank_total e.0) in
    (h e.0 e.1 here, ranks-found es (second (below_all nat_cmp e.0 es) (is_sorted nat_cmp es) s) (λ r x there. h r x (found_later rank_total exact_ranks e es r x s there)))

nothing-either : {A : Type 0} (b : Bool) → ◌≡◌ {A = Option A} None (cond b None None)
nothing-either true = refl
nothing-either false = refl

-- ---- what is found at a key
abbrev pub keyed_entries : List (ℕ × Row) → List (RowKey × Row)
keyed_entries es = each (λ e. (key_of e.0, e.1)) es

abbrev looked : List (ℕ × Row) → RowKey → Option Row
looked es q = cond (is_key q) (find nat_cmp (rank q) es) None

found-here : (e : ℕ × Row) (es : List (ℕ × Row)) (q : RowKey) → IsRank e.0 → q ≡ key_of e.0 → Some e.1 ≡ looked (e ∷ es) q
found-here e es q h is =
    let ranked : rank q ≡ e.0 = ap rank is ∙ rank-back e.0 h in
    let key : is_key q ≡ true = ap (λ k. eq_by_cmp row_key_cmp q (key_of k)) ranked ∙ ap (λ k. eq_by_cmp row_key_cmp q k) (sym is) ∙ ties_itself row_key_cmp_total exact_keys q in
    let ties : eq_by_cmp nat_cmp (rank q) e.0 ≡ true = ap (λ r. eq_by_cmp nat_cmp r e.0) ranked ∙ ties_itself rank_total exact_ranks e.0 in
    sym (ap (λ b. cond b (find nat_cmp (rank q) (e ∷ es)) None) key
    ∙ ap (λ b. cond b (Some e.1) (find nat_cmp (rank q) es)) ties)

found-further : (e : ℕ × Row) (es : List (ℕ × Row)) (q : RowKey) → eq_by_cmp row_key_cmp q (key_of e.0) ≡ false → looked es q ≡ looked (e ∷ es) q
found-further e es q apart = elim (cases_Bool (is_key q)) [
  | inl key ↦
      let other : eq_by_cmp nat_cmp (rank q) e.0 ≡ false = elim (cases_Bool (eq_by_cmp nat_cmp (rank q) e.0)) [
        | inl ties ↦
            let one : q ≡ key_of e.0 = same_key q (key_of (rank q)) key ∙ ap (λ r. key_of r) (same_rank (rank q) e.0 ties) in
            not-both (eq_by_cmp row_key_cmp q (key_of e.0)) (ap (λ k. eq_by_cmp row_key_cmp q k) (sym one) ∙ ties_itself row_key_cmp_total exact_keys q) apart
        | inr apart_so ↦ apart_so
      ] in
      ap (λ b. cond (is_key q) (cond b (Some e.1) (find nat_cmp (rank q) es)) None) (sym other)
  | inr apart_so ↦
      ap (λ b. cond b (find nat_cmp (rank q) es) None) apart_so
      ∙ sym (ap (λ b. cond b (find nat_cmp (rank q) (e ∷ es)) None) apart_so)
]

pub find-keyed : (es : List (ℕ × Row)) → AreRanks es → (q : RowKey) → find row_key_cmp q (keyed_entries es) ≡ looked es q
find-keyed [] h q = nothing-either (is_key q)
find-keyed (e ∷ es) h q = elim (cases_Bool (eq_by_cmp row_key_cmp q (key_of e.0))) [
  | inl same ↦ ap (λ b. cond b (Some e.1) (find row_key_cmp q (keyed_entries es))) same ∙ found-here e es q h.0 (same_key q (key_of e.0) same)
  | inr apart ↦ ap (λ b. cond b (Some e.1) (find row_key_cmp q (keyed_entries es))) apart ∙ find-keyed es h.1 q ∙ found-further e es q apart
]

module _ (m : RankRows) (h : AreKept m) where
  pub ranks-kept : AreRanks (entries m)
  ranks-kept = ranks-found (entries m) (entries_sorted m) (λ r x there. (h.kept r x (get-entries m r ∙ there)).is_rank)

  pub get-keyed : (q : RowKey) → get (keyed m) q ≡ cond (is_key q) (get m (rank q)) None
  unfolding keyed
  get-keyed q =
      get-from_entries row_key_cmp_total _ q ∙ find-keyed (entries m) ranks-kept q
      ∙ ap (λ o. cond (is_key q) o None) (sym (get-entries m (rank q)))

  -- what a key has, its rank has
  get-key : (k : RowKey) → IsNumbered k → get (keyed m) k ≡ get m (rank k)
  get-key k numbered = get-keyed k ∙ ap (λ b. cond b (get m (rank k)) None) (is_key-numbered k numbered)

-- ---- a change
module _ (m : RankRows) (h : AreKept m) (k : RowKey) (numbered : IsNumbered k) (c : Option Row) (after : AreKept (changed m (rank k) c)) where
  changed-at : (q : RowKey) → cond (is_key q) (get (changed m (rank k) c) (rank q)) None ≡ cond (eq_by_cmp row_key_cmp q k) c (cond (is_key q) (get m (rank q)) None)
  changed-at q = elim (cases_Bool (eq_by_cmp row_key_cmp q k)) [
    | inl same ↦
        let is : q ≡ k = same_key q k same in
        let key : is_key q ≡ true = ap is_key is ∙ is_key-numbered k numbered in
        let ties : eq_by_cmp nat_cmp (rank q) (rank k) ≡ true = ap (λ x. eq_by_cmp nat_cmp (rank x) (rank k)) is ∙ ties_itself rank_total exact_ranks (rank k) in
        ap (λ b. cond b (get (changed m (rank k) c) (rank q)) None) key
        ∙ get-changed rank_total exact_ranks m (rank k) c (rank q) ∙ ap (λ b. cond b c (get m (rank q))) ties
        ∙ sym (ap (λ b. cond b c (cond (is_key q) (get m (rank q)) None)) same)
    | inr apart ↦ elim (cases_Bool (is_key q)) [
      | inl key ↦
          let other : eq_by_cmp nat_cmp (rank q) (rank k) ≡ false = elim (cases_Bool (eq_by_cmp nat_cmp (rank q) (rank k))) [
            | inl ties ↦
                let one : q ≡ k = same_key q (key_of (rank q)) key ∙ ap (λ r. key_of r) (same_rank (rank q) (rank k) ties) ∙ key_of-rank k numbered in
                not-both (eq_by_cmp row_key_cmp q k) (ap (λ x. eq_by_cmp row_key_cmp q x) (sym one) ∙ ties_itself row_key_cmp_total exact_keys q) apart
            | inr apart_so ↦ apart_so
          ] in
          ap (λ o. cond (is_key q) o None) (get-changed rank_total exact_ranks m (rank k) c (rank q) ∙ ap (λ b. cond b c (get m (rank q))) other)
          ∙ sym (ap (λ b. cond b c (cond (is_key q) (get m (rank q)) None)) apart)
      | inr apart_so ↦
          ap (λ b. cond b (get (changed m (rank k) c) (rank q)) None) apart_so
          ∙ sym (ap (λ b. cond b c (cond (is_key q) (get m (rank q)) None)) apart ∙ ap (λ b. cond b (get m (rank q)) None) apart_so)
    ]
  ]

  keyed-changed : keyed (changed m (rank k) c) ≡ changed (keyed m) k c
  keyed-changed = same_map row_key_cmp_total exact_keys _ _ (λ q.
      get-keyed (changed m (rank k) c) after q ∙ changed-at q
      ∙ ap (cond (eq_by_cmp row_key_cmp q k) c) (sym (get-keyed m h q)) ∙ sym (get-changed row_key_cmp_total exact_keys (keyed m) k c q))

kept-insert : (m : RankRows) (k : RowKey) (x : Row) → AreKept m → IsNumbered k → fits k x ≡ true → AreKept (insert m (rank k) x)
kept-insert m k x h numbered fit = record {
  kept = λ r y there. elim (entry_of rank_total exact_ranks m (rank k) x r y there) [
    | inl is ↦ record { is_rank = record { key = k; numbered = numbered; ranked = sym is.0 }; fit = ap (λ z. fits k z) (sym is.1) ∙ fit }
    | inr was ↦ h.kept r y was
  ];
}

kept-remove : (m : RankRows) (k : ℕ) → AreKept m → AreKept (remove m k)
kept-remove m k h = record { kept = λ r y there. h.kept r y (entry_left rank_total exact_ranks m k r y there) }

-- ---- the steps of a store, at the rank of a key
module _ (m : RankRows) (h : AreKept m) (k : RowKey) (numbered : IsNumbered k) (r : ℕ) (is : r ≡ rank k) where
  -- what the rank has, the key has
  pub row-at : get m r ≡ get (keyed m) k
  row-at = ap (get m) is ∙ sym (get-key m h k numbered)

  pub table-at : table_of r ≡ table_of_kind (kind k)
  table-at = ap (λ q. table_of q) is ∙ ap table_of_kind (kind-of k numbered)

  fit-of : (x : Row) → get m r ≡ Some x → fits k x ≡ true
  fit-of x there =
      let kept = h.kept r x there in
      ap (λ q. fits q x) (sym (key_of-rank k numbered) ∙ ap (λ q. key_of q) (sym is) ∙ rank-key r kept.is_rank) ∙ kept.fit

  -- what the rank has is of the key's kind
  pub fit-at : (o : Option Row) → o ≡ get m r → IfSome o (λ x. fits k x ≡ true)
  fit-at None e = tt
  fit-at (Some x) e = fit-of x (sym e)

  pub new-fit-at : (o : Option Row) → o ≡ get m r → new_row_fits k o ≡ true
  new-fit-at None e = refl
  new-fit-at (Some x) e = fit-of x (sym e)

  module _ (after : RankRows) (e : after ≡ remove m r) where
    gone : after ≡ remove m (rank k)
    gone = e ∙ ap (remove m) is

    pub kept-removed : AreKept after
    kept-removed = subst AreKept (sym gone) (kept-remove m (rank k) h)

    pub keyed-removed : keyed after ≡ remove (keyed m) k
    keyed-removed = ap (λ a. keyed a) gone ∙ keyed-changed m h k numbered None (kept-remove m (rank k) h)

  module _ (after : RankRows) (x : Row) (fit : fits k x ≡ true) (e : after ≡ insert m r x) where
    one_more : after ≡ insert m (rank k) x
    one_more = e ∙ ap (λ q. insert m q x) is

    pub kept-put : AreKept after
    kept-put = subst AreKept (sym one_more) (kept-insert m k x h numbered fit)

    pub keyed-put : keyed after ≡ insert (keyed m) k x
    keyed-put = ap (λ a. keyed a) one_more ∙ keyed-changed m h k numbered (Some x) (kept-insert m k x h numbered fit)

  -- a row exchanged at the rank, if it has one
  module _ (after : RankRows) (x : Row) (fit : fits k x ≡ true) where
    pub kept-swapped : (b : Bool) → after ≡ cond b (insert m r x) m → AreKept after
    kept-swapped true e = kept-put after x fit e
    kept-swapped false e = subst AreKept (sym e) h

    pub keyed-swapped : (b : Bool) → after ≡ cond b (insert m r x) m → keyed after ≡ cond b (insert (keyed m) k x) (keyed m)
    keyed-swapped true e = keyed-put after x fit e
    keyed-swapped false e = ap (λ a. keyed a) e

-- the map of a row of the key's kind
pub fits-table : (k : RowKey) (x : Row) → fits k x ≡ true → table_of_row x ≡ table_of_kind (kind k)
fits-table (key.Warehouse w) (row.Warehouse r) h = refl
fits-table (key.Customer w d c) (row.Customer r) h = refl
fits-table (key.Stock w i) (row.Stock r) h = refl
fits-table (key.Order w d o) (row.Order r) h = refl
fits-table (key.NewOrder w d o) row.NewOrder h = refl
fits-table (key.OrderLine w d o n) (row.OrderLine r) h = refl
fits-table (key.History n) (row.History r) h = refl
fits-table (key.DistrictYtd w d) (row.DistrictYtd r) h = refl
fits-table (key.DistrictNext w d) (row.DistrictNext r) h = refl
fits-table k x h = cc

-- ---- no rows
kept-empty : AreKept map.empty
kept-empty = record { kept = λ r y there. let absent : None ≡ Some y = sym (get-empty nat_cmp r) ∙ there in cc }

module _ (m : RankRows) (e : m ≡ map.empty) where
  pub kept-nothing : AreKept m
  kept-nothing = subst AreKept (sym e) kept-empty

  pub keyed-nothing : keyed m ≡ map.empty
  keyed-nothing = same_map row_key_cmp_total exact_keys _ _ (λ q.
      get-keyed m kept-nothing q
      ∙ ap (λ o. cond (is_key q) o None) (ap (λ (a : RankRows). get a (rank q)) e ∙ get-empty nat_cmp (rank q))
      ∙ sym (nothing-either (is_key q)) ∙ sym (get-empty row_key_cmp q))
