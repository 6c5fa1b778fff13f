-- How many rows there are.
use Rattle.std.proofs.Common.{◌≡◌, ◌≤◌, ◌<◌, ◌+◌, ◌-◌, ◌^◌, ◌&&◌, ℕ, Bool, true, false, cond, T, List, [], ◌∷◌, length, Option, Some, None, is_some, inl, inr, refl, sym, ap, subst, ◌∙◌, arith}
use Rattle.std.proofs.lemmas.Cmp.{ranked}
use Rattle.std.proofs.lemmas.List.{length-map}
use Rattle.std.specs.FinMap.{entries, entries_sorted, find, get, get-entries, get-from_entries, insert, is_sorted, len, len-entries, len-insert, len-remove, remove}
use Rattle.std.specs.FinMap.Entries.{below_all, same_entries}
use Rattle.std.specs.Ordering.{is_lt, nat_cmp}
use Rattle.tpcc_rows.proofs.Keys.{row_key_cmp_total, exact_keys}
use Rattle.tpcc_rows.proofs.Singles.{first, found_first, found_later, less, second, ties_itself}
use Rattle.tpcc_rows.specs.RowMap.{row_key_cmp}
use Rattle.tpcc_rows.specs.declared.key.RowKey.{RowKey}
use Rattle.tpcc_rows.specs.declared.key.RowKey.TheVariants as key
use Rattle.tpcc_rows.specs.declared.row.Row.{Row}
use Rattle.tables.specs.Keys.{key_of}
use Rattle.tpcc_rows.specs.Ranks.{IsNumbered, kind, rank}
use Rattle.tpcc_rows.proofs.KeyRanks.{in_kind-small, order_is_of_ranks}
use Rattle.tables.proofs.Tables.{rank_total, exact_ranks}
use Rattle.row_tables.specs.RankRows.{RankRows}
use Rattle.row_tables.specs.Stored.{AreKept, IsCounted, IsRank, keyed}
use Rattle.row_tables.proofs.Keyed.{AreRanks, keyed_entries, rank-back, rank-key, ranks-kept}

-- ---- what is found in entries by rank
module _ {X : Type 0} where
  pub found-here : (e : ℕ × X) (es : List (ℕ × X)) → find nat_cmp e.0 (e ∷ es) ≡ Some e.1
  found-here e es = ap (λ b. cond b (Some e.1) (find nat_cmp e.0 es)) (ties_itself rank_total exact_ranks e.0)

  pub found-above : (k : ℕ) (es : List (ℕ × X)) (r : ℕ) (x : X) → T (below_all nat_cmp k es) → find nat_cmp r es ≡ Some x → k < r
  found-above k [] r x b h = (let no : None ≡ Some x = h in cc)
  found-above k (e ∷ es) r x b h = elim (found_first rank_total exact_ranks e es r x h) [
    | inl same ↦ subst (λ q. k < q) (sym same.0) (ranked k e.0 _ (sym (less (nat_cmp k e.0) (first (is_lt (nat_cmp k e.0)) (below_all nat_cmp k es) b))))
    | inr later ↦ found-above k es r x (second (is_lt (nat_cmp k e.0)) (below_all nat_cmp k es) b) later
  ]

-- ranks that rise from k to below n
within : (n k : ℕ) (es : List (ℕ × Row)) → T (is_sorted nat_cmp es) → ((r : ℕ) (x : Row) → find nat_cmp r es ≡ Some x → (k ≤ r) × (r < n)) → k ≤ n → length es + k ≤ n
within n k [] s all low = omega (arith, low)
within n k (e ∷ es) s all low =
    let here = all e.0 e.1 (found-here e es) in
    let a : k ≤ e.0 = here.0 in
    let b : e.0 < n = here.1 in
    let rest : length es + (e.0 + 1) ≤ n = within n (e.0 + 1) es (second (below_all nat_cmp e.0 es) (is_sorted nat_cmp es) s) (λ r x there. (
      let above : e.0 < r = found-above e.0 es r x (first (below_all nat_cmp e.0 es) (is_sorted nat_cmp es) s) there in omega (arith, above),
      (all r x (found_later rank_total exact_ranks e es r x s there)).1,
    )) (omega (arith, b)) in
    omega (arith, a, rest)

few-kinds : (k : RowKey) → kind k ≤ 10
few-kinds (key.Warehouse w) = omega arith
few-kinds (key.Customer w d c) = omega arith
few-kinds (key.Stock w i) = omega arith
few-kinds (key.Order w d o) = omega arith
few-kinds (key.NewOrder w d o) = omega arith
few-kinds (key.OrderLine w d o n) = omega arith
few-kinds (key.History n) = omega arith
few-kinds (key.DistrictYtd w d) = omega arith
few-kinds (key.DistrictNext w d) = omega arith

module _ (m : RankRows) (h : AreKept m) where
  small : (r : ℕ) (x : Row) → get m r ≡ Some x → r < 2 ^ 60
  small r x there =
      let k = (h.kept r x there).is_rank in
      let is : rank k.key ≡ r = k.ranked in
      let low = in_kind-small k.key k.numbered in
      let high = few-kinds k.key in
      omega (arith, is, low, high)

  -- no more rows than ranks
  pub few : len m ≤ 2 ^ 60
  few =
      let most : length (entries m) + 0 ≤ 2 ^ 60 = within (2 ^ 60) 0 (entries m) (entries_sorted m) (λ r x there. (omega arith, small r x (get-entries m r ∙ there))) (omega arith) in
      let same : len m ≡ length (entries m) = len-entries m in
      omega (arith, most, same)

-- ---- keys stand in the order of their ranks
numbered-of : (r : ℕ) → IsRank r → IsNumbered (key_of r)
numbered-of r h = subst IsNumbered (sym (rank-key r h)) h.numbered

pub same-order : (r s : ℕ) → IsRank r → IsRank s → row_key_cmp (key_of r) (key_of s) ≡ nat_cmp r s
same-order r s h g =
    order_is_of_ranks (key_of r) (key_of s) (numbered-of r h) (numbered-of s g)
    ∙ ap (λ x. nat_cmp x (rank (key_of s))) (rank-back r h) ∙ ap (nat_cmp r) (rank-back s g)

below-keyed : (r : ℕ) → IsRank r → (es : List (ℕ × Row)) → AreRanks es → below_all row_key_cmp (key_of r) (keyed_entries es) ≡ below_all nat_cmp r es
below-keyed r h [] hs = refl
below-keyed r h (e ∷ es) hs = ap (λ o. is_lt o && below_all row_key_cmp (key_of r) (keyed_entries es)) (same-order r e.0 h hs.0) ∙ ap (λ b. is_lt (nat_cmp r e.0) && b) (below-keyed r h es hs.1)

sorted-keyed : (es : List (ℕ × Row)) → AreRanks es → is_sorted row_key_cmp (keyed_entries es) ≡ is_sorted nat_cmp es
sorted-keyed [] hs = refl
sorted-keyed (e ∷ es) hs = ap (λ b. b && is_sorted row_key_cmp (keyed_entries es)) (below-keyed e.0 hs.0 es hs.1) ∙ ap (λ b. below_all nat_cmp e.0 es && b) (sorted-keyed es hs.1)

module _ (m : RankRows) (h : AreKept m) where
  -- the entries by key are those by rank
  pub entries-keyed : entries (keyed m) ≡ keyed_entries (entries m)
  unfolding keyed
  entries-keyed = same_entries row_key_cmp row_key_cmp_total exact_keys _ _ (entries_sorted (keyed m)) (subst T (sym (sorted-keyed (entries m) (ranks-kept m h))) (entries_sorted m))
      (λ q. sym (get-entries (keyed m) q) ∙ get-from_entries row_key_cmp_total _ q)

  pub counted-rows : len m ≡ length (entries (keyed m))
  counted-rows = len-entries m ∙ sym (ap length entries-keyed ∙ length-map (entries m) (λ e. (key_of e.0, e.1)))

-- ---- after a change
module _ (m : RankRows) (n : ℕ) (h : IsCounted m n) where
  pub room-more : n < 2 ^ 63
  room-more = let most = few m h.are_kept in let is : n ≡ len m = h.counted in omega (arith, most, is)

  pub counted-more : (r : ℕ) (x : Row) (after : RankRows) (was : Option Row) (k : ℕ) → was ≡ get m r → after ≡ insert m r x → k ≡ cond (is_some was) n (n + 1) → k ≡ len after
  counted-more r x after was k is e c =
      c ∙ ap (λ o. cond (is_some o) n (n + 1)) is ∙ ap (λ z. cond (is_some (get m r)) z (z + 1)) h.counted
      ∙ sym (ap (λ (a : RankRows). len a) e ∙ len-insert rank_total m r x)

  pub counted-fewer : (r : ℕ) (after : RankRows) (was : Option Row) (k : ℕ) → was ≡ get m r → after ≡ remove m r → k ≡ cond (is_some was) (n - 1) n → k ≡ len after
  counted-fewer r after was k is e c =
      c ∙ ap (λ o. cond (is_some o) (n - 1) n) is ∙ ap (λ z. cond (is_some (get m r)) (z - 1) z) h.counted
      ∙ sym (ap (λ (a : RankRows). len a) e ∙ len-remove rank_total m r)

  pub counted-swapped : (r : ℕ) (x : Row) (after : RankRows) (b : Bool) → b ≡ is_some (get m r) → after ≡ cond b (insert m r x) m → n ≡ len after
  counted-swapped r x after true is e = counted-more r x after (get m r) n refl e (ap (λ c. cond c n (n + 1)) is)
  counted-swapped r x after false is e = h.counted ∙ ap (λ (a : RankRows). len a) (sym e)
