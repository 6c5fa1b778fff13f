-- Entries beside the ranks of their keys: what a search among the ranks says of the entries, and one entry more.
use Rattle.std.proofs.Common.{◌≡◌, ◌<◌, ◌≤◌, ℕ, true, zero, suc, List, [], ◌∷◌, length, Result, Ok, Err, refl, sym, ap, subst, ◌∙◌, arith}
use Rattle.std.specs.List as list
use Rattle.std.specs.List.{HoldsAt, slice_index_or, slice_set}
use Rattle.std.specs.List.Sorted.{IsBinarySearchResult, IsNonDecreasingBy, IsSearchInRange}
use Rattle.std.specs.Ordering.{nat_cmp, ordering_index}
use Rattle.tpcc_rows.specs.declared.key.RowKey.{RowKey}
use Rattle.tpcc_rows.specs.Places.{IsPlaceOf, are_in_order}
use Rattle.tpcc_rows.specs.Ranks.{AreRanksOf, IsNumbered, rank}
use Rattle.tpcc_rows.specs.RowMap.{row_key_cmp}
use Rattle.tpcc_rows.proofs.KeyRanks.{order_is_of_ranks}
use Rattle.tpcc_rows.proofs.Keys.{row_key_cmp_total, exact_keys}
use Rattle.tpcc_rows.proofs.Places.{placed}

module _ {X : Type 0} where
  pub as-many : (es : List (RowKey × X)) (rs : List ℕ) → AreRanksOf es rs → length rs ≡ length es
  as-many [] [] h = refl
  as-many [] (r ∷ rs) h = absurd h
  as-many (e ∷ es) [] h = absurd h
  as-many (e ∷ es) (r ∷ rs) h = ap suc (as-many es rs h.1)

  ranked-at : (es : List (RowKey × X)) (rs : List ℕ) (i : ℕ) (d : RowKey × X) (n : ℕ) → AreRanksOf es rs → i < length es
      → (slice_index_or rs i n ≡ rank (slice_index_or es i d).0) × IsNumbered (slice_index_or es i d).0
  ranked-at [] rs i d n h below = absurd (omega arith)
  ranked-at (e ∷ es) [] i d n h below = absurd h
  ranked-at (e ∷ es) (r ∷ rs) zero d n h below = h.0
  ranked-at (e ∷ es) (r ∷ rs) (suc i) d n h below = ranked-at es rs i d n h.1 (omega arith)

  -- ---- the place of a key
  module _ (key : RowKey) (numbered : IsNumbered key) where
    compared : (es : List (RowKey × X)) (rs : List ℕ) (i : ℕ) (d : RowKey × X) (n : ℕ) → AreRanksOf es rs → i < length es
        → row_key_cmp (slice_index_or es i d).0 key ≡ nat_cmp (slice_index_or rs i n) (rank key)
    compared es rs i d n h below =
        let at = ranked-at es rs i d n h below in
        order_is_of_ranks (slice_index_or es i d).0 key at.1 numbered ∙ ap (λ r. nat_cmp r (rank key)) (sym at.0)

    ranks-rise : (es : List (RowKey × X)) (rs : List ℕ) → AreRanksOf es rs → IsNonDecreasingBy (λ e. ordering_index (row_key_cmp e.0 key)) es
        → IsNonDecreasingBy (λ r. ordering_index (nat_cmp r (rank key))) rs
    ranks-rise [] [] h up i j n upto below = absurd (omega arith)
    ranks-rise [] (r ∷ rs) h up i j n upto below = absurd h
    ranks-rise (e ∷ es) rs h up i j n upto below =
        let high : j < length (e ∷ es) = subst (λ l. j < l) (as-many (e ∷ es) rs h) below in
        subst (λ o. ordering_index (nat_cmp (slice_index_or rs i n) (rank key)) ≤ ordering_index o) (compared (e ∷ es) rs j e n h high)
        (subst (λ o. ordering_index o ≤ ordering_index (row_key_cmp (slice_index_or (e ∷ es) j e).0 key)) (compared (e ∷ es) rs i e n h (omega arith)) (up i j e upto high))

    searched : (es : List (RowKey × X)) (rs : List ℕ) (place : Result ℕ ℕ) → AreRanksOf es rs → IsSearchInRange place (length es)
        → IsBinarySearchResult (λ r. nat_cmp r (rank key)) rs place → IsBinarySearchResult (λ e. row_key_cmp e.0 key) es place
    searched es rs (Ok i) h bound at = λ d. compared es rs i d 0 h bound ∙ at 0
    searched es rs (Err i) h bound parts = λ up.
        let (low, high) = parts (ranks-rise es rs h up) in (
          λ k d from to. compared es rs k d 0 h (omega (arith, bound)) ∙ low k 0 from to,
          λ k d from to. compared es rs k d 0 h to ∙ high k 0 from (subst (λ l. k < l) (sym (as-many es rs h)) to),
        )

    -- what is found among the ranks is the place of the key
    pub placed-by_rank : (es : List (RowKey × X)) (rs slice : List ℕ) (r : ℕ) (answer place : Result ℕ ℕ) → are_in_order row_key_cmp es ≡ true → AreRanksOf es rs
        → slice ≡ rs → r ≡ rank key → answer ≡ place → IsSearchInRange answer (length slice) → IsBinarySearchResult (λ other. nat_cmp other r) slice answer
        → IsPlaceOf row_key_cmp key es place
    placed-by_rank es rs slice r answer place sorted h same own is bound found =
        let inside = subst (λ n. IsSearchInRange answer n) (ap (λ (l : List ℕ). length l) same ∙ as-many es rs h) bound in
        let among = subst (λ l. IsBinarySearchResult (λ other. nat_cmp other r) l answer) same found in
        let by_key = searched es rs answer h inside (subst (λ n. IsBinarySearchResult (λ other. nat_cmp other n) rs answer) own among) in
        subst (λ p. IsPlaceOf row_key_cmp key es p) is (placed row_key_cmp_total exact_keys es key answer sorted inside by_key)

    -- ---- one entry more
    pub ranked-inserted : (es : List (RowKey × X)) (rs : List ℕ) (i : ℕ) (x : X) → AreRanksOf es rs → AreRanksOf (list.insert es i (key, x)) (list.insert rs i (rank key))
    ranked-inserted [] [] zero x h = ((refl, numbered), tt)
    ranked-inserted [] [] (suc i) x h = ((refl, numbered), tt)
    ranked-inserted [] (r ∷ rs) i x h = absurd h
    ranked-inserted (e ∷ es) [] i x h = absurd h
    ranked-inserted (e ∷ es) (r ∷ rs) zero x h = ((refl, numbered), h)
    ranked-inserted (e ∷ es) (r ∷ rs) (suc i) x h = (h.0, ranked-inserted es rs i x h.1)

  -- the same key again
  pub ranked-set : (es : List (RowKey × X)) (rs : List ℕ) (i : ℕ) (k : RowKey) (x : X) → HoldsAt (λ e. e.0 ≡ k) es i → AreRanksOf es rs → AreRanksOf (slice_set es i (k, x)) rs
  ranked-set [] rs i k x there h = h
  ranked-set (e ∷ es) [] i k x there h = absurd h
  ranked-set (e ∷ es) (r ∷ rs) zero k x there h = ((h.0.0 ∙ ap rank (there e), subst IsNumbered (there e) h.0.1), h.1)
  ranked-set (e ∷ es) (r ∷ rs) (suc i) k x there h = (h.0, ranked-set es rs i k x there h.1)
