-- Entries parted at a rank: those of lesser ranks, then the others.
use Rattle.std.proofs.Common.{◌≡◌, ◌≢◌, ◌<◌, ◌≤◌, ◌+◌, ℕ, true, List, length, slice_index_or, Ok, Err, Some, None, inl, inr, sym, ap, subst, ◌∙◌, arith}
use Rattle.std.proofs.lemmas.Bool.{cases_lt}
use Rattle.std.proofs.lemmas.Cmp.{ranked}
use Rattle.std.proofs.lemmas.List.{get_or_default}
use Rattle.std.specs.Cmp.{nat_cmp_is}
use Rattle.std.specs.FinMap.{entries, find}
use Rattle.std.specs.Ordering.{nat_cmp}
use Rattle.std.specs.declared.cmp.Ordering.TheVariants.{Less, Greater}
use Rattle.tpcc_rows.specs.Places.{IsPlaceOf, are_in_order}
use Rattle.tpcc_rows.proofs.Places as places
use Rattle.tpcc_rows.proofs.SortedEntries.{rising}
use Rattle.tables.specs.ByRank.{ByRank, IsPartedAt}
use Rattle.tables.proofs.Tables.{rank_total, exact_ranks, find-table, table_of}

-- a slice of the entries of a table's vector has those of the table
pub entries-of : {X : Type 0} (slice es : List (ℕ × X)) (m : ByRank X) → slice ≡ es → are_in_order nat_cmp es ≡ true → table_of es ≡ m → slice ≡ entries m
entries-of slice es m same h is = same ∙ sym (places.entries-map_of nat_cmp es h) ∙ ap (λ t. entries t) is

-- the entry at the place has another rank
pub another : {X : Type 0} (es : List (ℕ × X)) (r i : ℕ) (e : ℕ × X) → e ≡ slice_index_or es i e → e.0 ≢ r → (d : ℕ × X) → i < length es → (slice_index_or es i d).0 ≢ r
another es r i e is apart d below same = apart (ap (λ (x : _ × _). x.0) (is ∙ get_or_default es i e d below) ∙ same)

-- the place is behind the last entry
pub past : {X : Type 0} (es : List (ℕ × X)) (r i : ℕ) → length es ≤ i → (d : ℕ × X) → i < length es → (slice_index_or es i d).0 ≢ r
past es r i over d below same = absurd (omega (arith, over, below))

module _ {X : Type 0} (es : List (ℕ × X)) (h : are_in_order nat_cmp es ≡ true) (r i : ℕ) where
  -- ranks rise
  rise : (j k : ℕ) (d : ℕ × X) → j < k → k < length es → (slice_index_or es j d).0 < (slice_index_or es k d).0
  rise j k d less below = ranked (slice_index_or es j d).0 (slice_index_or es k d).0 Less (sym (rising rank_total es (places.sorted nat_cmp es h) j k d less below))

  pub parted-there : IsPlaceOf nat_cmp r es (Ok i) → IsPartedAt es r i
  parted-there there = (
    omega (arith, there.0),
    (
      λ k d low under. subst (λ q. (slice_index_or es k d).0 < q) (there.1 d) (rise k i d under there.0),
      λ k d low under. elim (cases_lt i k) [
        | inl later ↦ (let q = there.1 d in let up = rise i k d later under in omega (arith, q, up))
        | inr first ↦ (let same : k ≡ i = omega (arith, low, first) in let q = there.1 d in subst (λ n. r ≤ (slice_index_or es n d).0) (sym same) (omega (arith, q)))
      ],
    ),
  )

  pub parted-absent : IsPlaceOf nat_cmp r es (Err i) → IsPartedAt es r i
  parted-absent absent = (
    absent.0,
    (
      λ k d low under. ranked (slice_index_or es k d).0 r Less (sym (absent.1.0 k d low under)),
      λ k d low under. (let more = ranked (slice_index_or es k d).0 r Greater (sym (absent.1.1 k d low under)) in omega (arith, more)),
    ),
  )

  module _ (parted : IsPartedAt es r i) where
    next-there : IsPlaceOf nat_cmp r es (Ok i) → IsPartedAt es (r + 1) (i + 1)
    next-there there = (
      omega (arith, there.0),
      (
        λ k d low under. elim (cases_lt k i) [
          | inl earlier ↦ (let less = parted.1.0 k d low earlier in omega (arith, less))
          | inr last ↦ (let same : k ≡ i = omega (arith, under, last) in let q = there.1 d in subst (λ n. (slice_index_or es n d).0 < r + 1) (sym same) (omega (arith, q)))
        ],
        λ k d low under. (let q = there.1 d in let up = rise i k d (omega (arith, low)) under in omega (arith, q, up)),
      ),
    )

    module _ (e : ℕ × X) (below : i < length es) (here : e ≡ slice_index_or es i e) (same : e.0 ≡ r) where
      there : IsPlaceOf nat_cmp r es (Ok i)
      there = (below, λ d. ap (λ (x : ℕ × X). x.0) (get_or_default es i d e below ∙ sym here) ∙ same)

      pub found : Some e.1 ≡ find nat_cmp r es
      found = ap (λ (x : ℕ × X). Some x.1) here ∙ sym (find-table es r h ∙ places.got rank_total exact_ranks es r i h there e)

      pub next-found : IsPartedAt es (r + 1) (i + 1)
      next-found = next-there there

    -- the rank at the place, if there is one, is another
    module _ (other : (d : ℕ × X) → i < length es → (slice_index_or es i d).0 ≢ r) where
      greater : (k : ℕ) (d : ℕ × X) → i ≤ k → k < length es → r < (slice_index_or es k d).0
      greater k d low under =
          let least : r ≤ (slice_index_or es i d).0 = parted.1.1 i d (omega arith) (omega (arith, low, under)) in
          let apart = other d (omega (arith, low, under)) in
          elim (cases_lt r (slice_index_or es i d).0) [
            | inl above ↦ elim (cases_lt i k) [
              | inl later ↦ (let up = rise i k d later under in omega (arith, above, up))
              | inr first ↦ (let same : k ≡ i = omega (arith, low, first) in subst (λ n. r < (slice_index_or es n d).0) (sym same) above)
            ]
            | inr upto ↦ absurd (apart (omega (arith, least, upto)))
          ]

      is-absent : IsPlaceOf nat_cmp r es (Err i)
      is-absent = (
        parted.0,
        (
          λ k d low under. sym (nat_cmp_is (slice_index_or es k d).0 r Less (parted.1.0 k d low under)),
          λ k d low under. sym (nat_cmp_is (slice_index_or es k d).0 r Greater (greater k d low under)),
        ),
      )

      pub missing : None ≡ find nat_cmp r es
      missing = sym (find-table es r h ∙ places.got-none rank_total exact_ranks es r i h is-absent)

      pub next-absent : IsPartedAt es (r + 1) i
      next-absent = (
        parted.0,
        (
          λ k d low under. (let less = parted.1.0 k d low under in omega (arith, less)),
          λ k d low under. (let more = greater k d low under in omega (arith, more)),
        ),
      )
