-- Branches refreshed one by one.
use Rattle.std.proofs.Common.{◌≡◌, ℕ, zero, suc, ◌+◌, ◌-◌, ◌*◌, ◌<◌, ◌≤◌, List, [], ◌∷◌, ◌++◌, length, take, drop, inl, inr, refl, sym, ap, subst, ◌∙◌, arith}
use Rattle.std.proofs.lemmas.List.{drop-drop, length-drop, length-take-le, take-append-drop}
use Rattle.std.proofs.lemmas.Bool.{cases_lt}
use Rattle.std.specs.Fork.{slice_chunk}
use Rattle.tpcc_rows.specs.RowMap.{Rows}
use Rattle.merkle.specs.Nodes.{AreRefreshed, AreWhole}
use Rattle.merkle.specs.declared.marks.TheConstants.{BRANCH_LEAVES, BRANCH_NODES}
use Rattle.merkle.proofs.Refreshing.{both-refreshed}

nothing-refreshed : (dirty : List ℕ) (rows : Rows) (first : ℕ) (old new : List (List ℕ)) → length old ≡ 0 → length new ≡ 0 → AreRefreshed dirty rows first old new
nothing-refreshed dirty rows first [] [] e f = record { len = refl; branches = record { whole = refl; joins = λ i inner. absurd (omega (arith, inner.0)) }; leaves = λ m small. absurd (omega (arith, small)) }
nothing-refreshed dirty rows first [] (x ∷ new) e f = absurd (omega (arith, f))
nothing-refreshed dirty rows first (x ∷ old) new e f = absurd (omega (arith, e))

-- chunk n behind the first is chunk n + 1
next-chunk : (nodes : List (List ℕ)) (size n : ℕ) → slice_chunk (drop size nodes) size n ≡ slice_chunk nodes size (n + 1)
next-chunk nodes size n = ap (take size) (drop-drop (n * size) size nodes ∙ (let e : size + n * size ≡ (n + 1) * size = omega arith in ap (λ i. drop i nodes) e))

first-chunk : (nodes : List (List ℕ)) (size : ℕ) → slice_chunk nodes size 0 ≡ take size nodes
first-chunk nodes size = let e : 0 * size ≡ 0 = omega arith in ap (λ i. take size (drop i nodes)) e

module _ (dirty : List ℕ) (rows : Rows) where
  -- branches of which each is refreshed, so many at most
  refreshed-to : (most first : ℕ) (old new : List (List ℕ)) → length old ≤ most → AreWhole (length old) → length new ≡ length old
      → ((n : ℕ) → n * BRANCH_NODES < length old → AreRefreshed dirty rows (first + n * BRANCH_LEAVES) (slice_chunk old BRANCH_NODES n) (slice_chunk new BRANCH_NODES n)) → AreRefreshed dirty rows first old new
  refreshed-to zero first old new few whole len each = nothing-refreshed dirty rows first old new (omega (arith, few)) (omega (arith, len, few))
  refreshed-to (suc most) first old new few whole len each = elim (cases_lt 0 (length old)) [
    | inr none ↦ nothing-refreshed dirty rows first old new (omega (arith, none)) (omega (arith, len, none))
    | inl some ↦
        let large : BRANCH_NODES ≤ length old = omega (arith, some, whole) in
        let begin : first + 0 * BRANCH_LEAVES ≡ first = omega arith in
        let taken : length (take BRANCH_NODES old) ≡ BRANCH_NODES = length-take-le BRANCH_NODES old large in
        let front : AreRefreshed dirty rows first (take BRANCH_NODES old) (take BRANCH_NODES new) =
        subst (λ nodes. AreRefreshed dirty rows first nodes (take BRANCH_NODES new)) (first-chunk old BRANCH_NODES)
        (subst (AreRefreshed dirty rows first (slice_chunk old BRANCH_NODES 0)) (first-chunk new BRANCH_NODES)
        (subst (λ f. AreRefreshed dirty rows f (slice_chunk old BRANCH_NODES 0) (slice_chunk new BRANCH_NODES 0)) begin (each 0 (omega (arith, some))))) in
        let back : AreRefreshed dirty rows (first + BRANCH_LEAVES) (drop BRANCH_NODES old) (drop BRANCH_NODES new) =
        refreshed-to most (first + BRANCH_LEAVES) (drop BRANCH_NODES old) (drop BRANCH_NODES new)
        (omega (arith, length-drop BRANCH_NODES old, few, large)) (omega (arith, length-drop BRANCH_NODES old, whole, large))
        (length-drop BRANCH_NODES new ∙ ap (λ l. l - BRANCH_NODES) len ∙ sym (length-drop BRANCH_NODES old))
        (λ n small.
        let number : first + (n + 1) * BRANCH_LEAVES ≡ first + BRANCH_LEAVES + n * BRANCH_LEAVES = omega arith in
        subst (λ nodes. AreRefreshed dirty rows (first + BRANCH_LEAVES + n * BRANCH_LEAVES) nodes (slice_chunk (drop BRANCH_NODES new) BRANCH_NODES n)) (sym (next-chunk old BRANCH_NODES n))
        (subst (AreRefreshed dirty rows (first + BRANCH_LEAVES + n * BRANCH_LEAVES) (slice_chunk old BRANCH_NODES (n + 1))) (sym (next-chunk new BRANCH_NODES n))
        (subst (λ f. AreRefreshed dirty rows f (slice_chunk old BRANCH_NODES (n + 1)) (slice_chunk new BRANCH_NODES (n + 1))) number (each (n + 1) (omega (arith, length-drop BRANCH_NODES old, small)))))) in
        subst (λ nodes. AreRefreshed dirty rows first nodes new) (take-append-drop BRANCH_NODES old)
        (subst (AreRefreshed dirty rows first (take BRANCH_NODES old ++ drop BRANCH_NODES old)) (take-append-drop BRANCH_NODES new)
        (both-refreshed dirty rows first (first + BRANCH_LEAVES) (take BRANCH_NODES old) (drop BRANCH_NODES old) (take BRANCH_NODES new) (drop BRANCH_NODES new)
        (omega (arith, taken)) (omega (arith, taken)) front back))
  ]

  pub all-refreshed : (old new : List (List ℕ)) → AreWhole (length old) → length new ≡ length old
      → ((n : ℕ) → n * BRANCH_NODES < length old → AreRefreshed dirty rows (n * BRANCH_LEAVES) (slice_chunk old BRANCH_NODES n) (slice_chunk new BRANCH_NODES n)) → AreRefreshed dirty rows 0 old new
  all-refreshed old new whole len each = refreshed-to (length old) 0 old new (omega arith) whole len (λ n small.
      let e : n * BRANCH_LEAVES ≡ 0 + n * BRANCH_LEAVES = omega arith in
      subst (λ f. AreRefreshed dirty rows f (slice_chunk old BRANCH_NODES n) (slice_chunk new BRANCH_NODES n)) e (each n small))
