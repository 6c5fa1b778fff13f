-- Counting the elements of a list that pass a test, by their places.
use Rattle.std.proofs.Common.{◌≡◌, ℕ, zero, suc, ◌+◌, ◌<◌, ◌≤◌, List, [], ◌∷◌, length, get_or, cond, Bool, true, false, ◌&&◌, Some, None, refl, sym, ap, ◌∙◌, inl, inr, arith}
use Rattle.std.specs.List.{count_by, filter, find}
use Rattle.std.specs.Option.{option_map}
use Rattle.std.proofs.lemmas.Bool.{cases_Bool}
use Rattle.std.proofs.lemmas.List.Sums.{sum_by-cons}

module _ {X : Type 0} (test : X → Bool) where
  pub count_yes : (x : X) (xs : List X) → test x ≡ true → count_by test (x ∷ xs) ≡ 1 + count_by test xs
  count_yes x xs h = sum_by-cons (λ y. cond (test y) 1 0) x xs ∙ ap (λ b. cond b 1 0 + count_by test xs) h

  pub count_no : (x : X) (xs : List X) → test x ≡ false → count_by test (x ∷ xs) ≡ count_by test xs
  count_no x xs h =
      let whole : count_by test (x ∷ xs) ≡ 0 + count_by test xs = sum_by-cons (λ y. cond (test y) 1 0) x xs ∙ ap (λ b. cond b 1 0 + count_by test xs) h in
      omega arith

  -- where it passes just from low up to high
  pub count_by-range : (xs : List X) (low high : ℕ) → low ≤ high → high ≤ length xs
      → ((i : ℕ) (d : X) → i < low → test (get_or xs i d) ≡ false)
      → ((i : ℕ) (d : X) → low ≤ i → i < high → test (get_or xs i d) ≡ true)
      → ((i : ℕ) (d : X) → high ≤ i → i < length xs → test (get_or xs i d) ≡ false)
      → count_by test xs + low ≡ high
  count_by-range [] low high rising within below here above = omega arith
  count_by-range (x ∷ xs) zero zero rising within below here above =
      let more = count_by-range xs 0 0 (omega arith) (omega arith) (λ i d h. absurd (omega arith)) (λ i d g h. absurd (omega arith)) (λ i d g h. above (suc i) d (omega arith) (omega arith)) in
      let one = count_no x xs (above 0 x (omega arith) (omega arith)) in
      omega arith
  count_by-range (x ∷ xs) zero (suc high) rising within below here above =
      let more = count_by-range xs 0 high (omega arith) (omega arith) (λ i d h. absurd (omega arith)) (λ i d g h. here (suc i) d (omega arith) (omega arith)) (λ i d g h. above (suc i) d (omega arith) (omega arith)) in
      let one = count_yes x xs (here 0 x (omega arith) (omega arith)) in
      omega arith
  count_by-range (x ∷ xs) (suc low) zero rising within below here above = absurd (omega arith)
  count_by-range (x ∷ xs) (suc low) (suc high) rising within below here above =
      let more = count_by-range xs low high (omega arith) (omega arith) (λ i d h. below (suc i) d (omega arith)) (λ i d g h. here (suc i) d (omega arith) (omega arith)) (λ i d g h. above (suc i) d (omega arith) (omega arith)) in
      let one = count_no x xs (below 0 x (omega arith)) in
      omega arith

  count_rest : (x : X) (xs : List X) → count_by test xs ≤ count_by test (x ∷ xs)
  count_rest x xs = elim (cases_Bool (test x)) [
    | inl passed ↦ let one = count_yes x xs passed in omega arith
    | inr failed ↦ let one = count_no x xs failed in omega arith
  ]

  -- one that passes, and two
  pub one_counted : (xs : List X) (i : ℕ) (d : X) → i < length xs → test (get_or xs i d) ≡ true → 1 ≤ count_by test xs
  one_counted [] i d short passed = absurd (omega arith)
  one_counted (x ∷ xs) zero d short passed = let one = count_yes x xs passed in omega arith
  one_counted (x ∷ xs) (suc i) d short passed = let more = one_counted xs i d (omega arith) passed in let rest = count_rest x xs in omega arith

  pub two_counted : (xs : List X) (i j : ℕ) (d : X) → i < j → j < length xs → test (get_or xs i d) ≡ true → test (get_or xs j d) ≡ true → 2 ≤ count_by test xs
  two_counted [] i j d rising short first second = absurd (omega arith)
  two_counted (x ∷ xs) i zero d rising short first second = absurd (omega arith)
  two_counted (x ∷ xs) zero (suc j) d rising short first second =
      let one = count_yes x xs first in
      let more = one_counted xs j d (omega arith) second in
      omega arith
  two_counted (x ∷ xs) (suc i) (suc j) d rising short first second = let more = two_counted xs i j d (omega arith) (omega arith) first second in let rest = count_rest x xs in omega arith

  -- a place where it passes
  pub record PassesAt (xs : List X) : Type 0 where
    pub place : ℕ
    pub element : X
    pub within : place < length xs
    pub passes : (d : X) → test (get_or xs place d) ≡ true

  pub counted_at : (xs : List X) → 1 ≤ count_by test xs → PassesAt xs
  counted_at [] some = absurd (omega arith)
  counted_at (x ∷ xs) some = elim (cases_Bool (test x)) [
    | inl passed ↦ record { place = 0; element = x; within = omega arith; passes = λ d. passed }
    | inr failed ↦
        let one = count_no x xs failed in
        let later = counted_at xs (omega arith) in
        record { place = suc later.place; element = x; within = let h = later.within in omega arith; passes = later.passes }
  ]

  pub find-none : (xs : List X) → count_by test xs ≡ 0 → find test xs ≡ None
  find-none [] none = refl
  find-none (x ∷ xs) none = elim (cases_Bool (test x)) [
    | inl passed ↦ let one = count_yes x xs passed in absurd (omega arith)
    | inr failed ↦ ap (λ b. cond b (Some x) (find test xs)) failed ∙ find-none xs (let one = count_no x xs failed in omega arith)
  ]

  -- each that passes has this value
  pub find-value : {V : Type 0} (value : X → V) (v : V) (xs : List X) → 1 ≤ count_by test xs → ((i : ℕ) (d : X) → i < length xs → test (get_or xs i d) ≡ true → value (get_or xs i d) ≡ v) → option_map value (find test xs) ≡ Some v
  find-value value v [] some each = absurd (omega arith)
  find-value value v (x ∷ xs) some each = elim (cases_Bool (test x)) [
    | inl passed ↦ ap (λ b. option_map value (cond b (Some x) (find test xs))) passed ∙ ap (λ n. Some n) (each 0 x (omega arith) passed)
    | inr failed ↦
        let one = count_no x xs failed in
        ap (λ b. option_map value (cond b (Some x) (find test xs))) failed
        ∙ find-value value v xs (omega arith) (λ i d h g. each (suc i) d (omega arith) g)
  ]

-- what is left by a filter
module _ {X : Type 0} (keep test : X → Bool) where
  pub find-filter : (xs : List X) → find test (filter keep xs) ≡ find (λ x. keep x && test x) xs
  find-filter [] = refl
  find-filter (x ∷ xs) = elim (cases_Bool (keep x)) [
    | inl passed ↦ ap (λ b. find test (cond b (x ∷ filter keep xs) (filter keep xs))) passed ∙ ap (cond (test x) (Some x)) (find-filter xs) ∙ sym (ap (λ b. cond (b && test x) (Some x) (find (λ y. keep y && test y) xs)) passed)
    | inr failed ↦ ap (λ b. find test (cond b (x ∷ filter keep xs) (filter keep xs))) failed ∙ find-filter xs ∙ sym (ap (λ b. cond (b && test x) (Some x) (find (λ y. keep y && test y) xs)) failed)
  ]

  pub count_by-filter : (xs : List X) → count_by test (filter keep xs) ≡ count_by (λ x. keep x && test x) xs
  count_by-filter [] = refl
  count_by-filter (x ∷ xs) =
      let whole : count_by (λ y. keep y && test y) (x ∷ xs) ≡ cond (keep x && test x) 1 0 + count_by (λ y. keep y && test y) xs = sum_by-cons (λ y. cond (keep y && test y) 1 0) x xs in
      elim (cases_Bool (keep x)) [
        | inl passed ↦ ap (λ b. count_by test (cond b (x ∷ filter keep xs) (filter keep xs))) passed ∙ sum_by-cons (λ y. cond (test y) 1 0) x (filter keep xs) ∙ ap (λ n. cond (test x) 1 0 + n) (count_by-filter xs) ∙ sym (whole ∙ ap (λ b. cond (b && test x) 1 0 + count_by (λ y. keep y && test y) xs) passed)
        | inr failed ↦
            let rest : count_by (λ y. keep y && test y) (x ∷ xs) ≡ 0 + count_by (λ y. keep y && test y) xs = whole ∙ ap (λ b. cond (b && test x) 1 0 + count_by (λ y. keep y && test y) xs) failed in
            let same = ap (λ b. count_by test (cond b (x ∷ filter keep xs) (filter keep xs))) failed ∙ count_by-filter xs in
            omega arith
      ]
