-- The cut of the places so far, when one more is filed.
use Rattle.std.proofs.Common.{◌≡◌, ℕ, zero, suc, ◌+◌, ◌<◌, Bool, true, false, ◌==◌, if◌then◌else◌, List, [], ◌∷◌, ◌++◌, length, map, get_or, set, take, replicate, refl, sym, ap, ◌∙◌, arith}
use Rattle.std.proofs.lemmas.List.{append-nil, length-map, length-take-le, map-set, take_more}
use Rattle.std.proofs.Math.ListN.{get_or-map}
use Rattle.serializability.specs.Levels.{depth, places_from, at_level, cut_from}
use Rattle.serializability.proofs.Cuts.{at_same, at_other}

-- ---- the places of a level
module _ {X : Type 0} where
  either_more : (b : Bool) (y : X) (xs ys : List X) → (if b then y ∷ (xs ++ ys) else xs ++ ys) ≡ (if b then y ∷ xs else xs) ++ ys
  either_more true y xs ys = refl
  either_more false y xs ys = refl

  at_level_more : (level : ℕ) (xs : List (ℕ × X)) (x : ℕ × X) → at_level level (xs ++ x ∷ []) ≡ at_level level xs ++ at_level level (x ∷ [])
  at_level_more level [] x = refl
  at_level_more level (y ∷ xs) x =
      ap (λ rest. if y.0 == level then y.1 ∷ rest else rest) (at_level_more level xs x)
      ∙ either_more (y.0 == level) y.1 (at_level level xs) (at_level level (x ∷ []))

  here_more : (level : ℕ) (xs : List (ℕ × X)) (x : ℕ × X) → x.0 ≡ level → at_level level (xs ++ x ∷ []) ≡ at_level level xs ++ x.1 ∷ []
  here_more level xs x is = at_level_more level xs x ∙ ap (λ own. at_level level xs ++ own) (at_same level x [] is)

  elsewhere_more : (level : ℕ) (xs : List (ℕ × X)) (x : ℕ × X) → (x.0 ≡ level → ⊥) → at_level level (xs ++ x ∷ []) ≡ at_level level xs
  elsewhere_more level xs x other = at_level_more level xs x ∙ ap (λ own. at_level level xs ++ own) (at_other level x [] other) ∙ append-nil (at_level level xs)

  -- ---- the levels from one on
  cut_above : (first n : ℕ) (xs : List (ℕ × X)) (x : ℕ × X) → x.0 < first → cut_from first n (xs ++ x ∷ []) ≡ cut_from first n xs
  cut_above first zero xs x below = refl
  cut_above first (suc n) xs x below =
      λ i. elsewhere_more first xs x (λ is. omega (arith, is, below)) i ∷ cut_above (first + 1) n xs x (omega (arith, below)) i

  cut_more : (first n : ℕ) (xs : List (ℕ × X)) (x : ℕ × X) (k : ℕ) (d : List X) → x.0 ≡ first + k → k < n
      → cut_from first n (xs ++ x ∷ []) ≡ set (cut_from first n xs) k (get_or (cut_from first n xs) k d ++ x.1 ∷ [])
  cut_more first zero xs x k d is within = absurd (omega (arith, within))
  cut_more first (suc n) xs x zero d is within =
      λ i. here_more first xs x (omega (arith, is)) i ∷ cut_above (first + 1) n xs x (omega (arith, is)) i
  cut_more first (suc n) xs x (suc k) d is within =
      λ i. elsewhere_more first xs x (λ here. omega (arith, is, here)) i ∷ cut_more (first + 1) n xs x k d (omega (arith, is)) (omega (arith, within)) i

  pub cut_none : (first n : ℕ) → cut_from {X = X} first n [] ≡ replicate n []
  cut_none first zero = refl
  cut_none first (suc n) = ap (λ rest. [] ∷ rest) (cut_none (first + 1) n)

  length-cut : (first n : ℕ) (xs : List (ℕ × X)) → length (cut_from first n xs) ≡ n
  length-cut first zero xs = refl
  length-cut first (suc n) xs = ap suc (length-cut (first + 1) n xs)

-- ---- places and levels
places_push : (place : ℕ) (levels : List ℕ) (level : ℕ) → places_from place (levels ++ level ∷ []) ≡ places_from place levels ++ (level, place + length levels) ∷ []
places_push place [] level =
    let same : place ≡ place + 0 = omega arith in
    ap (λ n. (level, n) ∷ []) same
places_push place (own ∷ levels) level =
    let same : place + 1 + length levels ≡ place + suc (length levels) = omega arith in
    ap (λ rest. (own, place) ∷ rest) (places_push (place + 1) levels level ∙ ap (λ n. places_from (place + 1) levels ++ (level, n) ∷ []) same)

places_more : (levels : List ℕ) (i d : ℕ) → i < length levels → places_from 0 (take (i + 1) levels) ≡ places_from 0 (take i levels) ++ (get_or levels i d, i) ∷ []
places_more levels i d within =
    let long : 0 + length (take i levels) ≡ i = omega (arith, length-take-le i levels (omega (arith, within))) in
    ap (places_from 0) (take_more levels i d within)
    ∙ places_push 0 (take i levels) (get_or levels i d)
    ∙ ap (λ n. places_from 0 (take i levels) ++ (get_or levels i d, n) ∷ []) long

pub below_depth : (levels : List ℕ) (i d : ℕ) → i < length levels → get_or levels i d < depth levels
below_depth [] i d within = absurd (omega (arith, within))
below_depth (level ∷ levels) zero d within = omega arith
below_depth (level ∷ levels) (suc i) d within =
    let rest : get_or levels i d < depth levels = below_depth levels i d (omega (arith, within)) in
    omega (arith, rest)

-- ---- the levels that are filled
module _ {V : Type 0} (view : V → List ℕ) where
  pub filled_length : (filled : List V) (count : ℕ) (places : List (ℕ × ℕ)) → map view filled ≡ cut_from 0 count places → length filled ≡ count
  filled_length filled count places is = sym (length-map filled view) ∙ ap length is ∙ length-cut 0 count places

  -- one more place behind those of its level
  pub filled_more : (filled more : List V) (held pushed : V) (levels : List ℕ) (i d count : ℕ) → i < length levels → get_or levels i d < count
      → held ≡ get_or filled (get_or levels i d) held → more ≡ set filled (get_or levels i d) pushed → view pushed ≡ view held ++ i ∷ []
      → map view filled ≡ cut_from 0 count (places_from 0 (take i levels)) → map view more ≡ cut_from 0 count (places_from 0 (take (i + 1) levels))
  filled_more filled more held pushed levels i d count within low read grown push is =
      let level : ℕ = get_or levels i d in
      let cut : List (List ℕ) = cut_from 0 count (places_from 0 (take i levels)) in
      let was : view held ≡ get_or cut level (view held) = ap view read ∙ sym (get_or-map view filled level held) ∙ ap (λ c. get_or c level (view held)) is in
      ap (map view) grown
      ∙ map-set view filled level pushed
      ∙ (λ j. set (is j) level (push j))
      ∙ ap (λ v. set cut level (v ++ i ∷ [])) was
      ∙ sym (cut_more 0 count (places_from 0 (take i levels)) (level, i) level (view held) (omega arith) low)
      ∙ ap (cut_from 0 count) (sym (places_more levels i d within))
