-- The cut of a batch has each of its places once, in rising order in its level, and no level without a place.
use Rattle.std.proofs.Common.{◌≡◌, ◌⊎◌, ℕ, zero, suc, ◌+◌, ◌<◌, ◌≤◌, Bool, max, List, [], ◌∷◌, ◌++◌, length, get_or, Some, slice_get, slice_index, refl, sym, ap, ◌∙◌, subst, inl, inr, arith}
use Rattle.std.proofs.lemmas.Bool.{cases_Bool, cases_eq, cond-true, cond-false}
use Rattle.std.proofs.lemmas.Option.{none-some, same_Some, slice_get_within, slice_get-get_or}
use Rattle.std.specs.List.Sorted.{IsStrictlyIncreasing}
use Rattle.serializability.specs.Footprints.{Has}
use Rattle.serializability.specs.Levels.{at_level, cut, cut_from, depth, level_after, levels, levels_after, places_from}
use Rattle.serializability.proofs.Cuts.{at_other, at_same}
use Rattle.serializability.proofs.Footprints.{Has-append, Has-either}
use Rattle.serializability.proofs.LevelNumbers.{length-levels_after}
use Rattle.executor.specs.LevelRuns.{IsCutOf}

-- ---- the places of a level
-- the first of these has this place; q is the place of one that has the level
place_of : (l p : ℕ) (ls : List ℕ) (q : ℕ) → Has (at_level l (places_from p ls)) q → (i : ℕ) × (q ≡ p + i) × (slice_get ls i ≡ Some l)
place_of l p [] q h = absurd h
place_of l p (m ∷ ls) q h = elim (cases_eq m l) [
  | inl same ↦ elim (subst (λ places. Has places q) (at_same l (m, p) (places_from (p + 1) ls) same) h) [
    | inl e ↦ (0, (let z : q ≡ p + 0 = omega (arith, e) in z), ap Some same)
    | inr g ↦ later (place_of l (p + 1) ls q g)
  ]
  | inr ne ↦ later (place_of l (p + 1) ls q (subst (λ places. Has places q) (at_other l (m, p) (places_from (p + 1) ls) ne) h))
]
  where
    later : (i : ℕ) × (q ≡ (p + 1) + i) × (slice_get ls i ≡ Some l) → (i : ℕ) × (q ≡ p + i) × (slice_get (m ∷ ls) i ≡ Some l)
    later r = (suc r.0, (let e : q ≡ (p + 1) + r.0 = r.1 in let z : q ≡ p + suc r.0 = omega (arith, e) in z), r.2)

has_place : (l p : ℕ) (ls : List ℕ) (i : ℕ) → slice_get ls i ≡ Some l → Has (at_level l (places_from p ls)) (p + i)
has_place l p [] i e = absurd (none-some l e)
has_place l p (m ∷ ls) zero e =
    subst (λ places. Has places (p + 0)) (sym (at_same l (m, p) (places_from (p + 1) ls) (same_Some m l e))) (inl (let z : p ≡ p + 0 = omega arith in z))
has_place l p (m ∷ ls) (suc i) e =
    let g : Has (at_level l (places_from (p + 1) ls)) (p + suc i) = subst (Has (at_level l (places_from (p + 1) ls))) (let z : (p + 1) + i ≡ p + suc i = omega arith in z) (has_place l (p + 1) ls i e) in
    elim (cases_eq m l) [
      | inl same ↦ subst (λ places. Has places (p + suc i)) (sym (at_same l (m, p) (places_from (p + 1) ls) same)) (inr g)
      | inr ne ↦ subst (λ places. Has places (p + suc i)) (sym (at_other l (m, p) (places_from (p + 1) ls) ne)) g
    ]

-- ---- the levels of a cut
level_of_cut : (l n : ℕ) (xs : List (ℕ × ℕ)) (k : ℕ) (places : List ℕ) → slice_get (cut_from l n xs) k ≡ Some places → (k < n) × (places ≡ at_level (l + k) xs)
level_of_cut l zero xs k places e = absurd (none-some places e)
level_of_cut l (suc n) xs zero places e = (omega arith, sym (same_Some _ _ e) ∙ ap (λ m. at_level m xs) (let z : l ≡ l + 0 = omega arith in z))
level_of_cut l (suc n) xs (suc k) places e =
    let r = level_of_cut (l + 1) n xs k places e in
    (let low : k < n = r.0 in omega (arith, low), r.1 ∙ ap (λ m. at_level m xs) (let z : (l + 1) + k ≡ l + suc k = omega arith in z))

cut_at_level : (l n : ℕ) (xs : List (ℕ × ℕ)) (k : ℕ) → k < n → slice_get (cut_from l n xs) k ≡ Some (at_level (l + k) xs)
cut_at_level l zero xs k h = absurd (omega (arith, h))
cut_at_level l (suc n) xs zero h = ap (λ m. Some (at_level m xs)) (let z : l ≡ l + 0 = omega arith in z)
cut_at_level l (suc n) xs (suc k) h =
    cut_at_level (l + 1) n xs k (omega (arith, h)) ∙ ap (λ m. Some (at_level m xs)) (let z : (l + 1) + k ≡ l + suc k = omega arith in z)

-- each level is below the depth, and below the depth there is a level as great
below_depth : (ls : List ℕ) (i l : ℕ) → slice_get ls i ≡ Some l → l < depth ls
below_depth [] i l e = absurd (none-some l e)
below_depth (m ∷ ls) zero l e = let same : m ≡ l = same_Some m l e in omega (arith, same)
below_depth (m ∷ ls) (suc i) l e = let low : l < depth ls = below_depth ls i l e in omega (arith, low)

as_great : (ls : List ℕ) (l : ℕ) → l < depth ls → (i : ℕ) × (k : ℕ) × (slice_get ls i ≡ Some k) × (l ≤ k)
as_great [] l h = absurd (omega (arith, h))
as_great (m ∷ ls) l h =
    let either : (l ≤ m) ⊎ (l < depth ls) = grind (arith, h) in
    elim either [
      | inl low ↦ (0, m, refl, low)
      | inr low ↦ let r = as_great ls l low in (suc r.0, r.1, r.2, r.3)
    ]

-- ---- below each level of a batch there are all lower ones
module _ {F : Type 0} (meets : F → F → Bool) where
  -- one of those done has this level
  abbrev HasLevel : List (ℕ × F) → ℕ → Type 0
  HasLevel done l = (d : ℕ × F) × Has done d × (d.0 ≡ l)

  abbrev AreClosed : List (ℕ × F) → Type 0
  AreClosed done = (d : ℕ × F) (l : ℕ) → Has done d → l < d.0 → HasLevel done l

  as_great_done : (done : List (ℕ × F)) (f : F) (l : ℕ) → l < level_after meets done f → (d : ℕ × F) × Has done d × (l ≤ d.0)
  as_great_done [] f l h = absurd (omega (arith, h))
  as_great_done (c ∷ done) f l h = elim (cases_Bool (meets c.1 f)) [
    | inl t ↦
        let high : l < max (c.0 + 1) (level_after meets done f) = subst (λ n. l < n) (cond-true (meets c.1 f) (max (c.0 + 1) (level_after meets done f)) (level_after meets done f) t) h in
        let either : (l ≤ c.0) ⊎ (l < level_after meets done f) = grind (arith, high) in
        elim either [ inl low ↦ (c, inl refl, low) | inr low ↦ later (as_great_done done f l low) ]
    | inr t ↦ later (as_great_done done f l (subst (λ n. l < n) (cond-false (meets c.1 f) (max (c.0 + 1) (level_after meets done f)) (level_after meets done f) t) h))
  ]
    where
      later : (d : ℕ × F) × Has done d × (l ≤ d.0) → (d : ℕ × F) × Has (c ∷ done) d × (l ≤ d.0)
      later r = (r.0, inr r.1, r.2)

  lower_done : (done : List (ℕ × F)) (f : F) (l : ℕ) → AreClosed done → l < level_after meets done f → HasLevel done l
  lower_done done f l closed h =
      let r = as_great_done done f l h in
      let either : (r.0.0 ≡ l) ⊎ (l < r.0.0) = (let low : l ≤ r.0.0 = r.2 in grind (arith, low)) in
      elim either [ inl same ↦ (r.0, r.1, same) | inr low ↦ closed r.0 l r.1 low ]

  closed_more : (done : List (ℕ × F)) (f : F) → AreClosed done → AreClosed (done ++ (level_after meets done f, f) ∷ [])
  closed_more done f closed d l has low =
      elim (Has-either done ((level_after meets done f, f) ∷ []) d has) [
        | inl before ↦ more (closed d l before low)
        | inr last ↦ more (lower_done done f l closed (elim last [ inl same ↦ subst (λ (e : ℕ × F). l < e.0) (sym same) low | inr none ↦ absurd none ]))
      ]
    where
      more : HasLevel done l → HasLevel (done ++ (level_after meets done f, f) ∷ []) l
      more r = (r.0, Has-append done ((level_after meets done f, f) ∷ []) r.0 r.1, r.2)

  lower_level : (done : List (ℕ × F)) (fs : List F) (i k l : ℕ) → AreClosed done → slice_get (levels_after meets done fs) i ≡ Some k → l < k
      → HasLevel done l ⊎ ((j : ℕ) × (slice_get (levels_after meets done fs) j ≡ Some l))
  lower_level done [] i k l closed e low = absurd (none-some k e)
  lower_level done (f ∷ fs) zero k l closed e low = inl (lower_done done f l closed (subst (λ n. l < n) (sym (same_Some _ _ e)) low))
  lower_level done (f ∷ fs) (suc i) k l closed e low =
      elim (lower_level (done ++ (level_after meets done f, f) ∷ []) fs i k l (closed_more done f closed) e low) [
        | inl r ↦ elim (Has-either done ((level_after meets done f, f) ∷ []) r.0 r.1) [
          | inl before ↦ inl (r.0, before, r.2)
          | inr last ↦ elim last [ inl same ↦ inr (0, ap Some (ap (λ (x : ℕ × F). x.0) same ∙ r.2)) | inr none ↦ absurd none ]
        ]
        | inr r ↦ inr (suc r.0, r.1)
      ]

  -- each level below the depth is that of some place
  each_level : (fs : List F) (l : ℕ) → l < depth (levels meets fs) → (j : ℕ) × (slice_get (levels meets fs) j ≡ Some l)
  each_level fs l h =
      let r = as_great (levels meets fs) l h in
      let either : (r.1 ≡ l) ⊎ (l < r.1) = (let low : l ≤ r.1 = r.3 in grind (arith, low)) in
      elim either [
        | inl same ↦ (r.0, r.2 ∙ ap Some same)
        | inr low ↦ elim (lower_level [] fs r.0 r.1 l (λ d m has less. absurd has) r.2 low) [ inl none ↦ absurd none.1 | inr j ↦ j ]
      ]

-- ---- the order of a level's places
increasing-cons : (x : ℕ) (xs : List ℕ) → ((y : ℕ) → Has xs y → x < y) → IsStrictlyIncreasing xs → IsStrictlyIncreasing (x ∷ xs)
increasing-cons x [] above rises k h = absurd (omega (arith, h))
increasing-cons x (y ∷ ys) above rises zero h = above y (inl refl)
increasing-cons x (y ∷ ys) above rises (suc k) h =
    subst (λ n. slice_index (y ∷ ys) k < slice_index (x ∷ y ∷ ys) n) (let z : suc (k + 1) ≡ suc k + 1 = omega arith in z) (rises k (omega (arith, h)))

rising : (l p : ℕ) (ls : List ℕ) → IsStrictlyIncreasing (at_level l (places_from p ls))
rising l p [] = λ k h. absurd (omega (arith, h))
rising l p (m ∷ ls) = elim (cases_eq m l) [
  | inl same ↦ subst IsStrictlyIncreasing (sym (at_same l (m, p) (places_from (p + 1) ls) same)) (increasing-cons p (at_level l (places_from (p + 1) ls)) above (rising l (p + 1) ls))
  | inr ne ↦ subst IsStrictlyIncreasing (sym (at_other l (m, p) (places_from (p + 1) ls) ne)) (rising l (p + 1) ls)
]
  where
    above : (y : ℕ) → Has (at_level l (places_from (p + 1) ls)) y → p < y
    above y has = let r = place_of l (p + 1) ls y has in let e : y ≡ (p + 1) + r.0 = r.1 in omega (arith, e)

no_longer : (l p : ℕ) (ls : List ℕ) → length (at_level l (places_from p ls)) ≤ length ls
no_longer l p [] = omega arith
no_longer l p (m ∷ ls) =
    let rest : length (at_level l (places_from (p + 1) ls)) ≤ length ls = no_longer l (p + 1) ls in
    elim (cases_eq m l) [
      | inl same ↦ subst (λ places. length places ≤ length (m ∷ ls)) (sym (at_same l (m, p) (places_from (p + 1) ls) same)) (omega (arith, rest))
      | inr ne ↦ subst (λ places. length places ≤ length (m ∷ ls)) (sym (at_other l (m, p) (places_from (p + 1) ls) ne)) (omega (arith, rest))
    ]

not_empty : (places : List ℕ) (q : ℕ) → Has places q → 1 ≤ length places
not_empty [] q h = absurd h
not_empty (p ∷ places) q h = omega arith

-- ---- the law
module _ {F : Type 0} (meets : F → F → Bool) (fs : List F) where
  abbrev batch_cut : List (List ℕ)
  batch_cut = cut (levels meets fs)

  -- a level of the cut
  cut_level : (k : ℕ) (places : List ℕ) → slice_get batch_cut k ≡ Some places → (k < depth (levels meets fs)) × (places ≡ at_level k (places_from 0 (levels meets fs)))
  cut_level k places e =
      let r = level_of_cut 0 (depth (levels meets fs)) (places_from 0 (levels meets fs)) k places e in
      (r.0, r.1 ∙ ap (λ m. at_level m (places_from 0 (levels meets fs))) (let z : 0 + k ≡ k = omega arith in z))

  -- a place of the level has that level
  level_of_place : (k : ℕ) (places : List ℕ) (q : ℕ) → slice_get batch_cut k ≡ Some places → Has places q → slice_get (levels meets fs) q ≡ Some k
  level_of_place k places q e has =
      let r = place_of k 0 (levels meets fs) q (subst (λ ps. Has ps q) (cut_level k places e).1 has) in
      ap (slice_get (levels meets fs)) (let same : q ≡ 0 + r.0 = r.1 in let z : q ≡ r.0 = omega (arith, same) in z) ∙ r.2

  -- and what has the level is a place of it
  place_at_level : (k q : ℕ) → slice_get (levels meets fs) q ≡ Some k → (slice_get batch_cut k ≡ Some (at_level k (places_from 0 (levels meets fs)))) × Has (at_level k (places_from 0 (levels meets fs))) q
  place_at_level k q e = (
    cut_at_level 0 (depth (levels meets fs)) (places_from 0 (levels meets fs)) k (below_depth (levels meets fs) q k e) ∙ ap (λ m. Some (at_level m (places_from 0 (levels meets fs)))) (let z : 0 + k ≡ k = omega arith in z),
    subst (Has (at_level k (places_from 0 (levels meets fs)))) (let z : 0 + q ≡ q = omega arith in z) (has_place k 0 (levels meets fs) q e),
  )

  pub is_cut : IsCutOf (length fs) batch_cut
  is_cut = record {
    there = λ place h. (
        let level = get_or (levels meets fs) place 0 in
        let r = place_at_level level place (slice_get-get_or (levels meets fs) place 0 (subst (λ n. place < n) (sym (length-levels_after meets [] fs)) h)) in
        (level, at_level level (places_from 0 (levels meets fs)), r.0, r.1));
    below = λ level place places e has. subst (λ n. place < n) (length-levels_after meets [] fs) (slice_get_within (levels meets fs) place level (level_of_place level places place e has));
    once = λ k l place ps qs e f has other. same_Some k l (sym (level_of_place k ps place e has) ∙ level_of_place l qs place f other);
    rising = λ level places e. subst IsStrictlyIncreasing (sym (cut_level level places e).1) (rising level 0 (levels meets fs));
    filled = λ level places e. (
        let j = each_level meets fs level (cut_level level places e).0 in
        not_empty places j.0 (subst (λ ps. Has ps j.0) (sym (cut_level level places e).1) (place_at_level level j.0 j.1).1));
    short = λ level places e. subst (λ n. length places ≤ n) (length-levels_after meets [] fs) (subst (λ ps. length ps ≤ length (levels meets fs)) (sym (cut_level level places e).1) (no_longer level 0 (levels meets fs)));
  }
