-- Lists by places, and sums over them.
use Rattle.std.proofs.Common.{◌≡◌, ◌≢◌, ◌⊎◌, inl, inr, ⊎_elim, ℕ, zero, suc, ◌+◌, ◌<◌, ◌≤◌, ◌==◌, cond, List, [], ◌∷◌, ◌++◌, length, get_or, set, replicate, Some, slice_get, sum_by, All, refl, sym, ap, subst, arith}
use Rattle.std.specs.List.{Any}
use Rattle.std.proofs.lemmas.List.Sums.{sum_by-cons, sum_by_push}
use Rattle.std.proofs.lemmas.Bool.Decides.{nat_tests}
use mathlib.Core.Option.{some, some-injective, some-ne-none}
use lib.ListN.{get_elem?}
use Rattle.tickets.specs.Once.{times, once_below}

-- ---- what stands at a place
module _ {A : Type 0} where
  pub Some-injective : (a b : A) → Some a ≡ Some b → a ≡ b
  Some-injective a b e = cc

  pub get_to : (l : List A) (j : ℕ) (a : A) → slice_get l j ≡ Some a → get_elem? l j ≡ some a
  get_to [] j a e = cc
  get_to (x ∷ xs) zero a e = ap some (Some-injective x a e)
  get_to (x ∷ xs) (suc j) a e = get_to xs j a e

  pub get_back : (l : List A) (j : ℕ) (a : A) → get_elem? l j ≡ some a → slice_get l j ≡ Some a
  get_back [] j a e = absurd (some-ne-none a (sym e))
  get_back (x ∷ xs) zero a e = ap Some (some-injective x a e)
  get_back (x ∷ xs) (suc j) a e = get_back xs j a e

  pub get-below : (l : List A) (j : ℕ) (a : A) → slice_get l j ≡ Some a → j < length l
  get-below [] j a e = cc
  get-below (x ∷ xs) zero a e = omega arith
  get-below (x ∷ xs) (suc j) a e = let h = get-below xs j a e in omega arith

  pub get_there : (l : List A) (i : ℕ) → i < length l → (a : A) × (slice_get l i ≡ Some a)
  get_there [] i h = absurd (omega arith)
  get_there (x ∷ xs) zero h = (x, refl)
  get_there (x ∷ xs) (suc i) h = get_there xs i (omega arith)

  pub get_read : (l : List A) (j : ℕ) (a d : A) → slice_get l j ≡ Some a → get_or l j d ≡ a
  get_read [] j a d e = cc
  get_read (x ∷ xs) zero a d e = Some-injective x a e
  get_read (x ∷ xs) (suc j) a d e = get_read xs j a d e

  pub get-replicate : (n : ℕ) (x : A) (j : ℕ) (a : A) → slice_get (replicate n x) j ≡ Some a → x ≡ a
  get-replicate zero x j a e = cc
  get-replicate (suc n) x zero a e = Some-injective x a e
  get-replicate (suc n) x (suc j) a e = get-replicate n x j a e

  pub replicate_there : (n : ℕ) (x : A) (j : ℕ) → j < n → slice_get (replicate n x) j ≡ Some x
  replicate_there zero x j h = absurd (omega arith)
  replicate_there (suc n) x zero h = refl
  replicate_there (suc n) x (suc j) h = replicate_there n x j (omega arith)

-- ---- after a write or a push
module _ {A : Type 0} where
  pub get-set : (l : List A) (i j : ℕ) (a b : A) → slice_get (set l i a) j ≡ Some b → ((j ≡ i) × (a ≡ b)) ⊎ ((j ≢ i) × (slice_get l j ≡ Some b))
  get-set [] i j a b e = cc
  get-set (x ∷ xs) zero zero a b e = inl (refl, Some-injective a b e)
  get-set (x ∷ xs) zero (suc j) a b e = inr ((λ h. omega arith), e)
  get-set (x ∷ xs) (suc i) zero a b e = inr ((λ h. omega arith), e)
  get-set (x ∷ xs) (suc i) (suc j) a b e = ⊎_elim
      (λ (t : (j ≡ i) × (a ≡ b)). inl (ap suc t.0, t.1))
      (λ (t : (j ≢ i) × (slice_get xs j ≡ Some b)). let n = t.0 in inr ((λ h. n (omega arith)), t.1))
      (get-set xs i j a b e)

  pub get-set_same : (l : List A) (k : ℕ) (a b : A) → slice_get l k ≡ Some a → slice_get (set l k b) k ≡ Some b
  get-set_same [] k a b e = cc
  get-set_same (x ∷ xs) zero a b e = refl
  get-set_same (x ∷ xs) (suc k) a b e = get-set_same xs k a b e

  pub get-set_other : (l : List A) (k j : ℕ) (b : A) → j ≢ k → slice_get (set l k b) j ≡ slice_get l j
  get-set_other [] k j b n = refl
  get-set_other (x ∷ xs) zero zero b n = absurd (n refl)
  get-set_other (x ∷ xs) zero (suc j) b n = refl
  get-set_other (x ∷ xs) (suc k) zero b n = refl
  get-set_other (x ∷ xs) (suc k) (suc j) b n = get-set_other xs k j b (λ e. n (ap suc e))

  pub get-push : (l : List A) (a b : A) (j : ℕ) → slice_get (l ++ a ∷ []) j ≡ Some b → (slice_get l j ≡ Some b) ⊎ ((j ≡ length l) × (a ≡ b))
  get-push [] a b zero e = inr (refl, Some-injective a b e)
  get-push [] a b (suc j) e = cc
  get-push (x ∷ xs) a b zero e = inl e
  get-push (x ∷ xs) a b (suc j) e = ⊎_elim
      (λ (t : slice_get xs j ≡ Some b). inl t)
      (λ (t : (j ≡ length xs) × (a ≡ b)). inr (ap suc t.0, t.1))
      (get-push xs a b j e)

-- ---- facts of all elements and of some
module _ {A : Type 0} where
  pub All-from_get : (P : A → Type 0) (l : List A) → ((i : ℕ) (a : A) → slice_get l i ≡ Some a → P a) → All P l
  All-from_get P l h i d low = let t = get_there l i low in subst P (sym (get_read l i t.0 d t.1)) (h i t.0 t.1)

  pub get_from_All : (P : A → Type 0) (l : List A) → All P l → (i : ℕ) (a : A) → slice_get l i ≡ Some a → P a
  get_from_All P l all i a e = subst P (get_read l i a a e) (all i a (get-below l i a e))

  pub Any-from_get : (P : A → Type 0) (l : List A) (i : ℕ) (a : A) → slice_get l i ≡ Some a → P a → Any P l
  Any-from_get P l i a e p = (i, a, get-below l i a e, get_read l i a a e, p)

-- ---- sums
module _ {A : Type 0} where
  -- the sum after a write of one element
  pub sum-set : (f : A → ℕ) (l : List A) (i : ℕ) (a b : A) → slice_get l i ≡ Some a → sum_by f (set l i b) + f a ≡ sum_by f l + f b
  sum-set f [] i a b e = cc
  sum-set f (x ∷ xs) zero a b e = let s : f x ≡ f a = ap f (Some-injective x a e) in omega (arith, sum_by-cons f x xs, sum_by-cons f b xs)
  sum-set f (x ∷ xs) (suc i) a b e = omega (arith, sum_by-cons f x xs, sum_by-cons f x (set xs i b), sum-set f xs i a b e)

  pub sum-at : (f : A → ℕ) (l : List A) (i : ℕ) (a : A) → slice_get l i ≡ Some a → f a ≤ sum_by f l
  sum-at f [] i a e = cc
  sum-at f (x ∷ xs) zero a e = let s : f x ≡ f a = ap f (Some-injective x a e) in omega (arith, sum_by-cons f x xs)
  sum-at f (x ∷ xs) (suc i) a e = omega (arith, sum_by-cons f x xs, sum-at f xs i a e)

  -- two elements count for both
  pub sum-two : (f : A → ℕ) (l : List A) (i j : ℕ) (a b : A) → i ≢ j → slice_get l i ≡ Some a → slice_get l j ≡ Some b → f a + f b ≤ sum_by f l
  sum-two f [] i j a b n e h = cc
  sum-two f (x ∷ xs) zero zero a b n e h = absurd (n refl)
  sum-two f (x ∷ xs) zero (suc j) a b n e h = let s : f x ≡ f a = ap f (Some-injective x a e) in omega (arith, sum_by-cons f x xs, sum-at f xs j b h)
  sum-two f (x ∷ xs) (suc i) zero a b n e h = let s : f x ≡ f b = ap f (Some-injective x b h) in omega (arith, sum_by-cons f x xs, sum-at f xs i a e)
  sum-two f (x ∷ xs) (suc i) (suc j) a b n e h = omega (arith, sum_by-cons f x xs, sum-two f xs i j a b (λ q. n (ap suc q)) e h)

  pub sum-replicate_zero : (f : A → ℕ) (n : ℕ) (x : A) → f x ≡ 0 → sum_by f (replicate n x) ≡ 0
  sum-replicate_zero f zero x e = refl
  sum-replicate_zero f (suc n) x e = omega (arith, sum_by-cons f x (replicate n x), sum-replicate_zero f n x e)

  pub sum-zero : (f : A → ℕ) (l : List A) → ((i : ℕ) (a : A) → slice_get l i ≡ Some a → f a ≡ 0) → sum_by f l ≡ 0
  sum-zero f [] h = refl
  sum-zero f (x ∷ xs) h = let z = h 0 x refl in omega (arith, sum_by-cons f x xs, sum-zero f xs (λ i a at. h (suc i) a at))

pub times-push : (p : ℕ) (xs : List ℕ) (x : ℕ) → times p (xs ++ x ∷ []) ≡ times p xs + cond (x == p) 1 0
times-push p xs x = sum_by_push (λ y. cond (y == p) 1 0) xs x

pub once_below-more : (n p : ℕ) → once_below (n + 1) p ≡ once_below n p + cond (n == p) 1 0
once_below-more n p = grind (arith, nat_tests)

pub once_below-none : (p : ℕ) → once_below 0 p ≡ 0
once_below-none p = grind (arith, nat_tests)
