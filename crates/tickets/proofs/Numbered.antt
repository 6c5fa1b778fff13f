-- The entries of all workers, by number.
use Rattle.std.proofs.Common.{◌≡◌, ◌≢◌, ℕ, suc, ◌+◌, ◌<◌, ◌≤◌, Bool, ◌==◌, if◌then◌else◌, List, [], ◌∷◌, Some, slice_get, sum_by, refl, ap, arith, eq-eqb, ne_eqb}
use Rattle.std.proofs.lemmas.List.Sums.{sum_by-cons}
use mathlib.Core.Option.{some}
use mathlib.Core.Logic.{dite}
use native.Mathlib.Decide.{ℕ_discrete}
use lib.ListN.{get_elem?}
use Rattle.tickets.specs.declared.entry.Entry.{Entry}
use Rattle.tickets.proofs.Lists.{sum-two, sum-at, get_back}

-- how much more an entry weighs where it is that of worker k
abbrev is_of : ℕ → Entry → ℕ
is_of k e = if e.worker == k then 1 else 0

is_one : (e : Entry) (k : ℕ) → e.worker ≡ k → is_of k e ≡ 1
is_one e k is = ap (λ (b : Bool). if b then 1 else 0) (eq-eqb e.worker k is)

is_zero : (e : Entry) (k : ℕ) → e.worker ≢ k → is_of k e ≡ 0
is_zero e k ne = ap (λ (b : Bool). if b then 1 else 0) (ne_eqb e.worker k ne)

-- the workers are numbered from j on
abbrev pub IsNumbered : ℕ → List Entry → Type 0
IsNumbered j l = (i : ℕ) (e : Entry) → slice_get l i ≡ Some e → e.worker ≡ j + i

tail : (j : ℕ) (x : Entry) (xs : List Entry) → IsNumbered j (x ∷ xs) → IsNumbered (suc j) xs
tail j x xs n i e at = let h = n (suc i) e at in omega arith

none_before : (k j : ℕ) (l : List Entry) → IsNumbered j l → k < j → sum_by (is_of k) l ≡ 0
none_before k j [] n lt = refl
none_before k j (x ∷ xs) n lt = let h = n 0 x refl in let z = is_zero x k (λ e. omega arith) in omega (arith, sum_by-cons (is_of k) x xs, none_before k (suc j) xs (tail j x xs n) (omega arith))

at_most_one : (k j : ℕ) (l : List Entry) → IsNumbered j l → sum_by (is_of k) l ≤ 1
at_most_one k j [] n = omega arith
at_most_one k j (x ∷ xs) n = let h = n 0 x refl in dite (ℕ_discrete j k)
    (λ e. let z = is_one x k (omega arith) in omega (arith, sum_by-cons (is_of k) x xs, none_before k (suc j) xs (tail j x xs n) (omega arith)))
    (λ ne. let z = is_zero x k (λ e. ne (omega arith)) in omega (arith, sum_by-cons (is_of k) x xs, at_most_one k (suc j) xs (tail j x xs n)))

in_view : (k : ℕ) (v : List Entry) (i : ℕ) (e : Entry) → slice_get v i ≡ Some e → e.worker ≡ k → 1 ≤ sum_by (is_of k) v
in_view k v i e at is = let h = sum-at (is_of k) v i e at in let o = is_one e k is in omega arith

-- no worker has entries in two views
pub apart : (views : List (List Entry)) (entries : List Entry) → IsNumbered 0 entries → ((weight : Entry → ℕ) → sum_by (λ (v : List Entry). sum_by weight v) views ≡ sum_by weight entries)
    → (s t : ℕ) (v u : List Entry) (i j : ℕ) (e f : Entry) → s ≢ t → get_elem? views s ≡ some v → get_elem? views t ≡ some u → slice_get v i ≡ Some e → slice_get u j ≡ Some f → e.worker ≢ f.worker
apart views entries numbered weights s t v u i j e f ne at_s at_t at_e at_f same =
    let k : ℕ = f.worker in
    let one = at_most_one k 0 entries numbered in
    let total = weights (is_of k) in
    let a = in_view k v i e at_e same in
    let b = in_view k u j f at_f refl in
    let two = sum-two (λ (x : List Entry). sum_by (is_of k) x) views s t v u ne (get_back views s v at_s) (get_back views t u at_t) in
    omega arith
