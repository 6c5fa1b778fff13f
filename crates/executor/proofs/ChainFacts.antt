-- The states of a chain, as what is kept at points.
use Rattle.std.proofs.Common.{◌≡◌, ◌≢◌, ◌<◌, ◌≤◌, ◌+◌, ◌-◌, ◌↔◌, Result, Ok, Err, IsErr, IsOk, OnOk, ℕ, zero, suc, Bool, true, false, cond, not, ◌==◌, inl, inr, List, [], ◌∷◌, ◌++◌, length, map, min, take, drop, get_or, Some, None, nat_lt, slice_get, refl, ap, sym, subst, ◌∙◌, arith}
use Rattle.std.proofs.lemmas.Bool.{cases_Bool, eq-eqb, eqb-true, ltb-false, ltb-true}
use Rattle.std.proofs.lemmas.Bool.Decides.{nat_tests}
use Rattle.std.proofs.lemmas.List.{length-drop, length-take, length_push}
use Rattle.std.proofs.lemmas.List.Elements.{All-drop, All-take}
use Rattle.std.proofs.lemmas.List.Sums.{prefix_len_passes, prefix_len_stops}
use Rattle.std.proofs.lemmas.Option.{get_or_from_slice_get, slice_get_within}
use Rattle.std.specs.List.{All, position, position_or_len}
use Rattle.tpcc_model.specs.Serial.{State}
use Rattle.tpcc_rows.specs.RowMap.{Rows}
use Rattle.executor.specs.Chains.{state_of, states_of}
use Rattle.executor.specs.declared.stamp.Stamp.{Stamp}

pub length-states_of : (points : List Rows) (stamps : List Stamp) → length stamps ≡ length points → length (states_of points stamps) ≡ length stamps
length-states_of [] [] same = refl
length-states_of [] (s ∷ stamps) same = absurd (omega arith)
length-states_of (p ∷ points) [] same = refl
length-states_of (p ∷ points) (s ∷ stamps) same = ap suc (length-states_of points stamps (omega arith))

-- one point more
pub states_of-append : (points : List Rows) (stamps : List Stamp) (p : Rows) (s : Stamp) → length stamps ≡ length points → states_of (points ++ p ∷ []) (stamps ++ s ∷ []) ≡ states_of points stamps ++ state_of p s ∷ []
states_of-append [] [] p s same = refl
states_of-append [] (t ∷ stamps) p s same = absurd (omega arith)
states_of-append (q ∷ points) [] p s same = absurd (omega arith)
states_of-append (q ∷ points) (t ∷ stamps) p s same = ap (λ states. state_of q t ∷ states) (states_of-append points stamps p s (omega arith))

-- the number of the batch that is committed next: it met the first of the states, and led to the second
pub next_of_two : (points : List Rows) (stamps : List Stamp) (present : State) (next : Stamp) → length stamps ≡ length points → true ≡ nat_lt 1 (length stamps) → next ≡ get_or stamps 1 next
    → slice_get (map (λ (s : State). s.sequence) (states_of points stamps ++ present ∷ [])) 1 ≡ Some next.sequence
next_of_two points [] present next same two at = cc
next_of_two points (s ∷ []) present next same two at = cc
next_of_two [] (s ∷ t ∷ stamps) present next same two at = absurd (omega arith)
next_of_two (p ∷ []) (s ∷ t ∷ stamps) present next same two at = absurd (omega arith)
next_of_two (p ∷ q ∷ points) (s ∷ t ∷ stamps) present next same two at = ap (λ (u : Stamp). Some u.sequence) (sym at)

-- where there is one, it led to the present state
pub next_of_one : (points : List Rows) (stamps : List Stamp) (present : State) → length stamps ≡ length points → false ≡ nat_lt 1 (length stamps) → (length stamps ≡ 0 → ⊥)
    → slice_get (map (λ (s : State). s.sequence) (states_of points stamps ++ present ∷ [])) 1 ≡ Some present.sequence
next_of_one points [] present same one some = absurd (some refl)
next_of_one [] (s ∷ []) present same one some = absurd (omega arith)
next_of_one (p ∷ []) (s ∷ []) present same one some = refl
next_of_one (p ∷ q ∷ points) (s ∷ []) present same one some = absurd (omega arith)
next_of_one points (s ∷ t ∷ stamps) present same one some = let two : 1 < length (s ∷ t ∷ stamps) = omega arith in let is : nat_lt 1 (length (s ∷ t ∷ stamps)) ≡ true = grind (arith, nat_tests, two) in let no : false ≡ true = one ∙ is in cc

-- ---- after a batch
pub stamped_more : (points points' : List Rows) (stamps stamps' : List Stamp) (p : Rows) (s : Stamp) → points' ≡ points ++ p ∷ [] → stamps' ≡ stamps ++ s ∷ [] → length stamps ≡ length points → length stamps' ≡ length points'
stamped_more points points' stamps stamps' p s grown kept same =
    ap length kept ∙ length_push stamps s ∙ ap (λ (n : ℕ). n + 1) same ∙ sym (ap length grown ∙ length_push points p)

-- ---- what a call that isn't refused ensures
pub where-ok : {T E P Q : Type 0} (r : Result T E) → (IsErr r ↔ Q) → (Q → ⊥) → OnOk r P → P
where-ok (Ok x) none never ok = ok
where-ok (Err e) none never ok = absurd (never (none.0 refl))

pub is-ok : {T E Q : Type 0} (r : Result T E) → (IsErr r ↔ Q) → (Q → ⊥) → IsOk r
is-ok (Ok x) none never = refl
is-ok (Err e) none never = absurd (never (none.0 refl))

-- ---- some of the points
length-take-both : (n : ℕ) (points : List Rows) (stamps : List Stamp) → length stamps ≡ length points → length (take n stamps) ≡ length (take n points)
length-take-both n points stamps same = length-take n stamps ∙ ap (min n) same ∙ sym (length-take n points)

pub stamped_taken : (n : ℕ) (points points' : List Rows) (stamps stamps' : List Stamp) → points' ≡ take n points → stamps' ≡ take n stamps → length stamps ≡ length points → length stamps' ≡ length points'
stamped_taken n points points' stamps stamps' fewer kept same = ap length kept ∙ length-take-both n points stamps same ∙ sym (ap length fewer)

pub stamped_dropped : (points points' : List Rows) (stamps stamps' : List Stamp) → points' ≡ drop 1 points → stamps' ≡ drop 1 stamps → length stamps ≡ length points → length stamps' ≡ length points'
stamped_dropped points points' stamps stamps' fewer kept same = ap length kept ∙ length-drop 1 stamps ∙ ap (λ n. n - 1) same ∙ sym (length-drop 1 points) ∙ sym (ap length fewer)

-- a point that is one of the states
pub point-there : (n : ℕ) (points : List Rows) (stamps : List Stamp) (earlier : List State) → length stamps ≡ length points → states_of points stamps ≡ earlier → n < length earlier → length points ≤ n → ⊥
point-there n points stamps earlier same are inside past =
    let size = sym (length-states_of points stamps same) ∙ ap length are in
    omega (arith, same, size, inside, past)

pub states_of-take : (n : ℕ) (points : List Rows) (stamps : List Stamp) → states_of (take n points) (take n stamps) ≡ take n (states_of points stamps)
states_of-take zero points stamps = refl
states_of-take (suc n) [] stamps = refl
states_of-take (suc n) (p ∷ points) [] = refl
states_of-take (suc n) (p ∷ points) (s ∷ stamps) = ap (λ states. state_of p s ∷ states) (states_of-take n points stamps)

states_of-none : (points : List Rows) → states_of points [] ≡ []
states_of-none [] = refl
states_of-none (p ∷ points) = refl

pub states_of-drop : (points : List Rows) (stamps : List Stamp) → states_of (drop 1 points) (drop 1 stamps) ≡ drop 1 (states_of points stamps)
states_of-drop [] stamps = refl
states_of-drop (p ∷ points) [] = states_of-none points
states_of-drop (p ∷ points) (s ∷ stamps) = refl

pub states_of-get : (n : ℕ) (points : List Rows) (stamps : List Stamp) (p : Rows) (s : Stamp) → slice_get points n ≡ Some p → slice_get stamps n ≡ Some s → slice_get (states_of points stamps) n ≡ Some (state_of p s)
states_of-get n [] stamps p s here there = let no : None ≡ Some p = here in cc
states_of-get n (q ∷ points) [] p s here there = let no : None ≡ Some s = there in cc
states_of-get zero (q ∷ points) (t ∷ stamps) p s here there =
    let rows : q ≡ p = cc in
    let stamp : t ≡ s = cc in
    (λ i. Some (state_of (rows i) (stamp i)))
states_of-get (suc n) (q ∷ points) (t ∷ stamps) p s here there = states_of-get n points stamps p s here there

-- ---- something of each state
pub all-one : (P : State → Type 0) (s : State) → P s → All P (s ∷ [])
all-one P s h zero d small = h
all-one P s h (suc k) d small = absurd (omega (arith, small))

pub all-none : (P : State → Type 0) (points : List Rows) (stamps : List Stamp) → points ≡ [] → All P (states_of points stamps)
all-none P points stamps none = subst (λ ps. All P (states_of ps stamps)) (sym none) (λ k d small. absurd (omega (arith, small)))

pub all-taken : (P : State → Type 0) (n : ℕ) (points points' : List Rows) (stamps stamps' : List Stamp) → points' ≡ take n points → stamps' ≡ take n stamps → All P (states_of points stamps) → All P (states_of points' stamps')
all-taken P n points points' stamps stamps' fewer kept each =
    subst (All P) (sym (states_of-take n points stamps) ∙ (λ i. states_of (sym fewer i) (sym kept i))) (All-take P n (states_of points stamps) each)

pub all-dropped : (P : State → Type 0) (points points' : List Rows) (stamps stamps' : List Stamp) → points' ≡ drop 1 points → stamps' ≡ drop 1 stamps → All P (states_of points stamps) → All P (states_of points' stamps')
all-dropped P points points' stamps stamps' fewer kept each =
    subst (All P) (sym (states_of-drop points stamps) ∙ (λ i. states_of (sym fewer i) (sym kept i))) (All-drop P 1 (states_of points stamps) each)

pub all-at : (P : State → Type 0) (n : ℕ) (points : List Rows) (stamps : List Stamp) (p : Rows) (s : Stamp) → slice_get points n ≡ Some p → slice_get stamps n ≡ Some s → All P (states_of points stamps) → P (state_of p s)
all-at P n points stamps p s here there each =
    let at = states_of-get n points stamps p s here there in
    subst P (get_or_from_slice_get (states_of points stamps) n (state_of p s) (state_of p s) at) (each n (state_of p s) (slice_get_within (states_of points stamps) n (state_of p s) at))

-- ---- states by their numbers
abbrev pub is_numbered : ℕ → State → Bool
is_numbered n state = state.sequence == n

len-by-stamps : (n : ℕ) (points : List Rows) (stamps : List Stamp) → length stamps ≡ length points → position_or_len (is_numbered n) (states_of points stamps) ≡ position_or_len (λ (s : Stamp). s.sequence == n) stamps
len-by-stamps n [] [] same = refl
len-by-stamps n [] (s ∷ stamps) same = absurd (omega arith)
len-by-stamps n (p ∷ points) [] same = absurd (omega arith)
len-by-stamps n (p ∷ points) (s ∷ stamps) same = ap (λ m. cond (not (s.sequence == n)) (1 + m) 0) (len-by-stamps n points stamps (omega arith))

pub position-by-stamps : (n : ℕ) (points : List Rows) (stamps : List Stamp) → length stamps ≡ length points → position (λ (s : Stamp). s.sequence == n) stamps ≡ position (is_numbered n) (states_of points stamps)
position-by-stamps n points stamps same =
    let reach = sym (len-by-stamps n points stamps same) in
    let size = sym (length-states_of points stamps same) in
    (λ i. cond (nat_lt (reach i) (size i)) (Some (reach i)) None)

not-true : (b : Bool) → not b ≡ true → b ≡ false
not-true true e = cc
not-true false e = refl

not-false : (b : Bool) → not b ≡ false → b ≡ true
not-false true e = refl
not-false false e = cc

-- where one is found, and where none is
module _ (n : ℕ) (states : List State) where
  abbrev reached : ℕ
  reached = position_or_len (is_numbered n) states

  pub found-at : (i : ℕ) (d : State) → position (is_numbered n) states ≡ Some i → (i < length states) × ((get_or states i d).sequence ≡ n)
  found-at i d is =
      elim (cases_Bool (nat_lt reached (length states))) [
        | inl t ↦
            let place : Some reached ≡ Some i = sym (ap (λ b. cond b (Some reached) None) t) ∙ is in
            let same : reached ≡ i = cc in
            let inside : reached < length states = ltb-true reached (length states) t in (
              subst (λ k. k < length states) same inside,
              eqb-true (get_or states i d).sequence n (ap (λ k. is_numbered n (get_or states k d)) (sym same) ∙ not-false (is_numbered n (get_or states reached d)) (prefix_len_stops (λ x. not (is_numbered n x)) states d inside)),
            )
        | inr f ↦ let none : None ≡ Some i = sym (ap (λ b. cond b (Some reached) None) f) ∙ is in let no : ⊥ = cc in absurd no
      ]

  pub none-at : position (is_numbered n) states ≡ None → (k : ℕ) (d : State) → k < length states → (get_or states k d).sequence ≢ n
  none-at is k d inside same =
      elim (cases_Bool (nat_lt reached (length states))) [
        | inl t ↦ let some : Some reached ≡ None = sym (ap (λ b. cond b (Some reached) None) t) ∙ is in let no : ⊥ = cc in no
        | inr f ↦
            let past : length states ≤ reached = ltb-false reached (length states) f in
            let fails : is_numbered n (get_or states k d) ≡ false = not-true (is_numbered n (get_or states k d)) (prefix_len_passes (λ x. not (is_numbered n x)) states k d (omega (arith, inside, past))) in
            let no : true ≡ false = sym (eq-eqb (get_or states k d).sequence n same) ∙ fails in
            let bad : ⊥ = cc in
            bad
      ]
