-- Columns: their greatest numbers, and a step of raising them.
use Rattle.std.proofs.Common.{◌≡◌, ℕ, zero, suc, ◌+◌, ◌<◌, ◌≤◌, ◌==◌, ◌||◌, Bool, true, false, max, List, [], ◌∷◌, ◌++◌, length, map, get_or, replicate, set, drop, refl, sym, ap, ◌∙◌, inl, inr, arith}
use Rattle.std.proofs.lemmas.Bool.{cases_eq, eq-eqb, ne_eqb}
use Rattle.std.proofs.lemmas.List.{drop_more, get_or-set_same, get_or-set_other}
use Rattle.std.proofs.lemmas.List.Folds.{list_any-append}
use Rattle.std.specs.List.{list_any}
use Rattle.mixer.specs.Columns.{highest, raised, IsRaised, IsBelow}

-- ---- the greatest number
pub highest-append : (column slots more : List ℕ) → highest column (slots ++ more) ≡ max (highest column slots) (highest column more)
highest-append column [] more = omega arith
highest-append column (slot ∷ slots) more =
    let rest : highest column (slots ++ more) ≡ max (highest column slots) (highest column more) = highest-append column slots more in
    omega arith

pub highest_below : (most : ℕ) (column slots : List ℕ) → IsBelow most column → highest column slots ≤ most
highest_below most column [] low = omega arith
highest_below most column (slot ∷ slots) low =
    let here : get_or column slot 0 ≤ most = low slot in
    let rest : highest column slots ≤ most = highest_below most column slots low in
    omega arith

-- ---- raising
pub raised_both : (x y : Bool) (to n : ℕ) → raised y to (raised x to n) ≡ raised (x || y) to n
raised_both true true to n = omega arith
raised_both true false to n = refl
raised_both false y to n = refl

pub raised_twice : (slots more : List ℕ) (to : ℕ) (a b c : List ℕ) → IsRaised slots to a b → IsRaised more to b c → IsRaised (slots ++ more) to a c
raised_twice slots more to a b c first second slot =
    second slot
    ∙ ap (raised (list_any (◌==◌ slot) more) to) (first slot)
    ∙ raised_both (list_any (◌==◌ slot) slots) (list_any (◌==◌ slot) more) to (get_or a slot 0)
    ∙ ap (λ x. raised x to (get_or a slot 0)) (sym (list_any-append (◌==◌ slot) slots more))

raised_below : (x : Bool) (to n most : ℕ) → n ≤ most → to ≤ most → raised x to n ≤ most
raised_below true to n most low high = omega arith
raised_below false to n most low high = low

pub below_raised : (most : ℕ) (slots : List ℕ) (to : ℕ) (old new : List ℕ) → IsRaised slots to old new → to ≤ most → IsBelow most old → IsBelow most new
below_raised most slots to old new is high low slot =
    let here : raised (list_any (◌==◌ slot) slots) to (get_or old slot 0) ≤ most = raised_below (list_any (◌==◌ slot) slots) to (get_or old slot 0) most (low slot) high in
    let same : get_or new slot 0 ≡ raised (list_any (◌==◌ slot) slots) to (get_or old slot 0) = is slot in
    omega arith

again : (x : Bool) (to n : ℕ) → raised x to (max n to) ≡ max n to
again true to n = omega arith
again false to n = refl

-- one number is raised, and then those at the slots that are left
raise_one : (column : List ℕ) (at to : ℕ) (slots : List ℕ) → at < length column → (slot : ℕ)
    → raised (list_any (◌==◌ slot) slots) to (get_or (set column at (max (get_or column at 0) to)) slot 0) ≡ raised (list_any (◌==◌ slot) (at ∷ slots)) to (get_or column slot 0)
raise_one column at to slots within slot =
    elim (cases_eq slot at) [
      | inl same ↦
          ap (λ n. raised (list_any (◌==◌ slot) slots) to (get_or (set column at (max (get_or column at 0) to)) n 0)) same
          ∙ ap (raised (list_any (◌==◌ slot) slots) to) (get_or-set_same column at (max (get_or column at 0) to) 0 within)
          ∙ again (list_any (◌==◌ slot) slots) to (get_or column at 0)
          ∙ ap (λ n. max (get_or column n 0) to) (sym same)
          ∙ ap (λ x. raised (x || list_any (◌==◌ slot) slots) to (get_or column slot 0)) (sym (eq-eqb slot at same))
      | inr other ↦
          ap (raised (list_any (◌==◌ slot) slots) to) (get_or-set_other column at slot (max (get_or column at 0) to) 0 other)
          ∙ ap (λ x. raised (x || list_any (◌==◌ slot) slots) to (get_or column slot 0)) (sym (ne_eqb slot at other))
    ]

-- the loop stands before the i-th granule
module _ {G : Type 0} (slot_of : G → ℕ) (granules : List G) (i : ℕ) (d : G) (within : i < length granules) where
  slots_left : map slot_of (drop i granules) ≡ slot_of (get_or granules i d) ∷ map slot_of (drop (i + 1) granules)
  slots_left = ap (map slot_of) (drop_more granules i d within)

  pub highest_step : (column : List ℕ) (n whole : ℕ) → max n (highest column (map slot_of (drop i granules))) ≡ whole
      → max (max n (get_or column (slot_of (get_or granules i d)) 0)) (highest column (map slot_of (drop (i + 1) granules))) ≡ whole
  highest_step column n whole is =
      let split : highest column (map slot_of (drop i granules)) ≡ max (get_or column (slot_of (get_or granules i d)) 0) (highest column (map slot_of (drop (i + 1) granules))) = ap (highest column) slots_left in
      omega arith

  pub raise_step : (column new first : List ℕ) (to : ℕ) (all : List ℕ) → slot_of (get_or granules i d) < length column
      → new ≡ set column (slot_of (get_or granules i d)) (max (get_or column (slot_of (get_or granules i d)) 0) to)
      → ((slot : ℕ) → raised (list_any (◌==◌ slot) (map slot_of (drop i granules))) to (get_or column slot 0) ≡ raised (list_any (◌==◌ slot) all) to (get_or first slot 0))
      → (slot : ℕ) → raised (list_any (◌==◌ slot) (map slot_of (drop (i + 1) granules))) to (get_or new slot 0) ≡ raised (list_any (◌==◌ slot) all) to (get_or first slot 0)
  raise_step column new first to all low is so_far slot =
      ap (λ xs. raised (list_any (◌==◌ slot) (map slot_of (drop (i + 1) granules))) to (get_or xs slot 0)) is
      ∙ raise_one column (slot_of (get_or granules i d)) to (map slot_of (drop (i + 1) granules)) low slot
      ∙ ap (λ slots. raised (list_any (◌==◌ slot) slots) to (get_or column slot 0)) (sym slots_left)
      ∙ so_far slot

-- ---- zeros alone
pub zeros : (count slot : ℕ) → get_or {A = ℕ} (replicate count 0) slot 0 ≡ 0
zeros zero slot = refl
zeros (suc count) zero = refl
zeros (suc count) (suc slot) = zeros count slot

pub low_zeros : (count : ℕ) (column : List ℕ) → column ≡ replicate count 0 → IsBelow 0 column
low_zeros count column are slot =
    let none : get_or column slot 0 ≡ 0 = ap (λ xs. get_or xs slot 0) are ∙ zeros count slot in
    omega arith
