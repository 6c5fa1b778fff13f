-- Leaves marked one by one.
use Rattle.std.proofs.Common.{◌≡◌, ◌≢◌, ℕ, ◌+◌, ◌-◌, ◌<◌, ◌≤◌, Bool, false, ◌==◌, ◌||◌, inl, inr, sym, ap, ◌∙◌, arith}
use Rattle.std.proofs.lemmas.Bool.{cases_eq, cases_lt, eq-eqb, ne_eqb}
use Rattle.tpcc_rows.specs.declared.codes.TheConstants.{LEAVES}
use Rattle.merkle.specs.Marking.{IsNext, IsNone}
use Rattle.merkle.specs.Nodes.{leaf_place}

-- of the leaves from `first` to before `next` those of the set are marked, and none from it on
pub record AreMarkedTo (set marked : ℕ → Bool) (first next : ℕ) : Type 0 where
  pub done : (m : ℕ) → first + m < next → marked (leaf_place m) ≡ set (first + m)
  pub left : (m : ℕ) → next ≤ first + m → marked (leaf_place m) ≡ false

-- one leaf more
module _ (set marked after : ℕ → Bool) (first next n p : ℕ) (low : first ≤ next) (inside : n < LEAVES) (found : IsNext (λ n. n < LEAVES) set next n) (is : p ≡ leaf_place (n - first)) (added : (m : ℕ) → after m ≡ ((m == p) || marked m)) (before : AreMarkedTo set marked first next) where
  other : (m : ℕ) → first + m ≢ n → after (leaf_place m) ≡ marked (leaf_place m)
  other m ne = added (leaf_place m) ∙ ap (λ b. b || marked (leaf_place m)) (ne_eqb (leaf_place m) p (λ e. ne (omega (arith, e ∙ is, low, found.low))))

  pub marked-more : AreMarkedTo set after first (n + 1)
  marked-more = record {
    done = λ m small. elim (cases_eq (first + m) n) [
      | inl e ↦
          let place : leaf_place m ≡ p = (let k : m ≡ n - first = omega (arith, e) in ap leaf_place k) ∙ sym is in
          added (leaf_place m) ∙ ap (λ b. b || marked (leaf_place m)) (eq-eqb (leaf_place m) p place) ∙ sym (ap set e ∙ found.here)
      | inr ne ↦ other m ne ∙ elim (cases_lt (first + m) next) [
        | inl early ↦ before.done m early
        | inr late ↦ before.left m late ∙ sym (found.before (first + m) late (omega (arith, small, ne)) (omega (arith, small, ne, inside)))
      ]
    ];
    left = λ m high. other m (λ e. omega (arith, e, high)) ∙ before.left m (omega (arith, found.low, high));
  }

-- none is left
pub all-marked : (set marked : ℕ → Bool) (first next end : ℕ) → end ≤ LEAVES → AreMarkedTo set marked first next → IsNone (λ n. n < LEAVES) set next end → (m : ℕ) → first + m < end → marked (leaf_place m) ≡ set (first + m)
all-marked set marked first next end inside before none m small = elim (cases_lt (first + m) next) [
  | inl low ↦ before.done m low
  | inr high ↦ before.left m high ∙ sym (none (first + m) high small (omega (arith, small, inside)))
]
