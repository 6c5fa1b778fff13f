-- Marks of places, and the first place from one on that passes a test.
use Rattle.std.specs.Prelude.{◌≡◌, ℕ, ◌+◌, ◌<◌, ◌≤◌, Bool, true, false, ◌||◌, List}
use Rattle.bit_sets.specs.BitSets.{has_bit}
use Rattle.merkle.specs.Nodes.{left_of}

-- whether a child of the node is marked
abbrev pub is_above : List ℕ → ℕ → Bool
is_above words i = has_bit words (left_of i) || has_bit words (left_of i + 1)

-- the place is the first from another one on, of these places, that passes the test
pub record IsNext (Is : ℕ → Type 0) (test : ℕ → Bool) (from n : ℕ) : Type 0 where
  pub low : from ≤ n
  pub is : Is n
  pub here : test n ≡ true
  pub before : (k : ℕ) → from ≤ k → k < n → Is k → test k ≡ false

-- none of these places from one on to before another passes it
abbrev pub IsNone : (ℕ → Type 0) → (ℕ → Bool) → ℕ → ℕ → Type 0
IsNone Is test from end = (k : ℕ) → from ≤ k → k < end → Is k → test k ≡ false
