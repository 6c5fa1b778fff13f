-- Sets of small numbers, a bit each.
use Rattle.std.specs.Prelude.{◌≡◌, ◌<◌, ◌≤◌, ℕ, true, false, ◌/◌, ◌%◌, ◌==◌, Bool, List, get_or}
use Rattle.std.specs.Int.{bit_at}
use Rattle.bit_sets.specs.declared.bits.TheConstants.{WORD_BITS}

-- whether the number is in the set: each word is for 64 numbers
abbrev pub has_bit : List ℕ → ℕ → Bool
has_bit words n = bit_at (get_or words (n / WORD_BITS) 0) (n % WORD_BITS) == 1

-- the number is the least of the set from another one on
pub record IsFirstFrom (words : List ℕ) (from n : ℕ) : Type 0 where
  pub low : from ≤ n
  pub here : has_bit words n ≡ true
  pub before : (k : ℕ) → from ≤ k → k < n → has_bit words k ≡ false
