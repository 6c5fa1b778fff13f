use Rattle.std.proofs.Common.{◌≡◌, ◌<◌, ◌≤◌, ◌*◌, ℕ, false, ◌-◌, length}
use Rattle.bit_sets.specs.BitSets.{has_bit}
use Rattle.bit_sets.specs.declared.bits.TheConstants.{WORD_BITS}
use Rattle.bit_sets.proofs.bits.Bits.first_from.Given as goal

-- the set has no number before this one
abbrev pub invariant-loop-n : goal.invariant-loop-n
invariant-loop-n g l = record {
  low : l.from ≤ l.n;
  before : (k : ℕ) → l.from ≤ k → k < l.n → has_bit l.self.words k ≡ false;
}

abbrev pub decreases-loop-n : goal.decreases-loop-n
decreases-loop-n g l = WORD_BITS * length l.self.words - l.n
