use Rattle.std.proofs.Common.{◌≡◌, ℕ, ◌==◌, ◌||◌, map, length, drop}
use Rattle.std.specs.List.{list_any}
use Rattle.serializability.specs.BitSets.{has}
use Rattle.signatures_simd.specs.Bits.{bit}
use Rattle.signatures_simd.specs.Words.{words_bits}
use Rattle.signatures_simd.proofs.signature.Signature.of.Given as goal

abbrev pub invariant-loop-granule : goal.invariant-loop-granule
invariant-loop-granule l = record {
  len : length l.words ≡ 8;
  told : (b : ℕ) → (has (words_bits l.words) b || list_any (◌==◌ b) (map bit (drop l.granule-index l.granules))) ≡ list_any (◌==◌ b) (map bit l.granules);
}
