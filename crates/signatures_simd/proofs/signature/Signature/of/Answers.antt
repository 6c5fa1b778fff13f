use Rattle.std.proofs.Common.{◌≡◌, ℕ, ◌+◌, ◌/◌, ◌%◌, ◌*◌, ◌^◌, ◌<◌, List, length, ◌||◌, ◌==◌, map, drop, get_or, set, bit_or, refl, sym, ap, ◌∙◌, arith, length-set}
use Rattle.std.proofs.lemmas.List.{drop_more}
use Rattle.std.specs.List.{list_any}
use Rattle.serializability.specs.BitSets.{has}
use Rattle.tpcc_rows.specs.declared.granule.Granule.{Granule}
use Rattle.signatures_simd.specs.Bits.{bit}
use Rattle.signatures_simd.specs.Words.{words_bits}
use Rattle.signatures_simd.proofs.Words.{no_bits, has_set, or_assoc}
use Rattle.signatures_simd.proofs.signature.Signature.of.Goals as goal

-- the bit of the next granule is set in its word
told_more : (b : ℕ) (ws : List ℕ) (gs : List Granule) (g : Granule) (k i : ℕ) → k < 64 * length ws → k ≡ bit g → i < length gs → g ≡ get_or gs i g
    → (has (words_bits (set ws (k / 64) (bit_or (get_or ws (k / 64) 0) (1 * 2 ^ (k % 64) % 2 ^ 64)))) b || list_any (◌==◌ b) (map bit (drop (i + 1) gs)))
    ≡ (has (words_bits ws) b || list_any (◌==◌ b) (map bit (drop i gs)))
told_more b ws gs g k i h is within read =
    ap (λ x. x || list_any (◌==◌ b) (map bit (drop (i + 1) gs))) (has_set ws k b h)
    ∙ or_assoc (has (words_bits ws) b) (b == k) _
    ∙ ap (λ n. has (words_bits ws) b || ((b == n) || list_any (◌==◌ b) (map bit (drop (i + 1) gs)))) is
    ∙ ap (λ x. has (words_bits ws) b || ((b == bit x) || list_any (◌==◌ b) (map bit (drop (i + 1) gs)))) read
    ∙ ap (λ rest. has (words_bits ws) b || list_any (◌==◌ b) (map bit rest)) (sym (drop_more gs i g within))

pub loop-granule-init : goal.loop-granule-init
loop-granule-init c = record { len = refl; told = λ b. ap (λ bit_in. bit_in || list_any (◌==◌ b) (map bit c.args.granules.now)) (no_bits 8 b) }

pub loop-granule-preserved : goal.loop-granule-preserved
loop-granule-preserved c = record {
  len = omega (arith, length-set {A = ℕ});
  told = λ b. told_more b c.loop-granule.words c.args.granules.now c.granule-item.result c.granule_bit-bit.result c.loop-granule.granule-index
      (omega (arith, c.granule_bit-bit.ensures.below)) c.granule_bit-bit.ensures.value c.loop-granule-test.true c.granule-item.is
      ∙ c.loop-granule.invariant.told b;
}
