-- What bits words have, and what bits they have after an operation on each of them.
use Rattle.std.proofs.Common.{◌≡◌, ℕ, zero, suc, ◌-◌, ◌*◌, ◌/◌, ◌%◌, ◌^◌, ◌<◌, Bool, true, false, ◌==◌, ◌||◌, ◌&&◌, List, [], ◌∷◌, length, get_or, set, replicate, max, min, refl, sym, ap, ◌∙◌, inl, inr, arith, bit_and, bit_or, w64}
use Rattle.std.proofs.lemmas.Bool.{cases_lt, cases_eq, eq-eqb, ne_eqb, or_right}
use Rattle.std.proofs.lemmas.List.{get_or_append_left, get_or-append_right, get_or-set_same, get_or-set_other, get_or_past}
use Rattle.std.proofs.lemmas.Simd.{length-zip2, get_or-zip2}
use Rattle.std.specs.Simd.Lanes.{zip2}
use Rattle.std.proofs.lemmas.List.FromFn.{get_or-map-range_with_len, length-map-range_with_len}
use Rattle.std.proofs.lemmas.Nat.Bits.{bit_at-zero, bit_at-lt, bit_at_or, bit_at_and, bit_at_set_same, bit_at_set_other}
use Rattle.std.specs.Int.{bit_at}
use Rattle.serializability.specs.BitSets.{has}
use Rattle.serializability.proofs.BitSets.{or_none}
use Rattle.signatures_simd.specs.Words.{word_bits, words_bits}

length-word_bits : (w : ℕ) → length (word_bits w) ≡ 64
unfolding word_bits
length-word_bits w = length-map-range_with_len (λ place. bit_at w place == 1) 0 64

pub has-word_bits : (w b : ℕ) → b < 64 → has (word_bits w) b ≡ (bit_at w b == 1)
unfolding word_bits
has-word_bits w b h = get_or-map-range_with_len (λ place. bit_at w place == 1) 0 64 b b false h (omega arith)

-- bit b is bit b % 64 of word b / 64
pub has-words : (ws : List ℕ) (b : ℕ) → has (words_bits ws) b ≡ (bit_at (get_or ws (b / 64) 0) (b % 64) == 1)
unfolding words_bits
has-words [] b = ap (λ x. x == 1) (sym (bit_at-zero (b % 64)))
has-words (w ∷ ws) b =
    elim (cases_lt b 64) [
      | inl h ↦
          let low : b / 64 ≡ 0 = omega arith in
          let same : b % 64 ≡ b = omega arith in
          get_or_append_left (word_bits w) (words_bits ws) false b (omega (arith, length-word_bits w, h)) ∙ has-word_bits w b h
          ∙ (λ i. bit_at (get_or (w ∷ ws) (sym low i) 0) (sym same i) == 1)
      | inr h ↦
          let next : b / 64 ≡ suc ((b - 64) / 64) = omega arith in
          let same : b % 64 ≡ (b - 64) % 64 = omega arith in
          get_or-append_right (word_bits w) (words_bits ws) 64 b false (length-word_bits w) h ∙ has-words ws (b - 64)
          ∙ (λ i. bit_at (get_or (w ∷ ws) (sym next i) 0) (sym same i) == 1)
    ]

none_in : (n k : ℕ) → get_or {A = ℕ} (replicate n 0) k 0 ≡ 0
none_in zero k = refl
none_in (suc n) zero = refl
none_in (suc n) (suc k) = none_in n k

-- words of 0 have no bit
pub no_bits : (n b : ℕ) → has (words_bits (replicate n 0)) b ≡ false
no_bits n b = has-words (replicate n 0) b ∙ ap (λ w. bit_at w (b % 64) == 1) (none_in n (b / 64)) ∙ ap (λ x. x == 1) (bit_at-zero (b % 64))

one_of_either : (x y : ℕ) → x < 2 → y < 2 → (max x y == 1) ≡ ((x == 1) || (y == 1))
one_of_either zero zero h k = refl
one_of_either zero (suc zero) h k = refl
one_of_either (suc zero) zero h k = refl
one_of_either (suc zero) (suc zero) h k = refl
one_of_either (suc (suc x)) y h k = absurd (omega (arith, h))
one_of_either zero (suc (suc y)) h k = absurd (omega (arith, k))
one_of_either (suc zero) (suc (suc y)) h k = absurd (omega (arith, k))

one_of_both : (x y : ℕ) → x < 2 → y < 2 → (min x y == 1) ≡ ((x == 1) && (y == 1))
one_of_both zero zero h k = refl
one_of_both zero (suc zero) h k = refl
one_of_both (suc zero) zero h k = refl
one_of_both (suc zero) (suc zero) h k = refl
one_of_both (suc (suc x)) y h k = absurd (omega (arith, h))
one_of_both zero (suc (suc y)) h k = absurd (omega (arith, k))
one_of_both (suc zero) (suc (suc y)) h k = absurd (omega (arith, k))

pub word_or : (v w k : ℕ) → (bit_at (bit_or v w) k == 1) ≡ ((bit_at v k == 1) || (bit_at w k == 1))
word_or v w k = ap (λ x. x == 1) (bit_at_or v w k) ∙ one_of_either (bit_at v k) (bit_at w k) (bit_at-lt v k) (bit_at-lt w k)

word_and : (v w k : ℕ) → (bit_at (bit_and v w) k == 1) ≡ ((bit_at v k == 1) && (bit_at w k == 1))
word_and v w k = ap (λ x. x == 1) (bit_at_and v w k) ∙ one_of_both (bit_at v k) (bit_at w k) (bit_at-lt v k) (bit_at-lt w k)

-- the lanes of two vectors of as many words, one word at a place
lane_at : (f : ℕ → ℕ → ℕ) → f 0 0 ≡ 0 → (vs ws : List ℕ) (k : ℕ) → length vs ≡ length ws → get_or (zip2 f vs ws) k 0 ≡ f (get_or vs k 0) (get_or ws k 0)
lane_at f none vs ws k same =
    elim (cases_lt k (length vs)) [
      | inl h ↦ get_or-zip2 f vs ws k 0 0 0 h (omega (arith, same, h))
      | inr h ↦ get_or_past (zip2 f vs ws) k 0 (omega (arith, h, length-zip2 f vs ws same)) ∙ sym none
          ∙ (λ i. f (sym (get_or_past vs k 0 h) i) (sym (get_or_past ws k 0 (omega (arith, same, h))) i))
    ]

-- bits of either, word by word
pub has_either : (vs ws : List ℕ) (b : ℕ) → length vs ≡ length ws → has (words_bits (zip2 bit_or vs ws)) b ≡ (has (words_bits vs) b || has (words_bits ws) b)
has_either vs ws b same =
    has-words (zip2 bit_or vs ws) b
    ∙ ap (λ w. bit_at w (b % 64) == 1) (lane_at bit_or refl vs ws (b / 64) same)
    ∙ word_or (get_or vs (b / 64) 0) (get_or ws (b / 64) 0) (b % 64)
    ∙ (λ i. sym (has-words vs b) i || sym (has-words ws b) i)

-- bits of both, word by word
pub has_both : (vs ws : List ℕ) (b : ℕ) → length vs ≡ length ws → has (words_bits (zip2 bit_and vs ws)) b ≡ (has (words_bits vs) b && has (words_bits ws) b)
has_both vs ws b same =
    has-words (zip2 bit_and vs ws) b
    ∙ ap (λ w. bit_at w (b % 64) == 1) (lane_at bit_and refl vs ws (b / 64) same)
    ∙ word_and (get_or vs (b / 64) 0) (get_or ws (b / 64) 0) (b % 64)
    ∙ (λ i. sym (has-words vs b) i && sym (has-words ws b) i)

pub or_assoc : (x y z : Bool) → ((x || y) || z) ≡ (x || (y || z))
or_assoc true y z = refl
or_assoc false y z = refl

-- in one word, numbers are the same where their rests are
same_rest : (b k : ℕ) → b / 64 ≡ k / 64 → (b % 64 == k % 64) ≡ (b == k)
same_rest b k e =
    elim (cases_eq b k) [
      | inl same ↦ eq-eqb (b % 64) (k % 64) (ap (λ n. n % 64) same) ∙ sym (eq-eqb b k same)
      | inr other ↦ ne_eqb (b % 64) (k % 64) (λ rest. other (omega (arith, e, rest))) ∙ sym (ne_eqb b k other)
    ]

-- the bit that is set in a word, and the others
word_set : (w k b : ℕ) → k < 64 → (bit_at (bit_or w (1 * 2 ^ k % 2 ^ 64)) b == 1) ≡ ((bit_at w b == 1) || (b == k))
word_set w k b h =
    elim (cases_eq b k) [
      | inl e ↦ (λ i. bit_at (bit_or w (1 * 2 ^ k % 2 ^ 64)) (e i) == 1) ∙ ap (λ x. x == 1) (bit_at_set_same w64 w k h)
          ∙ sym (or_right (bit_at w b == 1) (b == k) (eq-eqb b k e))
      | inr e ↦ ap (λ x. x == 1) (bit_at_set_other w64 w k h b e) ∙ sym (or_none (bit_at w b == 1) (b == k) (ne_eqb b k e))
    ]

-- a bit more is set in its word
pub has_set : (ws : List ℕ) (k b : ℕ) → k < 64 * length ws
    → has (words_bits (set ws (k / 64) (bit_or (get_or ws (k / 64) 0) (1 * 2 ^ (k % 64) % 2 ^ 64)))) b ≡ (has (words_bits ws) b || (b == k))
has_set ws k b h =
    let word = bit_or (get_or ws (k / 64) 0) (1 * 2 ^ (k % 64) % 2 ^ 64) in
    let low : k % 64 < 64 = omega arith in
    let within : k / 64 < length ws = omega (arith, h) in
    elim (cases_eq (b / 64) (k / 64)) [
      | inl e ↦
          has-words (set ws (k / 64) word) b
          ∙ (λ i. bit_at (get_or (set ws (k / 64) word) (e i) 0) (b % 64) == 1)
          ∙ ap (λ w. bit_at w (b % 64) == 1) (get_or-set_same ws (k / 64) word 0 within)
          ∙ word_set (get_or ws (k / 64) 0) (k % 64) (b % 64) low
          ∙ (λ i. (bit_at (get_or ws (sym e i) 0) (b % 64) == 1) || same_rest b k e i)
          ∙ ap (λ x. x || (b == k)) (sym (has-words ws b))
      | inr e ↦
          has-words (set ws (k / 64) word) b
          ∙ ap (λ w. bit_at w (b % 64) == 1) (get_or-set_other ws (k / 64) (b / 64) word 0 e)
          ∙ sym (or_none (bit_at (get_or ws (b / 64) 0) (b % 64) == 1) (b == k) (ne_eqb b k (λ same. e (ap (λ n. n / 64) same))))
          ∙ ap (λ x. x || (b == k)) (sym (has-words ws b))
    ]
