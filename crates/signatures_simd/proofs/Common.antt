-- Whether words have a bit in common.
use Rattle.std.proofs.Common.{◌≡◌, ℕ, zero, suc, ◌<◌, ◌^◌, Bool, true, false, not, ◌==◌, ◌||◌, List, [], ◌∷◌, ◌++◌, map, length, refl, sym, ap, ◌∙◌, inl, inr, arith, bit_and, bit_or, w64}
use Rattle.std.proofs.lemmas.Bool.{eq-eqb, ne_eqb, or_left, or_right, or_cases, and_from, and_parts, false≢true}
use Rattle.std.proofs.lemmas.Nat.Bits.{bit_at-trailing_zeros}
use Rattle.std.specs.Int.{bit_at, trailing_zeros}
use Rattle.std.specs.List.{list_any, range_with_len}
use Rattle.std.specs.Simd.Lanes.{zip2, fold_l}
use Rattle.serializability.specs.BitSets.{has, meet}
use Rattle.serializability.proofs.BitSets.{meet_at, common_bit, same_Bool, or_none}
use Rattle.signatures_simd.specs.Words.{word_bits, words_bits}
use Rattle.signatures_simd.proofs.Words.{word_or, or_assoc, has-word_bits, has_both}

-- some bit is in the list
abbrev any : List Bool → Bool
any s = list_any (λ bit. bit) s

any_at : (s : List Bool) (b : ℕ) → has s b ≡ true → any s ≡ true
any_at [] b h = h
any_at (x ∷ s) zero h = or_left x _ h
any_at (x ∷ s) (suc b) h = or_right x _ (any_at s b h)

any_has : (s : List Bool) → any s ≡ true → (b : ℕ) × (has s b ≡ true)
any_has [] e = absurd (false≢true e)
any_has (x ∷ s) e = elim (or_cases x _ e) [ inl p ↦ (0, p) | inr p ↦ let r = any_has s p in (suc r.0, r.1) ]

any-append : (s t : List Bool) → any (s ++ t) ≡ (any s || any t)
any-append [] t = refl
any-append (x ∷ s) t = ap (λ y. x || y) (any-append s t) ∙ sym (or_assoc x (any s) (any t))

nonzero : (w : ℕ) → not (w == 0) ≡ true → 0 < w
nonzero zero e = absurd (false≢true e)
nonzero (suc w) e = omega arith

no_bit : any (word_bits 0) ≡ false
unfolding word_bits
no_bit = refl

with_bit : (w : ℕ) → any (word_bits w) ≡ true → not (w == 0) ≡ true
with_bit zero e = absurd (false≢true (sym no_bit ∙ e))
with_bit (suc w) e = ap not (ne_eqb (suc w) 0 (λ h. omega (arith, h)))

-- a word below 2 ^ 64 that isn't 0 has one of the 64 bits
pub some_bit : (w : ℕ) → w < 2 ^ 64 → not (w == 0) ≡ any (word_bits w)
some_bit w h =
    same_Bool _ _
    (λ e.
    let more : 0 < w = nonzero w e in
    let lowest = bit_at-trailing_zeros w64 w more h in
    any_at (word_bits w) (trailing_zeros w64 w) (has-word_bits w (trailing_zeros w64 w) lowest.0 ∙ eq-eqb _ _ lowest.1))
    (with_bit w)

-- the words joined have one of the 64 bits where some of them has
exchange : (p q r s : Bool) → ((p || q) || (r || s)) ≡ ((p || r) || (q || s))
exchange true q r s = refl
exchange false q true s = or_right q true refl
exchange false true false s = refl
exchange false false false s = refl

any_of_either : (f g h : ℕ → Bool) → ((k : ℕ) → f k ≡ (g k || h k)) → (ks : List ℕ) → any (map f ks) ≡ (any (map g ks) || any (map h ks))
any_of_either f g h each [] = refl
any_of_either f g h each (k ∷ ks) =
    (λ i. each k i || any_of_either f g h each ks i) ∙ exchange (g k) (h k) (any (map g ks)) (any (map h ks))

any_or : (v w : ℕ) → any (word_bits (bit_or v w)) ≡ (any (word_bits v) || any (word_bits w))
unfolding word_bits
any_or v w =
    any_of_either (λ k. bit_at (bit_or v w) k == 1) (λ k. bit_at v k == 1) (λ k. bit_at w k == 1) (word_or v w) (range_with_len 0 64)

joined_words : (v : ℕ) (ws : List ℕ) → any (word_bits (fold_l bit_or v ws)) ≡ (any (word_bits v) || any (words_bits ws))
unfolding words_bits
joined_words v [] = sym (or_none (any (word_bits v)) false refl)
joined_words v (w ∷ ws) =
    joined_words (bit_or v w) ws
    ∙ ap (λ x. x || any (words_bits ws)) (any_or v w)
    ∙ or_assoc (any (word_bits v)) (any (word_bits w)) (any (words_bits ws))
    ∙ ap (λ x. any (word_bits v) || x) (sym (any-append (word_bits w) (words_bits ws)))

meet_words : (vs ws : List ℕ) → length vs ≡ length ws → any (words_bits (zip2 bit_and vs ws)) ≡ meet (words_bits vs) (words_bits ws)
meet_words vs ws same =
    same_Bool _ _
    (λ e.
    let r = any_has (words_bits (zip2 bit_and vs ws)) e in
    let both = and_parts _ _ (sym (has_both vs ws r.0 same) ∙ r.1) in
    meet_at (words_bits vs) (words_bits ws) r.0 both.0 both.1)
    (λ e.
    let r = common_bit (words_bits vs) (words_bits ws) e in
    any_at (words_bits (zip2 bit_and vs ws)) r.0 (has_both vs ws r.0 same ∙ and_from _ _ r.1.0 r.1.1))

-- the lanes in common, joined, have a bit where the words have one in common
pub common_words : (vs ws : List ℕ) → length vs ≡ length ws → any (word_bits (fold_l bit_or 0 (zip2 bit_and vs ws))) ≡ meet (words_bits vs) (words_bits ws)
common_words vs ws same =
    joined_words 0 (zip2 bit_and vs ws)
    ∙ ap (λ x. x || any (words_bits (zip2 bit_and vs ws))) no_bit
    ∙ meet_words vs ws same
