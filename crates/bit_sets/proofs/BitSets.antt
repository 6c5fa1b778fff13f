-- Sets of numbers, a bit each: none, and one number more.
use Rattle.std.proofs.Common.{◌≡◌, ℕ, zero, suc, ◌+◌, ◌-◌, ◌≤◌, ◌*◌, ◌/◌, ◌%◌, ◌^◌, ◌<◌, true, false, ◌==◌, ◌||◌, List, [], ◌∷◌, length, get_or, set, replicate, refl, sym, ap, ◌∙◌, inl, inr, arith, bit_or, w64}
use Rattle.std.proofs.lemmas.Bool.{cases_eq, cases_lt, eq-eqb, ne_eqb}
use Rattle.std.proofs.lemmas.List.{get_or_past, get_or-set_same, get_or-set_other}
use Rattle.std.proofs.lemmas.Nat.Bits.{bit_at-trailing_zeros, bit_at-zero, bit_at_above, bit_at_set_same, bit_at_set_other}
use Rattle.std.specs.Int.{bit_at, trailing_zeros}
use Rattle.std.proofs.lemmas.Nat.{pow-add}
use Rattle.std.proofs.Math.Nat.{div-div-eq-div-mul}
use Rattle.bit_sets.specs.BitSets.{IsFirstFrom, has_bit}

none-in : (n k : ℕ) → get_or {A = ℕ} (replicate n 0) k 0 ≡ 0
none-in zero k = refl
none-in (suc n) zero = refl
none-in (suc n) (suc k) = none-in n k

-- words of 0 have no bit
pub no-bits : (words n : ℕ) → has_bit (replicate words 0) n ≡ false
no-bits words n = ap (λ w. bit_at w (n % 64) == 1) (none-in words (n / 64)) ∙ ap (λ x. x == 1) (bit_at-zero (n % 64))

-- two numbers of one word are the same where their rests are
same-rest : (m n : ℕ) → m / 64 ≡ n / 64 → (m % 64 == n % 64) ≡ (m == n)
same-rest m n e =
    elim (cases_eq m n) [
      | inl same ↦ eq-eqb (m % 64) (n % 64) (ap (λ k. k % 64) same) ∙ sym (eq-eqb m n same)
      | inr other ↦ ne_eqb (m % 64) (n % 64) (λ rest. other (omega (arith, e, rest))) ∙ sym (ne_eqb m n other)
    ]

-- the bit that is set in a word, and the others
word-set : (w k m : ℕ) → k < 64 → (bit_at (bit_or w (1 * 2 ^ k % 2 ^ 64)) m == 1) ≡ ((m == k) || (bit_at w m == 1))
word-set w k m h =
    elim (cases_eq m k) [
      | inl e ↦ (λ i. bit_at (bit_or w (1 * 2 ^ k % 2 ^ 64)) (e i) == 1) ∙ ap (λ x. x == 1) (bit_at_set_same w64 w k h) ∙ sym (ap (λ b. b || (bit_at w m == 1)) (eq-eqb m k e))
      | inr e ↦ ap (λ x. x == 1) (bit_at_set_other w64 w k h m e) ∙ sym (ap (λ b. b || (bit_at w m == 1)) (ne_eqb m k e))
    ]

-- one number more
pub bit-more : (ws : List ℕ) (n m : ℕ) → n < 64 * length ws
    → has_bit (set ws (n / 64) (bit_or (get_or ws (n / 64) 0) (1 * 2 ^ (n % 64) % 2 ^ 64))) m ≡ ((m == n) || has_bit ws m)
bit-more ws n m h =
    let word = bit_or (get_or ws (n / 64) 0) (1 * 2 ^ (n % 64) % 2 ^ 64) in
    let low : n % 64 < 64 = omega arith in
    let within : n / 64 < length ws = omega (arith, h) in
    elim (cases_eq (m / 64) (n / 64)) [
      | inl e ↦
          (λ i. bit_at (get_or (set ws (n / 64) word) (e i) 0) (m % 64) == 1)
          ∙ ap (λ w. bit_at w (m % 64) == 1) (get_or-set_same ws (n / 64) word 0 within)
          ∙ word-set (get_or ws (n / 64) 0) (n % 64) (m % 64) low
          ∙ (λ i. same-rest m n e i || (bit_at (get_or ws (sym e i) 0) (m % 64) == 1))
      | inr e ↦
          ap (λ w. bit_at w (m % 64) == 1) (get_or-set_other ws (n / 64) (m / 64) word 0 e)
          ∙ sym (ap (λ b. b || has_bit ws m) (ne_eqb m n (λ same. e (ap (λ k. k / 64) same))))
    ]

-- ---- the least number from one on
-- the bits of a word from a place on
rest-bit : (w k j : ℕ) → bit_at (w / 2 ^ k) j ≡ bit_at w (k + j)
rest-bit w k j = ap (λ x. x % 2) (div-div-eq-div-mul w (2 ^ k) (2 ^ j) ∙ ap (λ d. w / d) (sym (pow-add 2 k j)))

-- what is left of a number's word from the number on
abbrev pub rest : List ℕ → ℕ → ℕ
rest words n = get_or words (n / 64) 0 / 2 ^ (n % 64)

-- a number of the same word, from another one on
same-word : (words : List ℕ) (n m : ℕ) → n ≤ m → m / 64 ≡ n / 64 → has_bit words m ≡ (bit_at (rest words n) (m - n) == 1)
same-word words n m low e =
    let k : m % 64 ≡ n % 64 + (m - n) = omega (arith, low, e) in
    ap (λ i. bit_at (get_or words i 0) (m % 64) == 1) e ∙ ap (λ j. bit_at (get_or words (n / 64) 0) j == 1) k
    ∙ ap (λ b. b == 1) (sym (rest-bit (get_or words (n / 64) 0) (n % 64) (m - n)))

-- nothing is left of the word
pub no-rest : (words : List ℕ) (from n : ℕ) → rest words n ≡ 0 → ((k : ℕ) → from ≤ k → k < n → has_bit words k ≡ false)
    → (k : ℕ) → from ≤ k → k < n + (64 - n % 64) → has_bit words k ≡ false
no-rest words from n none before k low high = elim (cases_lt k n) [
  | inl l ↦ before k low l
  | inr h ↦ same-word words n k h (omega (arith, h, high)) ∙ ap (λ w. bit_at w (k - n) == 1) none ∙ ap (λ b. b == 1) (bit_at-zero (k - n))
]

-- the least bit of what is left
module _ (words : List ℕ) (from n : ℕ) (small : get_or words (n / 64) 0 < 2 ^ 64) (some : 0 < rest words n) (fits : rest words n < 2 ^ 64) where
  abbrev pub least : ℕ
  least = trailing_zeros w64 (rest words n)

  at-least : bit_at (rest words n) least ≡ 1
  at-least = (bit_at-trailing_zeros w64 (rest words n) some fits).1

  near : n % 64 + least < 64
  near = elim (cases_lt (n % 64 + least) 64) [
    | inl l ↦ l
    | inr h ↦ absurd (omega (arith, sym at-least ∙ rest-bit (get_or words (n / 64) 0) (n % 64) least ∙ bit_at_above (get_or words (n / 64) 0) 64 (n % 64 + least) small h))
  ]

  pub same-word-place : (n + least) / 64 ≡ n / 64
  same-word-place = omega (arith, near)

  pub first-rest : from ≤ n → ((k : ℕ) → from ≤ k → k < n → has_bit words k ≡ false) → IsFirstFrom words from (n + least)
  first-rest low before = record {
    low = omega (arith, low);
    here = same-word words n (n + least) (omega arith) same-word-place ∙ ap (λ j. bit_at (rest words n) j == 1) (omega arith) ∙ ap (λ b. b == 1) at-least;
    before = λ k l h. elim (cases_lt k n) [
      | inl b ↦ before k l b
      | inr a ↦ same-word words n k a (omega (arith, a, h, near)) ∙ ap (λ b. b == 1) ((bit_at-trailing_zeros w64 (rest words n) some fits).2 (k - n) (omega (arith, a, h)))
    ];
  }

-- ---- words that are lent, and words behind the others
same-default : (ws : List ℕ) (k d e : ℕ) → k < length ws → get_or ws k d ≡ get_or ws k e
same-default [] k d e h = absurd (omega (arith, h))
same-default (w ∷ ws) zero d e h = refl
same-default (w ∷ ws) (suc k) d e h = same-default ws k d e (omega (arith, h))

-- one number more in its word
pub bit-lent : (ws : List ℕ) (n m word : ℕ) → n < 64 * length ws → word ≡ get_or ws (n / 64) word
    → has_bit (set ws (n / 64) (bit_or word (1 * 2 ^ (n % 64) % 2 ^ 64))) m ≡ ((m == n) || has_bit ws m)
bit-lent ws n m word h is =
    let within : n / 64 < length ws = omega (arith, h) in
    ap (λ w. has_bit (set ws (n / 64) (bit_or w (1 * 2 ^ (n % 64) % 2 ^ 64))) m) (is ∙ same-default ws (n / 64) word 0 within) ∙ bit-more ws n m h

-- words of 0 behind the others add no number
module _ (old new : List ℕ) (len width : ℕ) (is : len ≡ length old) (wide : length new ≡ width) (low : len < width)
    (kept : (k d : ℕ) → k < width → k < len → get_or new k d ≡ get_or old k d) (none : (k d : ℕ) → true ≡ true → len ≤ k → k < width → get_or new k d ≡ 0) where
  same-word-at : (k : ℕ) → get_or new k 0 ≡ get_or old k 0
  same-word-at k = elim (cases_lt k len) [
    | inl l ↦ kept k 0 (omega (arith, l, low)) l
    | inr h ↦
        let past = get_or_past old k 0 (omega (arith, h, is)) in
        elim (cases_lt k width) [
          | inl l ↦ none k 0 refl h l ∙ sym past
          | inr g ↦ get_or_past new k 0 (omega (arith, g, wide)) ∙ sym past
        ]
  ]

  pub bit-widened : (n : ℕ) → has_bit new n ≡ has_bit old n
  bit-widened n = ap (λ w. bit_at w (n % 64) == 1) (same-word-at (n / 64))
