-- Numbers and their digits.
use Rattle.std.proofs.Common.{◌≡◌, ◌∙◌, ◌≤◌, ◌<◌, ◌+◌, ◌*◌, ◌-◌, ℕ, zero, suc, List, [], ◌∷◌, length, take, get_or, sym, arith, true, false, inl, inr, rules}
use Rattle.std.specs.Prelude.{◌==◌, nat_le, Err}
use Rattle.std.specs.Char.{is_ascii_digit}
use Rattle.std.specs.List.{list_all}
use Rattle.std.specs.Str.Parse.{digits_value}
use Rattle.std.proofs.lemmas.Bool.{cases_Bool, eqb-true}
use Rattle.std.proofs.lemmas.Int.Digits.{digits_value_more}
use Rattle.std.proofs.lemmas.List.Folds.{list_all_at}
use Rattle.std.proofs.lemmas.Str.{digit_value_digit}
use Rattle.std.proofs.lemmas.Str.Parse.{digits_value-take-le}
use Rattle.records.specs.Fields.{is_numeral, number_in}
use Rattle.records.specs.declared.fault.FaultKind.TheVariants as fault_kind

-- a `0` that stands alone
alone : (c : ℕ) (cs : List ℕ) (i : ℕ) → c ≡ 48 → length cs ≡ 0 → i < length (c ∷ cs) → (48 ≤ get_or (c ∷ cs) i 0) × (get_or (c ∷ cs) i 0 ≤ 57)
alone c cs zero e none h = (omega arith, omega arith)
alone c cs (suc i) e none h = absurd (omega arith)

-- each byte of a numeral is a digit
pub digit_at : (xs : List ℕ) (i : ℕ) → is_numeral xs ≡ true → i < length xs → (48 ≤ get_or xs i 0) × (get_or xs i 0 ≤ 57)
digit_at [] i e h = absurd (omega arith)
digit_at (c ∷ cs) i e h = elim (cases_Bool (is_ascii_digit (get_or (c ∷ cs) i 0))) [
  | inl digit ↦ grind arith
  | inr other ↦
      let some : list_all is_ascii_digit (c ∷ cs) ≡ false = list_all_at is_ascii_digit (c ∷ cs) i 0 h other in
      elim (cases_Bool (c == 48)) [
        | inl first ↦ alone c cs i (eqb-true _ _ first) (eqb-true _ _ (rw first at e)) h
        | inr more ↦ let bad : false ≡ true = sym some ∙ rw more at e in cc bad
      ]
]

-- the number of the digits so far, and of one more
pub value_more : (xs : List ℕ) (i n : ℕ) → is_numeral xs ≡ true → i < length xs → n ≡ digits_value 10 (take i xs) → 10 * n + (get_or xs i 0 - 48) ≡ digits_value 10 (take (i + 1) xs)
value_more xs i n e h is =
    let digit = digit_at xs i e h in
    let value = digit_value_digit (get_or xs i 0) digit in
    let more = digits_value_more 10 xs i h in
    omega (arith, value, more, is, digit)

-- a numeral of which some front is above the range
pub number_in-above : (low high n i : ℕ) (xs : List ℕ) → is_numeral xs ≡ true → n ≡ digits_value 10 (take i xs) → high < n → number_in low high xs ≡ Err fault_kind.OutOfRange
number_in-above low high n i xs e is h =
    let grows = digits_value-take-le 10 xs i (omega arith) in
    let above : high < digits_value 10 xs = omega (arith, grows, is) in
    let test : nat_le (digits_value 10 xs) high ≡ false = grind arith in
    rw (e, test) (search rules)
