-- Numbers and records are read from how they are written.
use Rattle.std.proofs.Common.{◌≡◌, ◌∙◌, ◌≤◌, ◌<◌, ◌^◌, ℕ, zero, suc, ℤ, pos, negsuc, ◌-ℤ◌, List, [], ◌∷◌, length, get_or, Some, true, false, refl, sym, ap, arith, rules, inl, inr, map}
use Rattle.std.specs.Prelude.{Result, Ok, Err, codes, decimal, nat_le, ◌==◌, ◌&&◌}
use Rattle.std.specs.Char.{is_ascii_digit}
use Rattle.std.specs.Fmt.{signed_decimal}
use Rattle.std.specs.List.{list_all}
use Rattle.std.specs.Str.{bytes_eq}
use Rattle.std.specs.Str.Parse.{digits_value}
use Rattle.std.proofs.lemmas.Bool.{cases_Bool, eqb-true}
use Rattle.std.proofs.lemmas.Bool.Decides.{nat_tests}
use Rattle.std.proofs.lemmas.List.Elements.{All-head, All-tail}
use Rattle.std.proofs.lemmas.Fmt.{decimal-digits_value, decimal_digit, decimal_nonempty, digits_decimal, digits_value-decimal, first_decimal}
use Rattle.std.proofs.lemmas.Int.{ints}
use Rattle.std.proofs.lemmas.Slice.Eq.{bytes_eq-Decides}
use Rattle.std.proofs.lemmas.Str.Parse.{IsNumeralModel, numerals_by_value}
use Rattle.csv.specs.Machine.{next_record}
use Rattle.csv.specs.Writing.{read_back}
use Rattle.csv.specs.declared.parser.State.TheVariants as st
use Rattle.csv.proofs.RoundTrip.{read-write}
use Rattle.tpcc_rows.specs.Limits.{IsBetween}
use Rattle.tpcc_rows.specs.Texts.{ArePrintable, IsPrintable, IsText, is_printable}
use Rattle.records.specs.Fields.{◌>>=◌, Fields, IsWithin, in_range, is_numeral, number_in, signed_in, text_in}
use Rattle.records.specs.Records.{records_after}
use Rattle.records.specs.Spelling.{text_of_records}
use Rattle.records.specs.declared.fault.FaultKind.{FaultKind}
use Rattle.records.specs.declared.fault.FaultKind.TheVariants as fault_kind
use Rattle.records.proofs.RecordLemmas.{records_after-none, records_after-some}

own : IsNumeralModel (λ ds. list_all is_ascii_digit ds ≡ true) (digits_value 10)
own = numerals_by_value _ (search rules)

in_range-within : (low high n : ℕ) → low ≤ n → n ≤ high → in_range low high n ≡ Ok n
in_range-within low high n a b =
    let p : nat_le low n ≡ true = grind arith in
    let q : nat_le n high ≡ true = grind arith in
    rw (p, q) refl

-- digits of which the first isn't `0`
is_numeral-plain : (xs : List ℕ) → list_all is_ascii_digit xs ≡ true → 0 < length xs → 48 < get_or xs 0 0 → is_numeral xs ≡ true
is_numeral-plain [] digits some first = absurd (omega arith)
is_numeral-plain (c ∷ cs) digits some first = let plain : (c == 48) ≡ false = grind arith in rw plain digits

is_numeral-decimal : (n : ℕ) → n < 2 ^ 64 → is_numeral (decimal n) ≡ true
is_numeral-decimal zero h = rw (decimal_digit 0 (omega arith)) refl
is_numeral-decimal (suc n) h = is_numeral-plain (decimal (suc n)) (digits_decimal own (suc n) h) (decimal_nonempty (suc n) h) (first_decimal (suc n) (omega arith) h)

pub number_in-decimal : (low high n : ℕ) → low ≤ n → n ≤ high → n < 2 ^ 64 → number_in low high (decimal n) ≡ Ok n
number_in-decimal low high n a b h = rw (is_numeral-decimal n h, digits_value-decimal own n h) (in_range-within low high n a b)

-- a number within its limits
pub number-read : (low high n : ℕ) → IsBetween low high n → high < 2 ^ 64 → number_in low high (decimal n) ≡ Ok n
number-read low high n h small = let most = h.1 in number_in-decimal low high n h.0 h.1 (omega arith)

is_printable-all : (xs : List ℕ) → ArePrintable xs → list_all is_printable xs ≡ true
is_printable-all [] all = refl
is_printable-all (x ∷ xs) all =
    let here = All-head IsPrintable x xs all in
    let rest = is_printable-all xs (All-tail IsPrintable x xs all) in
    grind (arith, nat_tests)

-- a text within its length
pub text-read : (most : ℕ) (xs : List ℕ) → IsText most xs → text_in most xs ≡ Ok xs
text-read most xs h =
    let fits : nat_le (length xs) most ≡ true = (let short = h.fits in grind arith) in
    rw (fits, is_printable-all xs h.printable) refl

-- a `0` that stands alone
is_numeral-zero : (c : ℕ) (cs : List ℕ) → c ≡ 48 → length cs ≡ 0 → list_all is_ascii_digit (c ∷ cs) ≡ true
is_numeral-zero c [] e none = rw e refl
is_numeral-zero c (d ∷ ds) e none = absurd (omega arith)

-- what a numeral is, by its parts
is_numeral-parts : (xs : List ℕ) → is_numeral xs ≡ true → (list_all is_ascii_digit xs ≡ true) × (0 < length xs) × (get_or xs 0 0 ≡ 48 → length xs ≡ 1)
is_numeral-parts [] e = cc e
is_numeral-parts (c ∷ cs) e = elim (cases_Bool (c == 48)) [
  | inl first ↦
      let none : length cs ≡ 0 = eqb-true _ _ (rw first at e) in
      (is_numeral-zero c cs (eqb-true _ _ first) none, omega arith, λ _. omega (arith, none))
  | inr plain ↦ (rw plain at e, omega arith, λ z. let bad : true ≡ false = rw z at plain in cc bad)
]

ok-same : {A : Type 0} (x y : A) → ◌≡◌ {A = Result A FaultKind} (Ok x) (Ok y) → x ≡ y
ok-same x y e = cc e

in_range-value : (low high m n : ℕ) → in_range low high m ≡ Ok n → m ≡ n
in_range-value low high m n e = elim (cases_Bool (nat_le low m && nat_le m high)) [
  | inl good ↦ ok-same m n (rw good at e)
  | inr bad ↦ let no : ◌≡◌ {A = Result ℕ FaultKind} (Err fault_kind.OutOfRange) (Ok n) = rw bad at e in cc no
]

pub number_in-spelled : (low high n : ℕ) (bytes : List ℕ) → n < 2 ^ 64 → number_in low high bytes ≡ Ok n → bytes ≡ decimal n
number_in-spelled low high n bytes h e = elim (cases_Bool (is_numeral bytes)) [
  | inl good ↦
      let (digits, full, first) = is_numeral-parts bytes good in
      let value = in_range-value low high (digits_value 10 bytes) n (rw good at e) in
      sym (rw value at (decimal-digits_value own bytes digits full first (rw value h)))
  | inr bad ↦ let no : ◌≡◌ {A = Result ℕ FaultKind} (Err fault_kind.BadField) (Ok n) = rw bad at e in cc no
]

-- a text that doesn't begin with a sign
signed_in-plain : (most : ℕ) (xs : List ℕ) → 0 < length xs → 48 ≤ get_or xs 0 0 → signed_in most xs ≡ (number_in 0 most xs >>= λ n. Ok (pos n))
signed_in-plain most [] some digit = absurd (omega arith)
signed_in-plain most (c ∷ cs) some digit = let apart : (c == 45) ≡ false = grind arith in rw apart refl

first-digit : (n : ℕ) → n < 2 ^ 64 → 48 ≤ get_or (decimal n) 0 0
first-digit zero h = rw (decimal_digit 0 (omega arith)) (omega arith)
first-digit (suc n) h = let more = first_decimal (suc n) (omega arith) h in omega (arith, more)

not-zero : (n : ℕ) → suc n < 2 ^ 64 → bytes_eq (decimal (suc n)) (codes "0") ≡ false
not-zero n h = elim (cases_Bool (bytes_eq (decimal (suc n)) (codes "0"))) [
  | inl same ↦
      let is : decimal (suc n) ≡ codes "0" = (bytes_eq-Decides (decimal (suc n)) (codes "0")).0 same in
      let more : 48 < get_or (decimal (suc n)) 0 0 = first_decimal (suc n) (omega arith) h in
      let no : 48 < 48 = rw is at more in absurd (omega arith)
  | inr apart ↦ apart
]

pub signed_in-decimal : (most : ℕ) (z : ℤ) → IsWithin most z → most < 2 ^ 60 → signed_in most (signed_decimal z) ≡ Ok z
signed_in-decimal most (pos n) h small =
    let high = h.1 in
    let within : n ≤ most = omega (arith, ints, high) in
    let fits : n < 2 ^ 64 = omega arith in
    signed_in-plain most (decimal n) (decimal_nonempty n fits) (first-digit n fits) ∙ ap (λ (r : Result ℕ FaultKind). r >>= λ n. Ok (pos n)) (number_in-decimal 0 most n (omega arith) within fits)
signed_in-decimal most (negsuc n) h small =
    let low = h.0 in
    let within : suc n ≤ most = omega (arith, ints, low) in
    let fits : suc n < 2 ^ 64 = omega arith in
    let back : pos 0 -ℤ pos (suc n) ≡ negsuc n = omega (arith, ints) in
    rw (not-zero n fits, number_in-decimal 0 most (suc n) (omega arith) within fits) (ap (λ (z : ℤ). Ok z) back)

-- the records of a text of records
pub records_after-text : (rows : List Fields) → records_after st.StartRecord (Some (text_of_records rows)) ≡ map read_back rows
unfolding next_record
records_after-text [] = records_after-none st.StartRecord [] refl
records_after-text (row ∷ rows) = records_after-some st.StartRecord _ _ (read-write row (text_of_records rows)) ∙ ap (λ (t : List Fields). read_back row ∷ t) (records_after-text rows)
