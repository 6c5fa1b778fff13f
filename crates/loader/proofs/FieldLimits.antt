-- What is read from a field is within limits.
use Rattle.std.proofs.Common.{◌≡◌, ◌≤◌, ◌+◌, ◌-ℤ◌, ℕ, zero, suc, ℤ, pos, List, [], ◌∷◌, ◌&&◌, Bool, true, false, cond, Option, Some, None, IfSome, Result, Ok, Err, refl, ap, arith, inl, inr}
use Rattle.std.specs.Prelude.{IfOk, length, nat_le, ◌==◌, codes}
use Rattle.std.specs.List.{AllByRecursion, list_all}
use Rattle.std.specs.Str.{bytes_eq}
use Rattle.std.specs.Str.Parse.{digits_value}
use Rattle.std.proofs.lemmas.Int.{ints}
use Rattle.std.proofs.lemmas.Bool.{cases_Bool}
use Rattle.std.proofs.lemmas.List.Elements.{All-cons, All-nil}
use Rattle.std.proofs.lemmas.Bool.Decides.{nat_tests}
use Rattle.csv.specs.Records.{field_at}
use Rattle.records.specs.Fields.{◌>>=◌, Fields, below_zero, in_range, is_numeral, is_text as is_field, number_at, number_in, number_or_null_at, said_by, signed_at, signed_in, text_at, text_in}
use Rattle.records.specs.declared.fault.FaultKind.{FaultKind}
use Rattle.records.specs.declared.fault.FaultKind.TheVariants as fault_kind
use Rattle.tpcc_rows.specs.Limits.{IsBetween, IsCents, IsStockQuantity}
use Rattle.tpcc_rows.specs.Texts.{ArePrintable, IsPrintable, IsText, is_printable, is_text}
use Rattle.image_records.specs.Columns.{texts_at}
use Rattle.tpcc_rows.proofs.Singles.{and-left, and-right}

-- a field and what is made of it
pub then-gives : {A B : Type 0} (P : A → Type 0) (Q : B → Type 0) (r : Result A FaultKind) (f : A → Result B FaultKind) → IfOk r P → ((a : A) → P a → IfOk (f a) Q) → IfOk (r >>= f) Q
then-gives P Q (Ok a) f h more = more a h
then-gives P Q (Err e) f h more = tt

-- a field without limits
pub any-gives : {A B : Type 0} (Q : B → Type 0) (r : Result A FaultKind) (f : A → Result B FaultKind) → ((a : A) → IfOk (f a) Q) → IfOk (r >>= f) Q
any-gives Q (Ok a) f more = more a
any-gives Q (Err e) f more = tt

test-gives : {A : Type 0} (P : A → Type 0) (b : Bool) (r : Result A FaultKind) (e : FaultKind) → (b ≡ true → IfOk r P) → IfOk (cond b r (Err e)) P
test-gives P true r e h = h refl
test-gives P false r e h = tt

number_in-within : (low high : ℕ) (bytes : List ℕ) → IfOk (number_in low high bytes) (IsBetween low high)
number_in-within low high bytes = test-gives (IsBetween low high) (is_numeral bytes) (in_range low high (digits_value 10 bytes)) fault_kind.BadField (λ _.
    test-gives (IsBetween low high) (nat_le low (digits_value 10 bytes) && nat_le (digits_value 10 bytes) high) (Ok (digits_value 10 bytes)) fault_kind.OutOfRange (λ test.
    let above = and-left (nat_le low (digits_value 10 bytes)) (nat_le (digits_value 10 bytes) high) test in
    let below = and-right (nat_le low (digits_value 10 bytes)) (nat_le (digits_value 10 bytes) high) test in
    (grind (arith, nat_tests), grind (arith, nat_tests))))

-- the field at an index
said_by-within : {A : Type 0} (P : A → Type 0) (says : List ℕ → Result A FaultKind) → ((bytes : List ℕ) → IfOk (says bytes) P) → (field : Option (List ℕ)) → IfOk (said_by says field) P
said_by-within P says all None = tt
said_by-within P says all (Some bytes) = all bytes

pub number_at-within : (fields : Fields) (i low high : ℕ) → IfOk (number_at fields i low high) (IsBetween low high)
number_at-within fields i low high = said_by-within (IsBetween low high) (number_in low high) (number_in-within low high) (field_at fields i)

-- a signed number with these limits
module _ (most : ℕ) (P : ℤ → Type 0) (above : (n : ℕ) → n ≤ most → P (pos n)) (below : (n : ℕ) → n ≤ most → P (pos 0 -ℤ pos n)) where
  below_zero-within : (digits : List ℕ) → IfOk (below_zero most digits) P
  below_zero-within digits = elim (cases_Bool (bytes_eq digits (codes "0"))) [
    | inl none ↦ rw none tt
    | inr other ↦ rw other (then-gives (IsBetween 0 most) P (number_in 0 most digits) (λ n. Ok (pos 0 -ℤ pos n)) (number_in-within 0 most digits) (λ n h. below n h.1))
  ]

  signed_in-within : (bytes : List ℕ) → IfOk (signed_in most bytes) P
  signed_in-within [] = tt
  signed_in-within (b ∷ bytes) = elim (cases_Bool (b == 45)) [
    | inl sign ↦ rw sign (below_zero-within bytes)
    | inr other ↦ rw other (then-gives (IsBetween 0 most) P (number_in 0 most (b ∷ bytes)) (λ n. Ok (pos n)) (number_in-within 0 most (b ∷ bytes)) (λ n h. above n h.1))
  ]

  signed_at-within : (fields : Fields) (i : ℕ) → IfOk (signed_at fields i most) P
  signed_at-within fields i = said_by-within P (signed_in most) signed_in-within (field_at fields i)

pub cents_at-within : (fields : Fields) (i : ℕ) → IfOk (signed_at fields i 1000000000000000) IsCents
cents_at-within = signed_at-within 1000000000000000 IsCents (λ n most. (omega (arith, ints, most), omega (arith, ints, most))) (λ n most. (omega (arith, ints, most), omega (arith, ints, most)))

pub quantity_at-within : (fields : Fields) (i : ℕ) → IfOk (signed_at fields i 9999) IsStockQuantity
quantity_at-within = signed_at-within 9999 IsStockQuantity (λ n most. (omega (arith, ints, most), omega (arith, ints, most))) (λ n most. (omega (arith, ints, most), omega (arith, ints, most)))

-- a number, or null
pub number_or_null_at-within : (fields : Fields) (i low high : ℕ) → IfOk (number_or_null_at fields i low high) (λ o. IfSome o (IsBetween low high))
number_or_null_at-within fields i low high = elim (cases_Bool (is_field (codes "-") (field_at fields i))) [
  | inl dash ↦ rw dash tt
  | inr other ↦ rw other (then-gives (IsBetween low high) (λ o. IfSome o (IsBetween low high)) (number_at fields i low high) (λ n. Ok (Some n)) (number_at-within fields i low high) (λ n h. h))
]

pub printable-all : (xs : List ℕ) → list_all is_printable xs ≡ true → ArePrintable xs
printable-all [] h = All-nil IsPrintable
printable-all (x ∷ xs) h =
    let here = and-left (is_printable x) (list_all is_printable xs) h in
    let low = and-left (nat_le 32 x) (nat_le x 126) here in
    let high = and-right (nat_le 32 x) (nat_le x 126) here in
    All-cons IsPrintable x xs (grind (arith, nat_tests), grind (arith, nat_tests)) (printable-all xs (and-right (is_printable x) (list_all is_printable xs) h))

text_in-within : (most : ℕ) (bytes : List ℕ) → IfOk (text_in most bytes) (IsText most)
text_in-within most bytes = elim (cases_Bool (is_text most bytes)) [
  | inl good ↦
      let short = and-left (nat_le (length bytes) most) (list_all is_printable bytes) good in
      rw good (record { fits = grind (arith, nat_tests); printable = printable-all bytes (and-right (nat_le (length bytes) most) (list_all is_printable bytes) good) })
  | inr bad ↦ rw bad tt
]

pub text_at-within : (fields : Fields) (i most : ℕ) → IfOk (text_at fields i most) (IsText most)
text_at-within fields i most = said_by-within (IsText most) (text_in most) (text_in-within most) (field_at fields i)

-- as many texts as wanted
pub texts_at-within : (fields : Fields) (i count most : ℕ) → IfOk (texts_at fields i count most) (λ ts. (length ts ≡ count) × AllByRecursion (IsText most) ts)
unfolding texts_at
texts_at-within fields i zero most = (refl, tt)
texts_at-within fields i (suc count) most =
    then-gives (IsText most) _ (text_at fields i most) _ (text_at-within fields i most) (λ t t_is.
    then-gives (λ ts. (length ts ≡ count) × AllByRecursion (IsText most) ts) _ (texts_at fields (i + 1) count most) _ (texts_at-within fields (i + 1) count most) (λ ts are.
    (ap (λ n. suc n) are.0, (t_is, are.1))))
