-- The records of a text, one after the other.
use Rattle.std.proofs.Common.{◌≡◌, ◌∙◌, ◌≤◌, ◌<◌, ◌+◌, ℕ, zero, suc, List, [], ◌∷◌, ◌++◌, length, Option, Some, None, true, false, refl, sym, ap, arith, inl, inr, add-one}
use Rattle.std.specs.Borrow.{Bor}
use Rattle.std.proofs.lemmas.Bool.{cases_Bool}
use Rattle.csv.specs.Machine.{Read, ends_at_end, field_after, fields_after, is_end, next_record, step}
use Rattle.csv.specs.Reading.{Reached, ReadRecord, default_config, is_bom, records_from, records_next, source_of, strip_bom}
use Rattle.csv.specs.declared.parser.Config.{Config}
use Rattle.csv.specs.declared.parser.State.{State}
use Rattle.csv.specs.declared.parser.State.TheVariants as st
use Rattle.csv.specs.declared.reader.Reader.{Reader}
use Rattle.csv.proofs.ReadFacts.{rows-end, rows-more}
use Rattle.records.specs.Records.{IsGoing, records_after, records_in, records_left, rest_of}

some-injective : {A : Type 0} (x y : A) → Some x ≡ Some y → x ≡ y
some-injective x y e = cc e

-- a record takes no bytes twice
pub next_record-le : (cfg : Config) (s : State) (fields : List (List ℕ)) (field xs : List ℕ) (p : Read) → next_record cfg s fields field xs ≡ Some p → length p.2 ≤ length xs
unfolding next_record
next_record-le cfg s fields field [] p e = elim (cases_Bool (ends_at_end s)) [
  | inl ends ↦
      let q : (fields ++ (field ∷ []), st.StartRecord, []) ≡ p = some-injective _ _ (rw ends at e) in
      rw (sym q) (omega arith)
  | inr goes ↦ let bad : None ≡ Some p = rw goes at e in cc bad
]
next_record-le cfg s fields field (c ∷ rest) p e = elim (cases_Bool (is_end (step cfg s c).1)) [
  | inl ends ↦
      let q : (fields_after (step cfg s c).1 fields field, (step cfg s c).0, rest) ≡ p = some-injective _ _ (rw ends at e) in
      rw (sym q) (omega arith)
  | inr more ↦ let h = next_record-le cfg (step cfg s c).0 (fields_after (step cfg s c).1 fields field) (field_after (step cfg s c).1 c field) rest p (rw more at e) in omega (arith, h)
]

-- the same, of a text that is not empty
next_record-lt : (cfg : Config) (s : State) (fields : List (List ℕ)) (field : List ℕ) (c : ℕ) (rest : List ℕ) (p : Read) → next_record cfg s fields field (c ∷ rest) ≡ Some p → length p.2 ≤ length rest
unfolding next_record
next_record-lt cfg s fields field c rest p e = elim (cases_Bool (is_end (step cfg s c).1)) [
  | inl ends ↦
      let q : (fields_after (step cfg s c).1 fields field, (step cfg s c).0, rest) ≡ p = some-injective _ _ (rw ends at e) in
      rw (sym q) (omega arith)
  | inr more ↦ next_record-le cfg (step cfg s c).0 (fields_after (step cfg s c).1 fields field) (field_after (step cfg s c).1 c field) rest p (rw more at e)
]

-- no record is left at the end
records_from-end : (cfg : Config) (n : ℕ) → records_from cfg n st.StartRecord [] ≡ []
unfolding records_from next_record
records_from-end cfg zero = refl
records_from-end cfg (suc n) = refl

-- a last record with no byte of its own
next_record-last : (cfg : Config) (s : State) (p : Read) → next_record cfg s [] [] [] ≡ Some p → (p.1 ≡ st.StartRecord) × (p.2 ≡ [])
unfolding next_record
next_record-last cfg s p e = elim (cases_Bool (ends_at_end s)) [
  | inl ends ↦
      let q : ([] ++ ([] ∷ []), st.StartRecord, []) ≡ p = some-injective _ _ (rw ends at e) in
      (rw (sym q) refl, rw (sym q) refl)
  | inr goes ↦ let bad : None ≡ Some p = rw goes at e in cc bad
]

-- any count above the length gives all records
pub records_from-enough : (cfg : Config) (n m : ℕ) (s : State) (xs : List ℕ) → length xs < n → length xs < m → records_from cfg n s xs ≡ records_from cfg m s xs
unfolding records_from
records_from-enough cfg zero m s xs a b = absurd (omega arith)
records_from-enough cfg (suc n) zero s xs a b = absurd (omega arith)
records_from-enough cfg (suc n) (suc m) s [] a b = by (next_record cfg s [] [] []) refl
  where
    by : (o : Option Read) → next_record cfg s [] [] [] ≡ o → records_next (records_from cfg n) (next_record cfg s [] [] []) ≡ records_next (records_from cfg m) (next_record cfg s [] [] [])
    by None e = rw e refl
    by (Some p) e =
        let (start, done) = next_record-last cfg s p e in
        rw (e, start, done, records_from-end cfg n, records_from-end cfg m) refl
records_from-enough cfg (suc n) (suc m) s (c ∷ rest) a b = by (λ (s2 : State) (ys : List ℕ) (u : length ys < n) (v : length ys < m). records_from-enough cfg n m s2 ys u v) (next_record cfg s [] [] (c ∷ rest)) refl
  where
    by : ((s2 : State) (ys : List ℕ) → length ys < n → length ys < m → records_from cfg n s2 ys ≡ records_from cfg m s2 ys) → (o : Option Read) → next_record cfg s [] [] (c ∷ rest) ≡ o → records_next (records_from cfg n) (next_record cfg s [] [] (c ∷ rest)) ≡ records_next (records_from cfg m) (next_record cfg s [] [] (c ∷ rest))
    by more None e = rw e refl
    by more (Some p) e =
        let less = next_record-lt cfg s [] [] c rest p e in
        rw e (ap (λ (t : List (List (List ℕ))). p.0 ∷ t) (more p.1 p.2 (omega (arith, less)) (omega (arith, less))))

-- the first record, and those after it
pub records_after-some : (s : State) (xs : List ℕ) (p : Read) → next_record default_config s [] [] xs ≡ Some p → records_after s (Some xs) ≡ p.0 ∷ records_after p.1 (Some p.2)
unfolding records_from
records_after-some s [] p e =
    let (start, done) = next_record-last default_config s p e in
    rw (e, start, done, records_from-end default_config 1) refl
records_after-some s (c ∷ rest) p e =
    let less = next_record-lt default_config s [] [] c rest p e in
    rw (add-one (length (c ∷ rest)), e) (ap (λ (t : List (List (List ℕ))). p.0 ∷ t) (records_from-enough default_config (length (c ∷ rest)) (length p.2 + 1) p.1 p.2 (omega (arith, less)) (omega arith)))

pub records_after-none : (s : State) (xs : List ℕ) → next_record default_config s [] [] xs ≡ None → records_after s (Some xs) ≡ []
unfolding records_from
records_after-none s xs e = rw (add-one (length xs), e) refl

-- there are no more records than bytes, and one
pub records_from-length : (cfg : Config) (n : ℕ) (s : State) (xs : List ℕ) → length (records_from cfg n s xs) ≤ n
unfolding records_from
records_from-length cfg zero s xs = omega arith
records_from-length cfg (suc n) s xs = by (λ (s2 : State) (ys : List ℕ). records_from-length cfg n s2 ys) (next_record cfg s [] [] xs) refl
  where
    by : ((s2 : State) (ys : List ℕ) → length (records_from cfg n s2 ys) ≤ n) → (o : Option Read) → next_record cfg s [] [] xs ≡ o → length (records_next (records_from cfg n) (next_record cfg s [] [] xs)) ≤ suc n
    by more None e = rw e (omega arith)
    by more (Some p) e = rw e (let h = more p.1 p.2 in omega (arith, h))

-- the record that was read, by other names
renamed : (f : List (List ℕ)) (p : Read) (s : State) (xs : List ℕ) → f ≡ p.0 → p.1 ≡ s → p.2 ≡ xs → p.0 ∷ records_after p.1 (Some p.2) ≡ f ∷ records_after s (Some xs)
renamed f p s xs a b d = rw (a, b, d) refl

-- a read that found a record
pub records_left-found : (a b : Reader (Bor (List ℕ))) (f : List (List ℕ)) → IsGoing a → ReadRecord rest_of a b true f
    → (records_left a ≡ f ∷ records_left b) × (ys : List ℕ) × (source_of rest_of b ≡ Some ys)
unfolding Reached
records_left-found a b f going r =
    let xs = going.bytes in
    let (ys, after, reached) = rows-more rest_of a b f default_config a.state xs xs [] going.config going.known (refl, refl) r in
    let (p, next, fields, end) = reached in
    (rw (going.known, after) (records_after-some a.state xs p next ∙ renamed f p b.state ys fields end.0 end.1), ys, after)

-- a read that found none
pub records_left-none : (a b : Reader (Bor (List ℕ))) (f : List (List ℕ)) → IsGoing a → ReadRecord rest_of a b false f → records_left a ≡ []
records_left-none a b f going r =
    let xs = going.bytes in
    rw going.known (records_after-none a.state xs (rows-end rest_of a b f default_config xs going.config going.known r))

-- a text without its mark is no longer
length-strip_bom : (xs : List ℕ) → length (strip_bom xs) ≤ length xs
unfolding strip_bom
length-strip_bom [] = omega arith
length-strip_bom (a ∷ []) = omega arith
length-strip_bom (a ∷ b ∷ []) = omega arith
length-strip_bom (a ∷ b ∷ c ∷ rest) = elim (cases_Bool (is_bom a b c)) [ inl marked ↦ rw marked (omega arith) | inr plain ↦ rw plain (omega arith) ]

-- a text has no more records than bytes, and one
pub length-records_in : (xs : List ℕ) → length (records_in xs) ≤ length xs + 1
length-records_in xs =
    let count = records_from-length default_config (length (strip_bom xs) + 1) st.StartRecord (strip_bom xs) in
    let short = length-strip_bom xs in omega (arith, count, short)
