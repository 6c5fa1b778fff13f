-- The values of a record's fields.
use Rattle.std.specs.Prelude.{Bool, false, ◌==◌, ◌&&◌, nat_le, ◌-ℤ◌, ◌≤ℤ◌, ℕ, ℤ, pos, List, [], ◌∷◌, length, codes, Option, Some, None, Result, Ok, Err, if◌then◌else◌}
use Rattle.std.specs.Char.{is_ascii_digit}
use Rattle.std.specs.List.{list_all}
use Rattle.std.specs.Option.{ok_or}
use Rattle.std.specs.Str.{bytes_eq}
use Rattle.std.specs.Str.Parse.{digits_value}
use Rattle.csv.specs.Records.{field_at}
use Rattle.tpcc_rows.specs.Texts.{text_of}
use Rattle.records.specs.declared.fault.FaultKind.{FaultKind}
use Rattle.records.specs.declared.fault.FaultKind.TheVariants as fault_kind

-- the fields of a record
abbrev pub Fields : Type 0
Fields = List (List ℕ)

-- field by field: the first fault from the left decides
infixl 10 ◌>>=◌
abbrev pub ◌>>=◌ : {A B : Type 0} → Result A FaultKind → (A → Result B FaultKind) → Result B FaultKind
(Ok x) >>= f = f x
(Err e) >>= f = Err e

-- `0`, or digits without a leading `0`
abbrev pub is_numeral : List ℕ → Bool
is_numeral [] = false
is_numeral (c ∷ cs) = if c == 48 then length cs == 0 else list_all is_ascii_digit (c ∷ cs)

-- a number from low to high
abbrev pub in_range : ℕ → ℕ → ℕ → Result ℕ FaultKind
in_range low high n = if nat_le low n && nat_le n high then Ok n else Err fault_kind.OutOfRange

-- the bytes as a number from low to high
abbrev pub number_in : ℕ → ℕ → List ℕ → Result ℕ FaultKind
number_in low high bytes = if is_numeral bytes then in_range low high (digits_value 10 bytes) else Err fault_kind.BadField

-- the value of the field at a place; a missing field is a fault
abbrev pub said_by : {A : Type 0} → (List ℕ → Result A FaultKind) → Option (List ℕ) → Result A FaultKind
said_by says None = Err fault_kind.WrongCount
said_by says (Some bytes) = says bytes

-- the number in the field at this place
abbrev pub number_at : Fields → ℕ → ℕ → ℕ → Result ℕ FaultKind
number_at fields i low high = said_by (number_in low high) (field_at fields i)

-- from -most to most
abbrev pub IsWithin : ℕ → ℤ → Type 0
IsWithin most z = ((pos 0 -ℤ pos most) ≤ℤ z) × (z ≤ℤ pos most)

-- a negative number, down to -most, from the digits after its sign: `-0` isn't one
abbrev pub below_zero : ℕ → List ℕ → Result ℤ FaultKind
below_zero most digits = if bytes_eq digits (codes "0") then Err fault_kind.BadField else number_in 0 most digits >>= λ n. Ok (pos 0 -ℤ pos n)

-- the bytes as a number from -most to most
abbrev pub signed_in : ℕ → List ℕ → Result ℤ FaultKind
signed_in most [] = Err fault_kind.BadField
signed_in most (c ∷ cs) = if c == 45 then below_zero most cs else number_in 0 most (c ∷ cs) >>= λ n. Ok (pos n)

abbrev pub signed_at : Fields → ℕ → ℕ → Result ℤ FaultKind
signed_at fields i most = said_by (signed_in most) (field_at fields i)

-- the bytes as a text of at most this length
abbrev pub text_in : ℕ → List ℕ → Result (List ℕ) FaultKind
text_in most bytes = ok_or (text_of most bytes) fault_kind.BadField

abbrev pub text_at : Fields → ℕ → ℕ → Result (List ℕ) FaultKind
text_at fields i most = said_by (text_in most) (field_at fields i)

-- a record's value, if it has this number of fields
abbrev pub of_count : {A : Type 0} → ℕ → Fields → Result A FaultKind → Result A FaultKind
of_count count fields said = if length fields == count then said else Err fault_kind.WrongCount

-- whether the field at a place is this text
abbrev pub is_text : List ℕ → Option (List ℕ) → Bool
is_text text None = false
is_text text (Some bytes) = bytes_eq bytes text

-- the number in the field at this place, or null for a dash
abbrev pub number_or_null_at : Fields → ℕ → ℕ → ℕ → Result (Option ℕ) FaultKind
number_or_null_at fields i low high = if is_text (codes "-") (field_at fields i) then Ok None else number_at fields i low high >>= λ n. Ok (Some n)
