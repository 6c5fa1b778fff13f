-- What a source gave between two states.
use Rattle.std.specs.Prelude.{◌≡◌, ℕ, ◌<◌, List, ◌++◌, length, Option, IfSome}
use Rattle.records.specs.declared.fault.ReadError.{ReadError}
use Rattle.records.specs.declared.fault.ReadError.TheVariants as read_error

-- this holds of the bytes that it gave
abbrev pub Gave : List ℕ → List ℕ → (List ℕ → Type 0) → Type 0
Gave before after promise = (bytes : List ℕ) × (after ≡ before ++ bytes) × promise bytes

-- this holds of the bytes that it gave, and of those that it had left, if known
abbrev pub OfSource : Option (List ℕ) → List ℕ → List ℕ → (List ℕ → Type 0) → Type 0
OfSource left before after promise = IfSome left promise × Gave before after promise

-- if too many bytes are reported, they are
abbrev pub IsOverLong : ReadError → ℕ → List ℕ → Type 0
IsOverLong e limit bytes = e ≡ read_error.InputTooLong → limit < length bytes
