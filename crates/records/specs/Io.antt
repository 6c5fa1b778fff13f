-- The effect of a run of pulls or pushes.
use Rattle.std.specs.Prelude.{◌≡◌, ℕ, List, ◌++◌, Option}
use Rattle.std.specs.Io.KnownBytes.{Appends}
use Rattle.records.specs.declared.fault.ReadError.{ReadError}
use Rattle.records.specs.declared.fault.ReadError.TheVariants as err

-- the known bytes grow by a prefix of the text
abbrev pub AppendsFront : Option (List ℕ) → Option (List ℕ) → List ℕ → Type 0
AppendsFront old new text = (front : List ℕ) × (rest : List ℕ) × (text ≡ front ++ rest) × Appends old new front

-- why a whole input can't be read
abbrev pub IsOfWholeInput : ReadError → Type 0
IsOfWholeInput err.Memory = Unit {0}
IsOfWholeInput err.Read = Unit {0}
IsOfWholeInput err.InputTooLong = Unit {0}
IsOfWholeInput _ = ⊥
