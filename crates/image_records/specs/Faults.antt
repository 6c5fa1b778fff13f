-- Faults of an image.
use Rattle.std.specs.Prelude.{◌≡◌, ◌⊎◌, ℕ, List, codes, Option, Some, None, Result, Ok, Err, MatchResult}
use Rattle.records.specs.declared.fault.FaultKind.{FaultKind}
use Rattle.records.specs.declared.fault.FaultKind.TheVariants as fault_kind
use Rattle.image_records.specs.declared.fault.LoadError.{LoadError}
use Rattle.image_records.specs.declared.fault.LoadError.TheVariants as err
use Rattle.image_records.specs.declared.record_fault.RecordFault.{RecordFault}
use Rattle.image_records.specs.declared.record_fault.RecordFault.TheVariants as record_fault

abbrev pub code_of : LoadError → ℕ
code_of (err.BadRecord n) = 1
code_of (err.Duplicate n) = 2
code_of err.MissingParent = 3
code_of (err.Inconsistent k) = 4
code_of (err.LimitReached n) = 5
code_of err.Memory = 6
code_of err.Read = 7
code_of err.Truncated = 8
code_of err.InputTooLong = 9

abbrev pub name_of : LoadError → List ℕ
name_of (err.BadRecord n) = codes "BadRecord"
name_of (err.Duplicate n) = codes "Duplicate"
name_of err.MissingParent = codes "MissingParent"
name_of (err.Inconsistent k) = codes "Inconsistent"
name_of (err.LimitReached n) = codes "LimitReached"
name_of err.Memory = codes "Memory"
name_of err.Read = codes "Read"
name_of err.Truncated = codes "Truncated"
name_of err.InputTooLong = codes "InputTooLong"

-- the number of the bad record
abbrev pub place_of : LoadError → Option ℕ
place_of (err.BadRecord n) = Some n
place_of (err.Duplicate n) = Some n
place_of err.MissingParent = None
place_of (err.Inconsistent k) = None
place_of (err.LimitReached n) = Some n
place_of err.Memory = None
place_of err.Read = None
place_of err.Truncated = None
place_of err.InputTooLong = None

-- the fault of the record with this number; only a number outside its limits is told apart
abbrev pub fault_of : ℕ → FaultKind → LoadError
fault_of n fault_kind.OutOfRange = err.LimitReached n
fault_of n fault_kind.BadField = err.BadRecord n
fault_of n fault_kind.WrongCount = err.BadRecord n
fault_of n fault_kind.UnknownKind = err.BadRecord n
fault_of n fault_kind.BatchTooLong = err.BadRecord n

-- a record's fault is the definition's, or memory is refused
abbrev pub IsFaultOf : {A : Type 0} → Result A FaultKind → RecordFault → Type 0
IsFaultOf definition (record_fault.OfKind e) = definition ≡ Err e
IsFaultOf definition record_fault.Memory = Unit {0}

-- a record is read as defined, or memory is refused
abbrev pub Reads : {A : Type 0} → Result A FaultKind → Result A RecordFault → Type 0
Reads definition result = MatchResult result (λ x. definition ≡ Ok x) (IsFaultOf definition)

-- the source couldn't be read, was too long, or memory was refused
abbrev pub IsOfReading : LoadError → Type 0
IsOfReading err.Memory = Unit {0}
IsOfReading err.Read = Unit {0}
IsOfReading err.InputTooLong = Unit {0}
IsOfReading (err.BadRecord n) = ⊥
IsOfReading (err.Duplicate n) = ⊥
IsOfReading err.MissingParent = ⊥
IsOfReading (err.Inconsistent k) = ⊥
IsOfReading (err.LimitReached n) = ⊥
IsOfReading err.Truncated = ⊥

-- this fault, or refused memory
abbrev pub StopsBy : {A : Type 0} → LoadError → Result A LoadError → Type 0
StopsBy e said = (e ≡ err.Memory) ⊎ (said ≡ Err e)

-- the faults of a text, and refused memory
abbrev pub IsOfText : LoadError → Type 0
IsOfText err.Read = ⊥
IsOfText err.InputTooLong = ⊥
IsOfText _ = Unit {0}
