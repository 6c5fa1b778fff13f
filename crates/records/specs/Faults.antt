-- How faults in an input are reported.
use Rattle.std.specs.Prelude.{ℕ, List, codes, Option, Some, None}
use Rattle.records.specs.declared.fault.ReadError.{ReadError}
use Rattle.records.specs.declared.fault.ReadError.TheVariants as err

abbrev pub code_of : ReadError → ℕ
code_of (err.BadField n) = 1
code_of (err.WrongCount n) = 2
code_of (err.OutOfRange n) = 3
code_of (err.UnknownKind n) = 4
code_of (err.BatchTooLong n) = 5
code_of err.Memory = 6
code_of err.Read = 7
code_of err.InputTooLong = 8

abbrev pub name_of : ReadError → List ℕ
name_of (err.BadField n) = codes "BadField"
name_of (err.WrongCount n) = codes "WrongCount"
name_of (err.OutOfRange n) = codes "OutOfRange"
name_of (err.UnknownKind n) = codes "UnknownKind"
name_of (err.BatchTooLong n) = codes "BatchTooLong"
name_of err.Memory = codes "Memory"
name_of err.Read = codes "Read"
name_of err.InputTooLong = codes "InputTooLong"

-- the record at fault
abbrev pub place_of : ReadError → Option ℕ
place_of (err.BadField n) = Some n
place_of (err.WrongCount n) = Some n
place_of (err.OutOfRange n) = Some n
place_of (err.UnknownKind n) = Some n
place_of (err.BatchTooLong n) = Some n
place_of err.Memory = None
place_of err.Read = None
place_of err.InputTooLong = None
