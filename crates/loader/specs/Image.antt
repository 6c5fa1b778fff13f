-- The database of an image, or its fault.
use Rattle.std.specs.Prelude.{◌≡◌, ◌⊎◌, ◌==◌, ◌&&◌, ◌+◌, ◌-◌, ◌<◌, ◌∷◌, [], Bool, ℕ, List, length, codes, decimal, Option, Some, None, Result, Ok, Err, if◌then◌else◌}
use Rattle.csv.specs.Records.{field_at}
use Rattle.records.specs.Fields.{Fields, is_text}
use Rattle.records.specs.Records.{records_in}
use Rattle.records.specs.declared.fault.FaultKind.{FaultKind}
use Rattle.tpcc_model.specs.Database.{Database}
use Rattle.image_checks.specs.Checks.{checked}
use Rattle.image_records.specs.Faults.{fault_of}
use Rattle.image_records.specs.ImageRecords.{record_at}
use Rattle.image_records.specs.Versions.{version_of}
use Rattle.loader.specs.Tables.{is_taken, no_tables, with_record}
use Rattle.image_records.specs.declared.fault.LoadError.{LoadError}
use Rattle.image_records.specs.declared.fault.LoadError.TheVariants as err
use Rattle.image_records.specs.declared.image_record.ImageRecord.{ImageRecord}
use Rattle.image_records.specs.declared.version.Version.{Version}

-- how the database so far continues
abbrev pub Rest : Type 0
Rest = Database → Result Database LoadError

-- adds the record with number n, unless its key is taken, and continues
abbrev pub placed : ℕ → Database → Result ImageRecord FaultKind → Rest → Result Database LoadError
placed n db (Err e) rest = Err (fault_of n e)
placed n db (Ok said) rest = if is_taken db said then Err (err.Duplicate n) else rest (with_record db said)

abbrev pub is_end : Fields → Bool
is_end fields = is_text (codes "E") (field_at fields 0)

-- `E,count`, with the number of records between the first and this one, which is number n
abbrev pub counts : ℕ → Fields → Bool
counts n fields = (length fields == 2) && is_text (decimal (n - 2)) (field_at fields 1)

-- nothing follows the end record
abbrev pub ended : List Fields → ℕ → Database → Result Database LoadError
ended [] n db = Ok db
ended (r ∷ rs) n db = Err (err.BadRecord n)

-- adds these records, the first of which is number n
unfoldable pub read_from : Version → List Fields → ℕ → Database → Result Database LoadError
read_from version [] n db = Err err.Truncated
read_from version (r ∷ rs) n db =
    if is_end r then (if counts n r then ended rs (n + 1) db else Err (err.BadRecord n))
    else placed n db (record_at version r) (read_from version rs (n + 1))

-- the tables of the records after the first, which names the version
abbrev pub read_as : Option Version → List Fields → Result Database LoadError
read_as None rs = Err (err.BadRecord 1)
read_as (Some version) rs = read_from version rs 2 no_tables

-- the tables of all records
unfoldable pub read_all : List Fields → Result Database LoadError
read_all [] = Err err.Truncated
read_all (r ∷ rs) = read_as (version_of r) rs

-- parents and conditions are checked after all records
abbrev pub tested : Result Database LoadError → Result Database LoadError
tested (Ok db) = checked db
tested (Err e) = Err e

-- the maximum size of an image, in bytes
abbrev pub most_bytes : ℕ
most_bytes = 4294967295

-- the database of an image, which is sound, or its fault
abbrev pub image : List ℕ → Result Database LoadError
image bytes = tested (read_all (records_in bytes))

-- the bytes aren't an image, are too many, couldn't be read, or memory was refused
abbrev pub IsUnread : LoadError → List ℕ → Type 0
IsUnread e bytes = (e ≡ err.Memory) ⊎ (e ≡ err.Read) ⊎ ((e ≡ err.InputTooLong) × (most_bytes < length bytes)) ⊎ (image bytes ≡ Err e)
