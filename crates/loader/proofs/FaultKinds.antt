-- The faults of a text.
use Rattle.std.proofs.Common.{◌+◌, ℕ, List, [], ◌∷◌, Bool, true, false, cond, Option, Some, None, Result, Ok, Err, sym, subst, inl, inr}
use Rattle.records.specs.Fields.{Fields}
use Rattle.records.specs.Records.{records_in}
use Rattle.records.specs.declared.fault.FaultKind.{FaultKind}
use Rattle.records.specs.declared.fault.FaultKind.TheVariants as fault_kind
use Rattle.tpcc_model.specs.Database.{Database}
use Rattle.image_records.specs.Faults.{IsOfText, StopsBy, fault_of}
use Rattle.loader.specs.Image.{counts, ended, is_end, placed, read_all, read_as, read_from}
use Rattle.image_records.specs.ImageRecords.{record_at}
use Rattle.image_records.specs.Versions.{version_of}
use Rattle.loader.specs.Tables.{is_taken, no_tables, with_record}
use Rattle.image_records.specs.declared.fault.LoadError.{LoadError}
use Rattle.image_records.specs.declared.fault.LoadError.TheVariants as err
use Rattle.image_records.specs.declared.image_record.ImageRecord.{ImageRecord}
use Rattle.image_records.specs.declared.version.Version.{Version}

-- a result whose error, if any, is of this kind
abbrev Faults : Result Database LoadError → Type 0
Faults (Ok db) = Unit {0}
Faults (Err e) = IsOfText e

either : (b : Bool) (x y : Result Database LoadError) → Faults x → Faults y → Faults (cond b x y)
either true x y p q = p
either false x y p q = q

of_fault_kind : (n : ℕ) (s : FaultKind) → IsOfText (fault_of n s)
of_fault_kind n fault_kind.BadField = tt
of_fault_kind n fault_kind.WrongCount = tt
of_fault_kind n fault_kind.OutOfRange = tt
of_fault_kind n fault_kind.UnknownKind = tt
of_fault_kind n fault_kind.BatchTooLong = tt

placed-faults : (n : ℕ) (db : Database) (o : Result ImageRecord FaultKind) (rest : Database → Result Database LoadError) → ((d : Database) → Faults (rest d)) → Faults (placed n db o rest)
placed-faults n db (Err s) rest more = of_fault_kind n s
placed-faults n db (Ok said) rest more = either (is_taken db said) (Err (err.Duplicate n)) (rest (with_record db said)) tt (more (with_record db said))

ended-faults : (rs : List Fields) (n : ℕ) (db : Database) → Faults (ended rs n db)
ended-faults [] n db = tt
ended-faults (r ∷ rs) n db = tt

read_from-faults : (version : Version) (rs : List Fields) (n : ℕ) (db : Database) → Faults (read_from version rs n db)
unfolding read_from
read_from-faults version [] n db = tt
read_from-faults version (r ∷ rs) n db = either (is_end r) _ _
    (either (counts n r) (ended rs (n + 1) db) (Err (err.BadRecord n)) (ended-faults rs (n + 1) db) tt)
    (placed-faults n db (record_at version r) (read_from version rs (n + 1)) (read_from-faults version rs (n + 1)))

read_as-faults : (version : Option Version) (rs : List Fields) → Faults (read_as version rs)
read_as-faults None rs = tt
read_as-faults (Some version) rs = read_from-faults version rs 2 no_tables

read_all-faults : (rs : List Fields) → Faults (read_all rs)
unfolding read_all
read_all-faults [] = tt
read_all-faults (r ∷ rs) = read_as-faults (version_of r) rs

-- a fault of a text's records is none of its source
pub stops-of_records : (e : LoadError) (bytes : List ℕ) → StopsBy e (read_all (records_in bytes)) → IsOfText e
stops-of_records e bytes (inl memory) = subst IsOfText (sym memory) tt
stops-of_records e bytes (inr fault) = subst Faults fault (read_all-faults (records_in bytes))
