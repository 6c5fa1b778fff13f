-- The database of an image is sound.
use Rattle.std.proofs.Common.{◌≡◌, ◌+◌, ℕ, List, [], ◌∷◌, Bool, true, false, not, cond, Option, Some, None, Result, Ok, Err, refl, subst}
use Rattle.std.specs.Prelude.{IfOk}
use Rattle.records.specs.Fields.{Fields}
use Rattle.records.specs.Records.{records_in}
use Rattle.records.specs.declared.fault.FaultKind.{FaultKind}
use Rattle.tpcc_model.specs.Database.{Database}
use Rattle.tpcc_model.specs.Soundness.{IsSound}
use Rattle.image_checks.specs.Checks.{parents_there, ytds_agree}
use Rattle.image_checks.specs.Districts.{line_counts_agree, next_orders_agree, spans_agree}
use Rattle.loader.specs.Image.{counts, ended, image, is_end, placed, read_all, read_as, read_from, tested}
use Rattle.image_records.specs.ImageRecords.{record_at}
use Rattle.image_records.specs.Versions.{version_of}
use Rattle.loader.specs.Tables.{is_taken, no_tables, with_record}
use Rattle.image_records.specs.declared.fault.LoadError.{LoadError}
use Rattle.image_records.specs.declared.fault.LoadError.TheVariants as err
use Rattle.image_records.specs.declared.image_record.ImageRecord.{ImageRecord}
use Rattle.image_records.specs.declared.version.Version.{Version}
use Rattle.loader.proofs.Filled.{IsFilled, IsRead, filled-more, filled-none}
use Rattle.loader.proofs.RecordLimits.{record_at-limits}
use Rattle.loader.proofs.Sound.{is-sound}

either : (P : Database → Type 0) (b : Bool) (x y : Result Database LoadError) → (b ≡ true → IfOk x P) → (b ≡ false → IfOk y P) → IfOk (cond b x y) P
either P true x y p q = p refl
either P false x y p q = q refl

placed-filled : (n : ℕ) (db : Database) (o : Result ImageRecord FaultKind) (rest : Database → Result Database LoadError) → IfOk o IsRead → IsFilled db → ((d : Database) → IsFilled d → IfOk (rest d) IsFilled)
    → IfOk (placed n db o rest) IsFilled
placed-filled n db (Err e) rest read filled more = tt
placed-filled n db (Ok said) rest read filled more = either IsFilled (is_taken db said) (Err (err.Duplicate n)) (rest (with_record db said)) (λ _. tt) (λ _. more (with_record db said) (filled-more db said read filled))

ended-filled : (rs : List Fields) (n : ℕ) (db : Database) → IsFilled db → IfOk (ended rs n db) IsFilled
ended-filled [] n db filled = filled
ended-filled (r ∷ rs) n db filled = tt

read_from-filled : (version : Version) (rs : List Fields) (n : ℕ) (db : Database) → IsFilled db → IfOk (read_from version rs n db) IsFilled
unfolding read_from
read_from-filled version [] n db filled = tt
read_from-filled version (r ∷ rs) n db filled = either IsFilled (is_end r) _ _
    (λ _. either IsFilled (counts n r) (ended rs (n + 1) db) (Err (err.BadRecord n)) (λ _. ended-filled rs (n + 1) db filled) (λ _. tt))
    (λ _. placed-filled n db (record_at version r) (read_from version rs (n + 1)) (record_at-limits r version) filled (read_from-filled version rs (n + 1)))

read_as-filled : (version : Option Version) (rs : List Fields) → IfOk (read_as version rs) IsFilled
read_as-filled None rs = tt
read_as-filled (Some version) rs = read_from-filled version rs 2 no_tables filled-none

read_all-filled : (rs : List Fields) → IfOk (read_all rs) IsFilled
unfolding read_all
read_all-filled [] = tt
read_all-filled (r ∷ rs) = read_as-filled (version_of r) rs

passed : (b : Bool) → not b ≡ false → b ≡ true
passed true h = refl
passed false h = cc

tested-sound : (said : Result Database LoadError) → IfOk said IsFilled → IfOk (tested said) IsSound
tested-sound (Err e) h = tt
tested-sound (Ok db) h =
    either IsSound (not (parents_there db)) (Err err.MissingParent) _ (λ _. tt) (λ parents.
    either IsSound (not (ytds_agree db.rows)) (Err (err.Inconsistent 1)) _ (λ _. tt) (λ ytds.
    either IsSound (not (next_orders_agree db.rows)) (Err (err.Inconsistent 2)) _ (λ _. tt) (λ nexts.
    either IsSound (not (spans_agree db.rows)) (Err (err.Inconsistent 3)) _ (λ _. tt) (λ spans.
    either IsSound (not (line_counts_agree db.rows)) (Err (err.Inconsistent 4)) (Ok db) (λ _. tt) (λ lines.
    is-sound db h (passed (parents_there db) parents) (passed (ytds_agree db.rows) ytds) (passed (next_orders_agree db.rows) nexts) (passed (spans_agree db.rows) spans) (passed (line_counts_agree db.rows) lines))))))

pub image-sound : (bytes : List ℕ) (db : Database) → image bytes ≡ Ok db → IsSound db
image-sound bytes db is = subst (λ (said : Result Database LoadError). IfOk said IsSound) is (tested-sound (read_all (records_in bytes)) (read_all-filled (records_in bytes)))
