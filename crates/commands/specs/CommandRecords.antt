-- The first record of a command.
use Rattle.std.specs.Prelude.{◌≤◌, Bool, true, codes, Result, Ok, if◌then◌else◌}
use Rattle.csv.specs.Records.{field_at}
use Rattle.commands.specs.declared.command.Control.{Control}
use Rattle.commands.specs.declared.command.Control.TheVariants as control
use Rattle.commands.specs.declared.command_record.TheConstants.{LAST_SEQUENCE}
use Rattle.commands.specs.declared.command_record.Opening.{Opening}
use Rattle.commands.specs.declared.command_record.Opening.TheVariants as opening
use Rattle.records.specs.Fields.{Fields, ◌>>=◌, is_text, number_at, of_count}
use Rattle.records.specs.declared.fault.FaultKind.{FaultKind}
use Rattle.requests.specs.BatchRecords.{head_at}

-- a command of one field
abbrev pub alone_at : Fields → Control → Result Control FaultKind
alone_at fields c = of_count 1 fields (Ok c)

-- `R,sequence`
abbrev pub rollback_at : Fields → Result Control FaultKind
rollback_at fields = of_count 2 fields (number_at fields 1 0 LAST_SEQUENCE >>= (λ n. Ok (control.RollbackTo n)))

-- `C`, `R,sequence`, `T`, `I`, `A`, or the record that begins a batch
abbrev pub opening_at : Fields → Result Opening FaultKind
opening_at fields =
    if is_text (codes "C") (field_at fields 0) then alone_at fields control.Commit >>= (λ c. Ok (opening.Control c))
    else if is_text (codes "R") (field_at fields 0) then rollback_at fields >>= (λ c. Ok (opening.Control c))
    else if is_text (codes "T") (field_at fields 0) then alone_at fields control.State >>= (λ c. Ok (opening.Control c))
    else if is_text (codes "I") (field_at fields 0) then alone_at fields control.Image >>= (λ c. Ok (opening.Control c))
    else if is_text (codes "A") (field_at fields 0) then alone_at fields control.At >>= (λ c. Ok (opening.Control c))
    else head_at fields >>= (λ head. Ok (opening.Batch head))

-- the first field is a command's: no request begins with one of these
abbrev pub names_command : Fields → Bool
names_command fields =
    if is_text (codes "B") (field_at fields 0) then true
    else if is_text (codes "C") (field_at fields 0) then true
    else if is_text (codes "R") (field_at fields 0) then true
    else if is_text (codes "T") (field_at fields 0) then true
    else if is_text (codes "I") (field_at fields 0) then true
    else is_text (codes "A") (field_at fields 0)

-- a batch that begins has at most 1,024 requests
abbrev pub IsShortOpening : Opening → Type 0
IsShortOpening (opening.Batch head) = head.count ≤ 1024
IsShortOpening (opening.Control c) = Unit {0}
