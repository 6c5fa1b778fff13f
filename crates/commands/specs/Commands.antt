-- The commands that a text holds.
use Rattle.std.specs.Prelude.{◌≡◌, ◌⊎◌, ◌==◌, ◌+◌, ◌∷◌, ◌++◌, [], ℕ, nat_lt, Bool, true, false, List, length, Option, Some, None, Result, Ok, Err, if◌then◌else◌}
use Rattle.commands.specs.CommandRecords.{names_command, opening_at}
use Rattle.commands.specs.Rows.{Row, Rows, rows_in}
use Rattle.commands.specs.declared.command.Command.TheVariants as command
use Rattle.commands.specs.declared.command.Heard.{Heard}
use Rattle.commands.specs.declared.command.Heard.TheVariants as heard
use Rattle.commands.specs.declared.command_record.Opening.{Opening}
use Rattle.commands.specs.declared.command_record.Opening.TheVariants as opening
use Rattle.commands.specs.declared.record_reader.TheConstants.{LAST_RECORD, MOST_BYTES}
use Rattle.csv.specs.declared.parser.State.{State}
use Rattle.records.specs.Fields.{Fields}
use Rattle.records.specs.declared.fault.ReadError.{ReadError}
use Rattle.records.specs.declared.fault.ReadError.TheVariants as err
use Rattle.records.specs.declared.fault.FaultKind.{FaultKind}
use Rattle.requests.specs.BatchRecords.{request_at}
use Rattle.requests.specs.Batches.{End, batch_of, clean, fault}
use Rattle.requests.specs.declared.batch_record.BatchHead.{BatchHead}
use Rattle.requests.specs.declared.request.Request.{Request}

-- the commands, with the faults among them, then the end
abbrev pub Hearing : Type 0
Hearing = List Heard × End

abbrev pub with_front : Heard → Hearing → Hearing
with_front h hearing = (h ∷ hearing.0, hearing.1)

-- between commands, within a batch after these requests, or behind a fault, where records are skipped up to the next that names a
-- command
pub data Progress : Type 0 where
  between : Progress
  within : BatchHead → List Request → Progress
  behind : Progress

-- the fault of the record of this number
abbrev pub fault_at : ℕ → FaultKind → Heard
fault_at n fault_kind = heard.Fault (record { number = n; kind = fault_kind })

-- a batch with all its requests is complete, and reading continues behind it
abbrev pub settled : BatchHead → List Request → (Progress → Hearing) → Hearing
settled head requests rest =
    if length requests == head.count then with_front (heard.Command (command.Batch (batch_of head requests))) (rest between)
    else rest (within head requests)

-- a record that begins or is a command
abbrev pub opened : Opening → (Progress → Hearing) → Hearing
opened (opening.Batch head) rest = settled head [] rest
opened (opening.Control c) rest = with_front (heard.Command (command.Control c)) (rest between)

-- the record of this number begins a command, or is faulty
abbrev pub begun : ℕ → Result Opening FaultKind → (Progress → Hearing) → Hearing
begun n (Ok first) rest = opened first rest
begun n (Err fault_kind) rest = with_front (fault_at n fault_kind) (rest behind)

-- the record of this number is the batch's next request, or faulty: then the batch is dropped
abbrev pub continued : ℕ → BatchHead → List Request → Result Request FaultKind → (Progress → Hearing) → Hearing
continued n head requests (Ok request) rest = settled head (requests ++ request ∷ []) rest
continued n head requests (Err fault_kind) rest = with_front (fault_at n fault_kind) (rest behind)

-- the meaning of the record of this number, by progress
abbrev pub told : ℕ → Progress → Fields → (Progress → Hearing) → Hearing
told n between r rest = begun n (opening_at r) rest
told n (within head requests) r rest = continued n head requests (request_at r) rest
told n behind r rest = if names_command r then begun n (opening_at r) rest else rest behind

-- no record follows the one of this number
abbrev pub ended : ℕ → Progress → Hearing
ended n between = ([], clean)
ended n (within head requests) = ([], fault (err.WrongCount (n + 1)))
ended n behind = ([], clean)

-- this number of bytes, if a command may have as many
abbrev pub measured : ℕ → Hearing → Hearing
measured size hearing = if nat_lt MOST_BYTES size then ([], fault err.InputTooLong) else hearing

-- a record of this number, if a session may have as many
abbrev pub numbered : ℕ → Hearing → Hearing
numbered n hearing = if nat_lt LAST_RECORD n then ([], fault err.InputTooLong) else hearing

-- the bytes that count at a progress: those of an incomplete batch
abbrev pub counted : ℕ → Progress → ℕ
counted size between = 0
counted size (within head requests) = size
counted size behind = 0

-- the commands of these records, behind the one of this number and this many bytes of a command; this many bytes follow the last record
unfoldable pub commands_from : List Row → ℕ → ℕ → ℕ → Progress → Hearing
commands_from [] rest n spent progress = measured (spent + rest) (ended n progress)
commands_from (row ∷ rows) rest n spent progress =
    measured (spent + row.1) (numbered (n + 1) (told (n + 1) progress row.0 (λ next. commands_from rows rest (n + 1) (counted (spent + row.1) next) next)))

-- the same for records with the bytes behind them
abbrev pub commands_of : Rows → ℕ → ℕ → Progress → Hearing
commands_of rows n spent progress = commands_from rows.0 rows.1 n spent progress

-- the commands of a text, whose records are numbered from 1
abbrev pub commands : List ℕ → Hearing
commands bytes = commands_of (rows_in bytes) 0 0 between

-- ---- what a reader has yet to give
-- the bytes pulled and not yet read, if the text was begun; the state after the last byte read; whether a fault was met; the number
-- of records read; whether the text ended; and the error that stopped the reader, if any
pub record CommandsLeft : Type 0 where
  pub unread : Option (List ℕ)
  pub state : State
  pub is_behind : Bool
  pub read : ℕ
  pub is_over : Bool
  pub stopped : Option ReadError

-- a command or a fault was given
abbrev pub Gives : Heard → Option Hearing → Option Hearing → Type 0
Gives h None new = Unit {0}
Gives h (Some old) None = ⊥
Gives h (Some old) (Some new) = old ≡ with_front h new

-- none is left, nor a fault
abbrev pub IsOver : Option Hearing → Type 0
IsOver None = Unit {0}
IsOver (Some hearing) = hearing ≡ ([], clean)

-- why nothing is given: out of memory, a failed read, or a fault that ends the session
abbrev pub StopsBy : ReadError → Option Hearing → Type 0
StopsBy e None = Unit {0}
StopsBy e (Some hearing) = (e ≡ err.Memory) ⊎ (e ≡ err.Read) ⊎ (hearing ≡ ([], fault e))

-- the source failed
abbrev pub is_read : {A : Type 0} → Result A ReadError → Bool
is_read (Err err.Read) = true
is_read _ = false
