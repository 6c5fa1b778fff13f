-- What a reader of commands has yet to give.
use Rattle.std.specs.Io.KnownBytes.{prepend_known}
use Rattle.std.specs.Prelude.{◌≤◌, ℕ, Bool, true, false, List, [], Option, Some, None, drop, take, option_map, if◌then◌else◌}
use Rattle.commands.specs.Commands.{CommandsLeft, Hearing, Progress, behind, between, commands_of, counted}
use Rattle.commands.specs.Rows.{Rows, rows_from}
use Rattle.commands.specs.Machine.{state_of}
use Rattle.commands.specs.declared.chunk.Chunk.{Chunk}
use Rattle.commands.specs.declared.command.Heard.{Heard}
use Rattle.commands.specs.declared.command.Heard.TheVariants as heard
use Rattle.commands.specs.declared.command_reader.CommandReader.TheInside.{Inside}
use Rattle.commands.specs.declared.command_reader.Standing.{Standing}
use Rattle.commands.specs.declared.command_reader.Standing.TheVariants as standing
use Rattle.commands.specs.declared.record_reader.RecordReader.{RecordReader}
use Rattle.commands.specs.declared.record_reader.TheConstants.{LAST_RECORD}
use Rattle.csv.specs.Reading.{strip_bom}
use Rattle.records.specs.declared.fault.ReadError.{ReadError}
use Rattle.requests.specs.Batches.{clean, fault}

-- ---- bytes and records
-- the bytes pulled and not yet read, then the source's
abbrev pub pulled : Chunk → Option (List ℕ) → Option (List ℕ)
pulled chunk known = prepend_known (drop chunk.at (take chunk.filled chunk.buffer)) known

-- the bytes pulled and not yet read, once the text was begun
abbrev pub unread_of : RecordReader → Option (List ℕ)
unread_of reader = if reader.has_begun then Some (drop reader.chunk.at (take reader.chunk.filled reader.chunk.buffer)) else None

-- these bytes, then the source's; a text not yet begun loses its byte order mark
abbrev pub before : Option (List ℕ) → Option (List ℕ) → Option (List ℕ)
before None known = option_map strip_bom known
before (Some bytes) known = prepend_known bytes known

-- the bytes that a reader has left
abbrev pub bytes_left : RecordReader → Option (List ℕ) → Option (List ℕ)
bytes_left reader known = before (unread_of reader) known

-- the records of the pulled bytes and the source's, if known
abbrev pub rows_pulled : RecordReader → Option (List ℕ) → Option Rows
rows_pulled reader known = option_map (λ bytes. rows_from (state_of reader.state) [] [] 0 bytes) (pulled reader.chunk known)

-- the records that a reader has yet to give, if its bytes are known
abbrev pub rows_left : RecordReader → Option (List ℕ) → Option Rows
rows_left reader known = option_map (λ bytes. rows_from (state_of reader.state) [] [] 0 bytes) (bytes_left reader known)

-- this holds between what was known before and what is after; what is known stays known
abbrev pub Turns : {A : Type 0} → Option A → Option A → (A → A → Type 0) → Type 0
Turns None new P = Unit {0}
Turns (Some old) None P = ⊥
Turns (Some old) (Some new) P = P old new

-- this holds if it is known
abbrev pub WhereKnown : {A : Type 0} → Option A → (A → Type 0) → Type 0
WhereKnown None P = Unit {0}
WhereKnown (Some a) P = P a

-- ---- commands
-- the commands of these records
abbrev pub hearing_of : Option Rows → ℕ → ℕ → Progress → Option Hearing
hearing_of rows n spent progress = option_map (λ rs. commands_of rs n spent progress) rows

-- the commands of these records, behind the one of this number, which ends this many bytes of a command
abbrev pub following : Rows → ℕ → ℕ → Progress → Hearing
following rows n spent progress = commands_of rows n (counted spent progress) progress

-- the progress of a reader between commands
abbrev pub gap : Bool → Progress
gap true = behind
gap false = between

-- the same after what was heard
abbrev pub gap_after : Heard → Progress
gap_after (heard.Command c) = between
gap_after (heard.Fault f) = behind

-- what is left at the end or after an error
abbrev pub left_by : Bool → Option ReadError → Option Hearing → Option Hearing
left_by over (Some e) left = Some ([], fault e)
left_by true None left = Some ([], clean)
left_by false None left = left

-- the commands that a reader has yet to give, if its source has these bytes left
abbrev pub heard_from : CommandsLeft → Option (List ℕ) → Option Hearing
heard_from left known =
    left_by left.is_over left.stopped (hearing_of (option_map (λ bytes. rows_from left.state [] [] 0 bytes) (before left.unread known)) left.read 0 (gap left.is_behind))

abbrev pub is_over : Standing → Bool
is_over standing.Going = false
is_over standing.Done = true
is_over (standing.Stopped e) = false

-- the error returned, if any
abbrev pub stopped_by : Standing → Option ReadError
stopped_by standing.Going = None
stopped_by standing.Done = None
stopped_by (standing.Stopped e) = Some e

abbrev pub left_of : Inside → CommandsLeft
left_of c = record {
  unread = unread_of c.records;
  state = state_of c.records.state;
  is_behind = c.is_behind;
  read = c.records.read;
  is_over = is_over c.standing;
  stopped = stopped_by c.standing;
}

-- each record read has a number
abbrev pub IsSteady : Inside → Type 0
IsSteady c = c.records.read ≤ LAST_RECORD
