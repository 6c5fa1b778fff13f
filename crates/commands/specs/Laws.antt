-- Laws of commands: sessions read batches as runs do.
use Rattle.std.specs.Prelude.{◌≡◌, ◌⊎◌, ◌∷◌, ◌++◌, [], ℕ, List, map}
use Rattle.commands.specs.Commands.{Hearing, commands}
use Rattle.commands.specs.Rows.{rows_in}
use Rattle.commands.specs.declared.command.Command.TheVariants as command
use Rattle.commands.specs.declared.command.Heard.{Heard}
use Rattle.commands.specs.declared.command.Heard.TheVariants as heard
use Rattle.records.specs.Records.{records_in}
use Rattle.records.specs.declared.fault.ReadError.{ReadError}
use Rattle.records.specs.declared.fault.ReadError.TheVariants as err
use Rattle.requests.specs.Batches.{End, Reading, batches, clean, fault, fault_of}
use Rattle.requests.specs.declared.request.Batch.{Batch}

-- commands are read from the same records as batches
abbrev pub RowsAreRecords : Type 0
RowsAreRecords = (bytes : List ℕ) → map (λ row. row.0) (rows_in bytes).0 ≡ records_in bytes

-- a batch, as a session hears it
abbrev pub as_heard : Batch → Heard
as_heard batch = heard.Command (command.Batch batch)

-- after the batches before a fault a session hears that fault, as an answer or as its end; or the record of an unexpected kind is a
-- session's command, or meant as one
abbrev pub BeginsAlike : ReadError → List Heard → End → Type 0
BeginsAlike e [] end = end ≡ fault e
BeginsAlike e (heard.Fault f ∷ rest) end = (fault_of f.number f.kind ≡ e) ⊎ (e ≡ err.UnknownKind f.number)
BeginsAlike e (heard.Command (command.Control c) ∷ rest) end = (n : ℕ) × (e ≡ err.UnknownKind n)
BeginsAlike e (heard.Command (command.Batch batch) ∷ rest) end = ⊥

-- a session hears the batches that a run reads, and goes on where the run meets a fault
abbrev pub HearsAlike : Reading → Hearing → Type 0
HearsAlike (read, clean) hearing = hearing ≡ (map as_heard read, clean)
HearsAlike (read, fault e) hearing = (rest : List Heard) × (hearing.0 ≡ map as_heard read ++ rest) × BeginsAlike e rest hearing.1

-- so for every text within a session's limits
abbrev pub BatchesAreHeard : Type 0
BatchesAreHeard = (bytes : List ℕ) → ((commands bytes).1 ≡ fault err.InputTooLong) ⊎ HearsAlike (batches bytes) (commands bytes)
