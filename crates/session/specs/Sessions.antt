-- What a session leaves, for each of its results.
use Rattle.std.specs.Prelude.{◌≡◌, ◌⊎◌, ℕ, List, ◌++◌, Ok}
use Rattle.std.specs.Io.KnownBytes.{Appends, Keeps}
use Rattle.commands.specs.Commands.{Hearing, commands}
use Rattle.commands.specs.declared.command.Heard.{Heard}
use Rattle.executor.specs.Chains.{Chain, opening_chain}
use Rattle.executor.specs.States.{IsSoundState}
use Rattle.executor.specs.declared.refusal.Refusal.TheVariants as refusal
use Rattle.loader.specs.Image.{image}
use Rattle.records.specs.Io.{AppendsFront}
use Rattle.records.specs.declared.fault.ReadError.TheVariants as read_error
use Rattle.requests.specs.Batches.{clean, fault}
use Rattle.runner.specs.Runs.{Taken}
use Rattle.runner.specs.WholeRuns.{IsImageFault}
use Rattle.runner.specs.declared.fault.RunFault.{RunFault}
use Rattle.runner.specs.declared.fault.RunFault.TheVariants as run_fault
use Rattle.session.specs.Answers.{Answers}
use Rattle.session.specs.SessionHeadline.{AreAnswered}
use Rattle.tpcc_model.specs.Database.{Database}

-- these commands and faults were answered, as the headline of sessions says, and no other byte was written
abbrev pub Answered : List Heard → Chain → Taken → Taken → Type 0
Answered commands chain old new = (last : Chain) × (text : List ℕ) × AreAnswered commands chain last text × Appends old new text

-- all commands were answered, and no fault came after them
abbrev pub Served : Chain → Hearing → Taken → Taken → Type 0
Served chain hearing old new = (hearing.1 ≡ clean) × Answered hearing.0 chain old new

-- the first of the commands were answered
abbrev pub AnsweredSome : Chain → List Heard → Taken → Taken → Type 0
AnsweredSome chain commands old new = (done rest : List Heard) × (commands ≡ done ++ rest) × Answered done chain old new

-- a prefix of the answers to the first of the commands was written
abbrev pub AnsweredFront : Chain → List Heard → Taken → Taken → Type 0
AnsweredFront chain commands old new =
    (done rest : List Heard) × (commands ≡ done ++ rest) × (last : Chain) × (text : List ℕ) × AreAnswered done chain last text × AppendsFront old new text

-- what a session leaves that ended early: where the text ends with a fault all commands before it were answered; where the bytes couldn't
-- be read or memory was refused, all commands so far
abbrev pub LeavesSession : RunFault → Chain → Hearing → Taken → Taken → Type 0
LeavesSession (run_fault.Read e) chain hearing old new =
    ((hearing.1 ≡ fault e) × Answered hearing.0 chain old new)
    ⊎ (((e ≡ read_error.Memory) ⊎ (e ≡ read_error.Read)) × AnsweredSome chain hearing.0 old new)
LeavesSession run_fault.Memory chain hearing old new = AnsweredSome chain hearing.0 old new
LeavesSession run_fault.Write chain hearing old new = AnsweredFront chain hearing.0 old new
LeavesSession _ chain hearing old new = ⊥

-- ---- one command
-- it was answered, which left a sound state, and the answer written
abbrev pub IsAnswered : Heard → Chain → Chain → Taken → Taken → Type 0
IsAnswered h chain last old new = (text : List ℕ) × Answers h chain last text × IsSoundState last.cards last.present × Appends old new text

-- what is left if it wasn't: nothing was written, or a prefix of the answer
abbrev pub LeavesAnswer : RunFault → Heard → Chain → Taken → Taken → Type 0
LeavesAnswer run_fault.Memory h chain old new = Keeps old new
LeavesAnswer run_fault.Write h chain old new =
    (last : Chain) × (text : List ℕ) × Answers h chain last text × IsSoundState last.cards last.present × AppendsFront old new text
LeavesAnswer _ h chain old new = ⊥

-- ---- from the bytes of an image and of commands
-- the image loads as a database, on which all commands were answered
abbrev pub ServedWhole : List ℕ → List ℕ → Taken → Taken → Type 0
ServedWhole image_bytes command_bytes old new =
    (db : Database) × (image image_bytes ≡ Ok db) × Served (opening_chain db.cards db.rows) (commands command_bytes) old new

-- what a session on an image that ended early leaves
abbrev pub LeavesWhole : RunFault → List ℕ → List ℕ → Taken → Taken → Type 0
LeavesWhole (run_fault.Load e) image_bytes command_bytes old new = IsImageFault e image_bytes × Keeps old new
LeavesWhole (run_fault.Exec refusal.Memory) image_bytes command_bytes old new = Keeps old new
LeavesWhole reason image_bytes command_bytes old new =
    (db : Database) × (image image_bytes ≡ Ok db) × LeavesSession reason (opening_chain db.cards db.rows) (commands command_bytes) old new

-- the faults of a session on a database
abbrev pub IsOfSession : RunFault → Type 0
IsOfSession (run_fault.Read e) = Unit {0}
IsOfSession run_fault.Memory = Unit {0}
IsOfSession run_fault.Write = Unit {0}
IsOfSession _ = ⊥
