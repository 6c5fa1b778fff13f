use Rattle.std.proofs.Common.{◌≡◌, ◌≤◌, ◌-◌, ℕ, List, None}
use Rattle.std.specs.Io.KnownBytes.{Appends}
use Rattle.commands.specs.Reader.{heard_from}
use Rattle.commands.specs.declared.command.Heard.{Heard}
use Rattle.commands.specs.declared.record_reader.TheConstants.{LAST_RECORD}
use Rattle.executor.specs.States.{IsSoundState}
use Rattle.session.proofs.NumberLemmas.{AreNumbered}
use Rattle.session.proofs.SessionLemmas.{HasGiven}
use Rattle.session.specs.Answers.{AnswersAll}
use Rattle.session.proofs.serving.serve_commands.Given as goal

-- some commands are answered, and their answers written; the others are left to be read
abbrev pub invariant-commands : goal.invariant-commands
invariant-commands g l = (g.S.Sink.failed l.sink ≡ g.S.Sink.failed l.fn.sink)
    × (g.C.Source.failed l.input ≡ g.C.Source.failed l.fn.input)
    × AreNumbered l.executor
    × IsSoundState l.executor.cards l.executor.present
    × (l.reader.read ≤ LAST_RECORD)
    × (l.reader.stopped ≡ None)
    × (done : List Heard) × (text : List ℕ)
    × HasGiven (heard_from l.fn.reader (g.C.Source.left l.fn.input)) done (heard_from l.reader (g.C.Source.left l.input))
    × AnswersAll done l.fn.executor l.executor text
    × Appends (g.S.Sink.taken l.fn.sink) (g.S.Sink.taken l.sink) text

abbrev pub decreases-commands : goal.decreases-commands
decreases-commands g l = LAST_RECORD - l.reader.read
