use Rattle.std.proofs.Common.{◌≡◌, ◌≤◌, [], length}
use Rattle.commands.specs.Commands.{settled}
use Rattle.commands.specs.Reader.{Turns, following, rows_left}
use Rattle.commands.specs.declared.record_reader.TheConstants.{LAST_RECORD, MOST_BYTES}
use Rattle.commands.proofs.reading.read_batch.Given as goal

-- as many requests were read as were counted, and what is left goes on from there
abbrev pub invariant-loop : goal.invariant-loop
invariant-loop g l = (l.records.read ≤ LAST_RECORD)
    × (l.fn.records.read ≤ l.records.read)
    × (l.total ≤ MOST_BYTES)
    × (length l.requests ≡ l.counter)
    × (g.S.Source.failed l.source ≡ g.S.Source.failed l.fn.source)
    × Turns (rows_left l.fn.records (g.S.Source.left l.fn.source)) (rows_left l.records (g.S.Source.left l.source))
    (λ old new. settled l.head [] (following old l.fn.records.read l.fn.spent) ≡ settled l.head l.requests (following new l.records.read l.total))
