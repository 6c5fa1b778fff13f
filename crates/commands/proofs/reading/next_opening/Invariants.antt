use Rattle.std.proofs.Common.{◌≡◌, ◌≤◌, ◌-◌}
use Rattle.commands.specs.Commands.{commands_of}
use Rattle.commands.specs.Reader.{Turns, gap, rows_left}
use Rattle.commands.specs.declared.record_reader.TheConstants.{LAST_RECORD}
use Rattle.commands.proofs.reading.next_opening.Given as goal

-- the records that were read say nothing
abbrev pub invariant-passing : goal.invariant-passing
invariant-passing g l = (l.records.read ≤ LAST_RECORD)
    × (l.fn.records.read ≤ l.records.read)
    × (g.S.Source.failed l.source ≡ g.S.Source.failed l.fn.source)
    × Turns (rows_left l.fn.records (g.S.Source.left l.fn.source)) (rows_left l.records (g.S.Source.left l.source))
    (λ old new. commands_of old l.fn.records.read 0 (gap l.is_behind) ≡ commands_of new l.records.read 0 (gap l.is_behind))

abbrev pub decreases-passing : goal.decreases-passing
decreases-passing g l = LAST_RECORD - l.records.read
