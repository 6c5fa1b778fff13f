use Rattle.std.proofs.Common.{◌≡◌, ◌+◌, ◌<◌, ◌≤◌, ◌^◌, length}
use Rattle.records.specs.Records.{IsGoing, records_left}
use Rattle.loader.specs.Image.{read_from}
use Rattle.loader.specs.Gathered.{gathered_database}
use Rattle.loader.proofs.reading.read_rest.Given as goal

-- the records left give the result of all records
abbrev pub invariant-loop-fields : goal.invariant-loop-fields
invariant-loop-fields l = IsGoing l.reader
    × (l.number + length (records_left l.reader) < 2 ^ 64)
    × (2 ≤ l.number)
    × (read_from l.version (records_left l.fn.reader) 2 (gathered_database l.fn.tables) ≡ read_from l.version (records_left l.reader) l.number (gathered_database l.tables))

abbrev pub decreases-loop-fields : goal.decreases-loop-fields
decreases-loop-fields l = length (records_left l.reader)
