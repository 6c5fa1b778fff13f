use Rattle.std.proofs.Common.{◌≡◌, ◌+◌, ◌<◌, ◌^◌, length}
use Rattle.requests.specs.Batches.{between, settled}
use Rattle.requests.specs.Reader.{left_at}
use Rattle.records.specs.Records.{IsGoing, records_left}
use Rattle.requests.proofs.reading.read_batch.Given as goal

abbrev pub invariant-loop : goal.invariant-loop
invariant-loop l = IsGoing l.reader
    × (l.number + length (records_left l.reader) < 2 ^ 64)
    × (length l.requests ≡ l.counter)
    × (left_at l.fn.reader l.fn.number between ≡ settled l.head l.requests (left_at l.reader l.number))
