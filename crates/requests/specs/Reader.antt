-- What a reader of batches has yet to give.
use Rattle.std.specs.Prelude.{◌+◌, ◌<◌, ◌^◌, ℕ, List, [], length, Option, Some, None}
use Rattle.std.specs.Borrow.{Bor}
use Rattle.csv.specs.declared.reader.Reader.{Reader}
use Rattle.requests.specs.Batches.{BatchesLeft, Progress, Reading, between, clean, fault, reading_from}
use Rattle.records.specs.Records.{IsGoing, records_left}
use Rattle.records.specs.declared.fault.ReadError.{ReadError}
use Rattle.requests.specs.declared.batch_reader.Standing.{Standing}
use Rattle.requests.specs.declared.batch_reader.Standing.TheVariants as standing
use Rattle.requests.specs.declared.batch_reader.BatchReader.TheInside.{Inside}

-- the batches of the remaining records, numbered from this one on
abbrev pub left_at : Reader (Bor (List ℕ)) → ℕ → Progress → Reading
left_at reader number = reading_from (records_left reader) number

abbrev pub left_by : Standing → Reading → Reading
left_by standing.Going left = left
left_by standing.Done left = ([], clean)
left_by (standing.Stopped e) left = ([], fault e)

-- the error returned, if any
abbrev pub stopped_by : Standing → Option ReadError
stopped_by standing.Going = None
stopped_by standing.Done = None
stopped_by (standing.Stopped e) = Some e

abbrev pub reading_of : Inside → BatchesLeft
reading_of b = record { left = left_by b.standing (left_at b.reader b.number between); stopped = stopped_by b.standing }

abbrev pub CanRead : Standing → Type 0 → Type 0
CanRead standing.Going P = P
CanRead standing.Done P = Unit {0}
CanRead (standing.Stopped e) P = Unit {0}

-- a reader that isn't stopped has known bytes, and a number for each remaining record
abbrev pub IsSteady : Inside → Type 0
IsSteady b = CanRead b.standing (IsGoing b.reader × (b.number + length (records_left b.reader) < 2 ^ 64))
