-- The batches that a text holds.
use Rattle.std.specs.Prelude.{◌≡◌, ◌⊎◌, ◌==◌, ◌+◌, ◌∷◌, ◌++◌, [], ℕ, List, length, Option, Some, Result, Ok, Err, if◌then◌else◌}
use Rattle.requests.specs.BatchRecords.{head_at, request_at}
use Rattle.records.specs.Fields.{Fields}
use Rattle.records.specs.Records.{records_in}
use Rattle.requests.specs.declared.batch_record.BatchHead.{BatchHead}
use Rattle.requests.specs.declared.request.Batch.{Batch}
use Rattle.requests.specs.declared.request.Request.{Request}
use Rattle.records.specs.declared.fault.FaultKind.{FaultKind}
use Rattle.records.specs.declared.fault.FaultKind.TheVariants as fault_kind
use Rattle.records.specs.declared.fault.ReadError.{ReadError}
use Rattle.records.specs.declared.fault.ReadError.TheVariants as err

-- how an input ends: between batches, or with a fault
pub data End : Type 0 where
  clean : End
  fault : ReadError → End

-- the fault of the record of this number
abbrev pub fault_of : ℕ → FaultKind → ReadError
fault_of n fault_kind.BadField = err.BadField n
fault_of n fault_kind.WrongCount = err.WrongCount n
fault_of n fault_kind.OutOfRange = err.OutOfRange n
fault_of n fault_kind.UnknownKind = err.UnknownKind n
fault_of n fault_kind.BatchTooLong = err.BatchTooLong n

-- the batches, then the end
abbrev pub Reading : Type 0
Reading = List Batch × End

abbrev pub with_front : Batch → Reading → Reading
with_front batch reading = (batch ∷ reading.0, reading.1)

-- how far reading is: between batches, or within one, after these requests
pub data Progress : Type 0 where
  between : Progress
  within : BatchHead → List Request → Progress

abbrev pub batch_of : BatchHead → List Request → Batch
batch_of head requests = record { moment = head.moment; verdict = head.verdict; requests = requests }

-- a batch with all its requests is complete, and reading continues behind it
abbrev pub settled : BatchHead → List Request → (Progress → Reading) → Reading
settled head requests rest = if length requests == head.count then with_front (batch_of head requests) (rest between) else rest (within head requests)

-- the record of this number begins a batch
abbrev pub begun : ℕ → Result BatchHead FaultKind → (Progress → Reading) → Reading
begun n (Ok head) rest = settled head [] rest
begun n (Err e) rest = ([], fault (fault_of n e))

-- the record of this number is the batch's next request
abbrev pub continued : ℕ → BatchHead → List Request → Result Request FaultKind → (Progress → Reading) → Reading
continued n head requests (Ok request) rest = settled head (requests ++ request ∷ []) rest
continued n head requests (Err e) rest = ([], fault (fault_of n e))

-- the batches of these records, numbered from this one on
unfoldable pub reading_from : List Fields → ℕ → Progress → Reading
reading_from [] n between = ([], clean)
reading_from [] n (within head requests) = ([], fault (err.WrongCount n))
reading_from (r ∷ rs) n between = begun n (head_at r) (reading_from rs (n + 1))
reading_from (r ∷ rs) n (within head requests) = continued n head requests (request_at r) (reading_from rs (n + 1))

-- the batches of a text, whose records are numbered from 1
abbrev pub batches : List ℕ → Reading
batches bytes = reading_from (records_in bytes) 1 between

-- what a reader has yet to give, and the error that stopped it, if any
pub record BatchesLeft : Type 0 where
  pub left : Reading
  pub stopped : Option ReadError

-- a reader stopped by this error
abbrev pub stopped_at : ReadError → BatchesLeft
stopped_at e = record { left = ([], fault e); stopped = Some e }

-- the reading stopped with this fault, or out of memory
abbrev pub StopsBy : ReadError → Reading → Type 0
StopsBy e reading = (e ≡ err.Memory) ⊎ (reading ≡ ([], fault e))
