-- The records of a file of batches.
use Rattle.std.specs.Prelude.{ℕ, List, codes, Option, Result, Ok, Err, if◌then◌else◌}
use Rattle.csv.specs.Records.{field_at}
use Rattle.records.specs.Fields.{Fields, ◌>>=◌, is_text, number_at, of_count}
use Rattle.requests.specs.RequestRecords.{delivery_fields, has_lines, new_order_fields, order_status_fields, payment_fields, stock_level_fields}
use Rattle.records.specs.declared.fault.FaultKind.{FaultKind}
use Rattle.records.specs.declared.fault.FaultKind.TheVariants as fault_kind
use Rattle.requests.specs.declared.batch_record.BatchHead.{BatchHead}
use Rattle.requests.specs.declared.request.Request.{Request}
use Rattle.requests.specs.declared.request.Request.TheVariants as request
use Rattle.requests.specs.declared.request.Verdict.{Verdict}
use Rattle.requests.specs.declared.request.Verdict.TheVariants as verdict

-- a new order's record with 5 to 15 lines
abbrev pub of_lines : {A : Type 0} → Fields → Result A FaultKind → Result A FaultKind
of_lines fields said = if has_lines fields then said else Err fault_kind.WrongCount

abbrev pub verdict_of : Option (List ℕ) → Result Verdict FaultKind
verdict_of field =
    if is_text (codes "commit") field then Ok verdict.Commit
    else if is_text (codes "rerun") field then Ok verdict.Rerun
    else Err fault_kind.BadField

-- a count above the limit is a fault of its own
abbrev pub too_long : {A : Type 0} → Result A FaultKind → Result A FaultKind
too_long (Ok n) = Ok n
too_long (Err fault_kind.OutOfRange) = Err fault_kind.BatchTooLong
too_long (Err e) = Err e

-- `B,moment,verdict,count`
unfoldable pub head_fields : Fields → Result BatchHead FaultKind
head_fields fields = do
  moment ← number_at fields 1 0 999999999999
  verdict ← verdict_of (field_at fields 2)
  count ← too_long (number_at fields 3 0 1024)
  Ok (record { moment = moment; verdict = verdict; count = count })

-- the first record of a batch
abbrev pub head_at : Fields → Result BatchHead FaultKind
head_at fields = if is_text (codes "B") (field_at fields 0) then of_count 4 fields (head_fields fields) else Err fault_kind.UnknownKind

-- a record where a request is expected
abbrev pub request_at : Fields → Result Request FaultKind
request_at fields =
    if is_text (codes "N") (field_at fields 0) then of_lines fields (new_order_fields fields >>= (λ r. Ok (request.NewOrder r)))
    else if is_text (codes "P") (field_at fields 0) then of_count 8 fields (payment_fields fields >>= (λ r. Ok (request.Payment r)))
    else if is_text (codes "O") (field_at fields 0) then of_count 5 fields (order_status_fields fields >>= (λ r. Ok (request.OrderStatus r)))
    else if is_text (codes "D") (field_at fields 0) then of_count 3 fields (delivery_fields fields >>= (λ r. Ok (request.Delivery r)))
    else if is_text (codes "S") (field_at fields 0) then of_count 4 fields (stock_level_fields fields >>= (λ r. Ok (request.StockLevel r)))
    else Err fault_kind.UnknownKind
