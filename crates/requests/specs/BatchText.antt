-- The text of batches, and which are read back from it.
use Rattle.std.specs.Prelude.{◌≤◌, ◌∷◌, [], ℕ, List, All, length, map, codes, decimal}
use Rattle.std.specs.List.{flat_map}
use Rattle.tpcc_rows.specs.Limits.{IsBetween}
use Rattle.records.specs.Fields.{Fields}
use Rattle.records.specs.Spelling.{text_of_records}
use Rattle.requests.specs.Requests.{IsReadRequest}
use Rattle.requests.specs.declared.request.Batch.{Batch}
use Rattle.requests.specs.declared.request.CustomerChoice.{CustomerChoice}
use Rattle.requests.specs.declared.request.CustomerChoice.TheVariants as choice
use Rattle.requests.specs.declared.request.Delivery.{Delivery}
use Rattle.requests.specs.declared.request.NewOrder.{NewOrder}
use Rattle.requests.specs.declared.request.OrderStatus.{OrderStatus}
use Rattle.requests.specs.declared.request.OrderedLine.{OrderedLine}
use Rattle.requests.specs.declared.request.Payment.{Payment}
use Rattle.requests.specs.declared.request.Request.{Request}
use Rattle.requests.specs.declared.request.Request.TheVariants as request
use Rattle.requests.specs.declared.request.StockLevel.{StockLevel}
use Rattle.requests.specs.declared.request.Verdict.{Verdict}
use Rattle.requests.specs.declared.request.Verdict.TheVariants as verdict

abbrev pub verdict_text : Verdict → List ℕ
verdict_text verdict.Commit = codes "commit"
verdict_text verdict.Rerun = codes "rerun"

-- `B,moment,verdict,count`
abbrev pub head_record : Batch → Fields
head_record b = codes "B" ∷ decimal b.moment ∷ verdict_text b.verdict ∷ decimal (length b.requests) ∷ []

-- `I` for a customer's number, `L` for a last name
abbrev pub choice_form : CustomerChoice → List ℕ
choice_form (choice.Number c) = codes "I"
choice_form (choice.LastName last) = codes "L"

abbrev pub choice_text : CustomerChoice → List ℕ
choice_text (choice.Number c) = decimal c
choice_text (choice.LastName last) = last

-- `item,supply,quantity`
abbrev pub ordered_line_fields : OrderedLine → Fields
ordered_line_fields line = decimal line.item ∷ decimal line.supply ∷ decimal line.quantity ∷ []

-- `N,warehouse,district,customer` and the lines
abbrev pub new_order_record : NewOrder → Fields
new_order_record r = codes "N" ∷ decimal r.warehouse ∷ decimal r.district ∷ decimal r.customer ∷ flat_map ordered_line_fields r.lines

-- `P,warehouse,district,customer's warehouse,customer's district,form,customer,amount`
abbrev pub payment_record : Payment → Fields
payment_record r = codes "P" ∷ decimal r.warehouse ∷ decimal r.district ∷ decimal r.customer_warehouse ∷ decimal r.customer_district
    ∷ choice_form r.customer ∷ choice_text r.customer ∷ decimal r.amount ∷ []

-- `O,warehouse,district,form,customer`
abbrev pub order_status_record : OrderStatus → Fields
order_status_record r = codes "O" ∷ decimal r.warehouse ∷ decimal r.district ∷ choice_form r.customer ∷ choice_text r.customer ∷ []

-- `D,warehouse,carrier`
abbrev pub delivery_record : Delivery → Fields
delivery_record r = codes "D" ∷ decimal r.warehouse ∷ decimal r.carrier ∷ []

-- `S,warehouse,district,threshold`
abbrev pub stock_level_record : StockLevel → Fields
stock_level_record r = codes "S" ∷ decimal r.warehouse ∷ decimal r.district ∷ decimal r.threshold ∷ []

-- the record of a request
abbrev pub request_record : Request → Fields
request_record (request.NewOrder r) = new_order_record r
request_record (request.Payment r) = payment_record r
request_record (request.OrderStatus r) = order_status_record r
request_record (request.Delivery r) = delivery_record r
request_record (request.StockLevel r) = stock_level_record r

abbrev pub batch_records : Batch → List Fields
batch_records b = head_record b ∷ map request_record b.requests

-- the text of batches
abbrev pub batches_text : List Batch → List ℕ
batches_text bs = text_of_records (flat_map batch_records bs)

-- within the limits
pub record IsReadBatch (b : Batch) : Type 0 where
  pub moment : IsBetween 0 999999999999 b.moment
  pub count : length b.requests ≤ 1024
  pub requests : All IsReadRequest b.requests
