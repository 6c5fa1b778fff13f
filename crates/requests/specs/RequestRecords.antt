-- The records of requests, by kind.
use Rattle.std.specs.Prelude.{Bool, ◌==◌, ◌&&◌, ◌+◌, ◌-◌, ◌*◌, ◌/◌, ℕ, zero, suc, List, [], ◌∷◌, length, codes, Result, Ok, Err, if◌then◌else◌}
use Rattle.csv.specs.Records.{field_at}
use Rattle.tpcc_rows.specs.Limits.{is_between}
use Rattle.records.specs.Fields.{Fields, ◌>>=◌, is_text, number_at, text_at}
use Rattle.records.specs.declared.fault.FaultKind.{FaultKind}
use Rattle.records.specs.declared.fault.FaultKind.TheVariants as fault_kind
use Rattle.requests.specs.declared.request.CustomerChoice.{CustomerChoice}
use Rattle.requests.specs.declared.request.CustomerChoice.TheVariants as choice
use Rattle.requests.specs.declared.request.Delivery.{Delivery}
use Rattle.requests.specs.declared.request.NewOrder.{NewOrder}
use Rattle.requests.specs.declared.request.OrderStatus.{OrderStatus}
use Rattle.requests.specs.declared.request.OrderedLine.{OrderedLine}
use Rattle.requests.specs.declared.request.Payment.{Payment}
use Rattle.requests.specs.declared.request.StockLevel.{StockLevel}

-- the number of lines of a new order's record: three fields each, after the first four
abbrev pub line_count : Fields → ℕ
line_count fields = (length fields - 4) / 3

-- a new order has 5 to 15 lines
abbrev pub has_lines : Fields → Bool
has_lines fields = is_between 5 15 (line_count fields) && length fields == 4 + 3 * line_count fields

-- `item,supply,quantity` from this field on
abbrev pub ordered_line_at : Fields → ℕ → Result OrderedLine FaultKind
ordered_line_at fields i = do
  item ← number_at fields i 1 999999
  supply ← number_at fields (i + 1) 1 100
  quantity ← number_at fields (i + 2) 1 10
  Ok (record { item = item; supply = supply; quantity = quantity })

-- this number of lines from this field on
unfoldable pub ordered_lines_at : Fields → ℕ → ℕ → Result (List OrderedLine) FaultKind
ordered_lines_at fields i zero = Ok []
ordered_lines_at fields i (suc n) = do
  line ← ordered_line_at fields i
  lines ← ordered_lines_at fields (i + 3) n
  Ok (line ∷ lines)

-- `N,warehouse,district,customer` and the lines
unfoldable pub new_order_fields : Fields → Result NewOrder FaultKind
new_order_fields fields = do
  w ← number_at fields 1 1 100
  d ← number_at fields 2 1 10
  c ← number_at fields 3 1 3000
  lines ← ordered_lines_at fields 4 (line_count fields)
  Ok (record { warehouse = w; district = d; customer = c; lines = lines })

-- `I,customer` or `L,last name`: the form, and then the customer
abbrev pub choice_at : Fields → ℕ → Result CustomerChoice FaultKind
choice_at fields i =
    if is_text (codes "I") (field_at fields i) then number_at fields (i + 1) 1 3000 >>= (λ c. Ok (choice.Number c))
    else if is_text (codes "L") (field_at fields i) then text_at fields (i + 1) 16 >>= (λ last. Ok (choice.LastName last))
    else Err fault_kind.BadField

-- `P,warehouse,district,customer's warehouse,customer's district,form,customer,amount`
unfoldable pub payment_fields : Fields → Result Payment FaultKind
payment_fields fields = do
  w ← number_at fields 1 1 100
  d ← number_at fields 2 1 10
  cw ← number_at fields 3 1 100
  cd ← number_at fields 4 1 10
  customer ← choice_at fields 5
  amount ← number_at fields 7 100 500000
  Ok (record {
    warehouse = w;
    district = d;
    customer_warehouse = cw;
    customer_district = cd;
    customer = customer;
    amount = amount;
  })

-- `O,warehouse,district,form,customer`
unfoldable pub order_status_fields : Fields → Result OrderStatus FaultKind
order_status_fields fields = do
  w ← number_at fields 1 1 100
  d ← number_at fields 2 1 10
  customer ← choice_at fields 3
  Ok (record { warehouse = w; district = d; customer = customer })

-- `D,warehouse,carrier`
unfoldable pub delivery_fields : Fields → Result Delivery FaultKind
delivery_fields fields = do
  w ← number_at fields 1 1 100
  carrier ← number_at fields 2 1 10
  Ok (record { warehouse = w; carrier = carrier })

-- `S,warehouse,district,threshold`
unfoldable pub stock_level_fields : Fields → Result StockLevel FaultKind
stock_level_fields fields = do
  w ← number_at fields 1 1 100
  d ← number_at fields 2 1 10
  threshold ← number_at fields 3 10 20
  Ok (record { warehouse = w; district = d; threshold = threshold })
