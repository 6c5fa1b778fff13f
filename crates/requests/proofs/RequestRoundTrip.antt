-- Requests are read from how they are written.
use Rattle.std.proofs.Common.{◌≡◌, ◌+◌, ◌*◌, ℕ, suc, List, [], ◌∷◌, ◌++◌, length, true, refl, arith, length-append, take, Some, add-zero, zero-add, append_assoc}
use Rattle.std.specs.Prelude.{All, Ok}
use Rattle.std.specs.List.{flat_map}
use Rattle.std.proofs.lemmas.Bool.Decides.{nat_tests}
use Rattle.std.proofs.lemmas.List.Elements.{All-head, All-tail}
use Rattle.csv.specs.Records.{field_at}
use Rattle.requests.specs.BatchRecords.{request_at}
use Rattle.requests.specs.BatchText.{choice_form, choice_text, delivery_record, new_order_record, order_status_record, ordered_line_fields, payment_record, request_record, stock_level_record}
use Rattle.records.specs.Fields.{Fields}
use Rattle.requests.specs.RequestRecords.{choice_at, delivery_fields, has_lines, line_count, new_order_fields, order_status_fields, ordered_line_at, ordered_lines_at, payment_fields, stock_level_fields}
use Rattle.requests.specs.Lines.{IsReadLine}
use Rattle.requests.specs.Requests.{IsReadChoice, IsReadDelivery, IsReadNewOrder, IsReadOrderStatus, IsReadPayment, IsReadRequest, IsReadStockLevel}
use Rattle.requests.specs.declared.request.CustomerChoice.{CustomerChoice}
use Rattle.requests.specs.declared.request.CustomerChoice.TheVariants as choice
use Rattle.requests.specs.declared.request.Delivery.{Delivery}
use Rattle.requests.specs.declared.request.NewOrder.{NewOrder}
use Rattle.requests.specs.declared.request.OrderStatus.{OrderStatus}
use Rattle.requests.specs.declared.request.OrderedLine.{OrderedLine}
use Rattle.requests.specs.declared.request.Payment.{Payment}
use Rattle.requests.specs.declared.request.Request.{Request}
use Rattle.requests.specs.declared.request.Request.TheVariants as request
use Rattle.requests.specs.declared.request.StockLevel.{StockLevel}
use Rattle.records.proofs.SpellingLemmas.{number-read, text-read}

-- a field after these
field_at-after : (xs ys : Fields) (i : ℕ) → field_at (xs ++ ys) (length xs + i) ≡ field_at ys i
unfolding field_at
field_at-after [] ys i = rw (zero-add i) refl
field_at-after (x ∷ xs) ys i = let next : suc (length xs) + i ≡ suc (length xs + i) = omega arith in rw next (field_at-after xs ys i)

-- a line is read from its fields, after others
line-read : (xs ys : Fields) (line : OrderedLine) → IsReadLine line → ordered_line_at (xs ++ (ordered_line_fields line ++ ys)) (length xs) ≡ Ok line
unfolding field_at
line-read xs ys line h =
    let all : Fields = ordered_line_fields line ++ ys in
    let item = rw add-zero at (field_at-after xs all 0) in
    rw (
      item,
      field_at-after xs all 1,
      field_at-after xs all 2,
      number-read 1 999999 line.item h.item (omega arith),
      number-read 1 100 line.supply h.supply (omega arith),
      number-read 1 10 line.quantity h.quantity (omega arith),
    ) refl

-- lines are read from theirs
lines-read : (xs : Fields) (lines : List OrderedLine) → All IsReadLine lines → ordered_lines_at (xs ++ flat_map ordered_line_fields lines) (length xs) (length lines) ≡ Ok lines
unfolding ordered_lines_at
lines-read xs [] all = refl
lines-read xs (line ∷ lines) all =
    let first = line-read xs (flat_map ordered_line_fields lines) line (All-head IsReadLine line lines all) in
    let more = lines-read (xs ++ ordered_line_fields line) lines (All-tail IsReadLine line lines all) in
    let after = rw (append_assoc xs (ordered_line_fields line) (flat_map ordered_line_fields lines), length-append xs (ordered_line_fields line)) at more in
    rw (first, after) refl

length-lines : (lines : List OrderedLine) → length (flat_map ordered_line_fields lines) ≡ 3 * length lines
length-lines [] = refl
length-lines (line ∷ lines) = let more = length-lines lines in omega (arith, more)

new_order-read : (r : NewOrder) → IsReadNewOrder r → request_at (new_order_record r) ≡ Ok (request.NewOrder r)
unfolding field_at new_order_fields
new_order-read r h =
    let fields = length-lines r.lines in
    let count : line_count (new_order_record r) ≡ length r.lines = omega (arith, fields) in
    let right : has_lines (new_order_record r) ≡ true = rw (count, fields) (grind (arith, nat_tests)) in
    let lines = lines-read (take 4 (new_order_record r)) r.lines h.lines in
    rw (
      right,
      count,
      number-read 1 100 r.warehouse h.warehouse (omega arith),
      number-read 1 10 r.district h.district (omega arith),
      number-read 1 3000 r.customer h.customer (omega arith),
      lines,
    ) refl

-- a choice is read from its two fields
choice-read : (fields : Fields) (i : ℕ) (c : CustomerChoice) → IsReadChoice c → field_at fields i ≡ Some (choice_form c) → field_at fields (i + 1) ≡ Some (choice_text c) → choice_at fields i ≡ Ok c
choice-read fields i (choice.Number c) h form is = rw (form, is, number-read 1 3000 c h (omega arith)) refl
choice-read fields i (choice.LastName last) h form is = rw (form, is, text-read 16 last h) refl

payment-read : (r : Payment) → IsReadPayment r → request_at (payment_record r) ≡ Ok (request.Payment r)
unfolding field_at payment_fields
payment-read r h = rw (
  number-read 1 100 r.warehouse h.warehouse (omega arith),
  number-read 1 10 r.district h.district (omega arith),
  number-read 1 100 r.customer_warehouse h.customer_warehouse (omega arith),
  number-read 1 10 r.customer_district h.customer_district (omega arith),
  choice-read (payment_record r) 5 r.customer h.customer refl refl,
  number-read 100 500000 r.amount h.amount (omega arith),
) refl

order_status-read : (r : OrderStatus) → IsReadOrderStatus r → request_at (order_status_record r) ≡ Ok (request.OrderStatus r)
unfolding field_at order_status_fields
order_status-read r h = rw (
  number-read 1 100 r.warehouse h.warehouse (omega arith),
  number-read 1 10 r.district h.district (omega arith),
  choice-read (order_status_record r) 3 r.customer h.customer refl refl,
) refl

delivery-read : (r : Delivery) → IsReadDelivery r → request_at (delivery_record r) ≡ Ok (request.Delivery r)
unfolding field_at delivery_fields
delivery-read r h = rw (
  number-read 1 100 r.warehouse h.warehouse (omega arith),
  number-read 1 10 r.carrier h.carrier (omega arith),
) refl

stock_level-read : (r : StockLevel) → IsReadStockLevel r → request_at (stock_level_record r) ≡ Ok (request.StockLevel r)
unfolding field_at stock_level_fields
stock_level-read r h = rw (
  number-read 1 100 r.warehouse h.warehouse (omega arith),
  number-read 1 10 r.district h.district (omega arith),
  number-read 10 20 r.threshold h.threshold (omega arith),
) refl

-- a request is read from its record
pub request_at-request_record : (q : Request) → IsReadRequest q → request_at (request_record q) ≡ Ok q
request_at-request_record (request.NewOrder r) h = new_order-read r h
request_at-request_record (request.Payment r) h = payment-read r h
request_at-request_record (request.OrderStatus r) h = order_status-read r h
request_at-request_record (request.Delivery r) h = delivery-read r h
request_at-request_record (request.StockLevel r) h = stock_level-read r h
