-- What the code's parts of a delivery stand for: all of it is found on the rows before the delivery, and then written.
use Rattle.std.specs.Prelude.{ℕ, zero, suc, List, [], ◌∷◌, ◌++◌, map, Option, Some, None, option_map, Result, Ok}
use Rattle.std.specs.FinMap as map
use Rattle.requests.specs.declared.request.Delivery.{Delivery}
use Rattle.requests.specs.declared.reply.DeliveryReply.{DeliveryReply}
use Rattle.requests.specs.declared.reply.RequestRefusal.{RequestRefusal}
use Rattle.tpcc_model.specs.Deliveries.{Delivered, credited, lines_amount}
use Rattle.tpcc_model.specs.Staging.{◌>>=◌, known}
use Rattle.tpcc_rows.specs.Picks.{oldest}
use Rattle.tpcc_rows.specs.RowMap.{Changes, Rows}
use Rattle.tpcc_rows.specs.Rows.{customer_row, order_line_row, order_row}
use Rattle.tpcc_rows.specs.declared.key.RowKey.TheVariants as key
use Rattle.tpcc_rows.specs.declared.row.Row.TheVariants as row
use Rattle.tpcc_rows.specs.declared.row.CustomerRow.{CustomerRow}
use Rattle.tpcc_rows.specs.declared.row.OrderLineRow.{OrderLineRow}
use Rattle.tpcc_rows.specs.declared.row.OrderRow.{OrderRow}
use Rattle.transactions.specs.declared.delivery.DatedLine.{DatedLine}
use Rattle.transactions.specs.declared.delivery.DeliveredOrder.{DeliveredOrder}
use Rattle.transactions.specs.declared.delivery.DeliveredOrders.{DeliveredOrders}

-- ---- what is found
abbrev pub dated_line : ℕ → ℕ → OrderLineRow → DatedLine
dated_line moment n line = record { number = n; row = record line { delivery = Some moment } }

abbrev pub one_dated : ℕ → ℕ → Option OrderLineRow → List DatedLine
one_dated moment n None = []
one_dated moment n (Some line) = dated_line moment n line ∷ []

-- those of the order's lines 1 to n that are there, dated
unfoldable pub dated_lines : Rows → Delivery → ℕ → ℕ → ℕ → ℕ → List DatedLine
dated_lines rows p moment d o zero = []
dated_lines rows p moment d o (suc n) = dated_lines rows p moment d o n ++ one_dated moment (suc n) (order_line_row rows p.warehouse d o (suc n))

-- the customer of an order, with the order's amount
unfoldable pub credited_customer : Rows → Delivery → ℕ → ℕ → ℕ → Result CustomerRow RequestRefusal
credited_customer rows p d customer amount = do
  old ← known (customer_row rows p.warehouse d customer)
  credited old amount

-- an order with its carrier, its customer's new row, and its lines
pub record FoundOrder : Type 0 where
  pub district : ℕ
  pub order : ℕ
  pub row : OrderRow
  pub customer : CustomerRow
  pub lines : List DatedLine

-- the order, its customer and its lines, found
abbrev pub found_with : Rows → Delivery → ℕ → ℕ → ℕ → OrderRow → CustomerRow → FoundOrder
found_with rows p moment d o order customer = record {
  district = d;
  order = o;
  row = record order { carrier = Some p.carrier };
  customer = customer;
  lines = dated_lines rows p moment d o order.line_count;
}

unfoldable pub found_order : Rows → Delivery → ℕ → ℕ → ℕ → Result FoundOrder RequestRefusal
found_order rows p moment d o = do
  order ← known (order_row rows p.warehouse d o)
  customer ← credited_customer rows p d order.customer (lines_amount rows p d o order.line_count)
  Ok (found_with rows p moment d o order customer)

-- a district without a new order is skipped
abbrev pub found_oldest : Rows → Delivery → ℕ → ℕ → Option ℕ → Result (Option FoundOrder) RequestRefusal
found_oldest rows p moment d None = Ok None
found_oldest rows p moment d (Some o) = do
  found ← found_order rows p moment d o
  Ok (Some found)

abbrev pub found_district : Rows → Delivery → ℕ → ℕ → Result (Option FoundOrder) RequestRefusal
found_district rows p moment d = found_oldest rows p moment d (oldest rows p.warehouse d)

-- ---- what is written
-- the order of the number is no longer a new order, and has this row
unfoldable pub carried_as : ℕ → ℕ → ℕ → OrderRow → Changes → Changes
carried_as w d o order changes = map.insert (map.insert changes (key.NewOrder w d o) None) (key.Order w d o) (Some (row.Order order))

abbrev pub line_written : ℕ → ℕ → ℕ → DatedLine → Changes → Changes
line_written w d o line changes = map.insert changes (key.OrderLine w d o line.number) (Some (row.OrderLine line.row))

abbrev pub lines_written : ℕ → ℕ → ℕ → List DatedLine → Changes → Changes
lines_written w d o [] changes = changes
lines_written w d o (line ∷ lines) changes = lines_written w d o lines (line_written w d o line changes)

-- the changes with those of a found order
unfoldable pub order_written : ℕ → FoundOrder → Changes → Changes
order_written w found changes =
    map.insert (lines_written w found.district found.order found.lines (carried_as w found.district found.order found.row changes))
    (key.Customer w found.district found.row.customer) (Some (row.Customer found.customer))

abbrev pub oldest_written : ℕ → Option FoundOrder → Changes → Changes
oldest_written w None changes = changes
oldest_written w (Some found) changes = order_written w found changes

abbrev pub orders_written : ℕ → List (Option FoundOrder) → Changes → Changes
orders_written w [] changes = changes
orders_written w (found ∷ more) changes = orders_written w more (oldest_written w found changes)

-- ---- what the code has
abbrev pub found_order_of : DeliveredOrder → FoundOrder
found_order_of made = record { district = made.district; order = made.order; row = made.row; customer = made.customer; lines = made.lines.items }

abbrev pub orders_of : List (Option DeliveredOrder) → List (Option FoundOrder)
orders_of made = map (option_map found_order_of) made

-- the reply, and the changes that writing makes to none
abbrev pub delivered_of : DeliveryReply × DeliveredOrders → Delivered
delivered_of made = record { reply = made.0; changes = orders_written made.1.warehouse (orders_of made.1.orders.items) map.empty }
