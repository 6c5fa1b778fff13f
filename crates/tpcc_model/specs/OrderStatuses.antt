-- Order-Status (TPC-C clause 2.6): looks up the customer's card, then the row, then shows the latest order with its lines.
use Rattle.std.specs.Prelude.{ℕ, zero, suc, List, [], ◌++◌, Option, Result, Ok, option_and_then}
use Rattle.std.specs.Option.{option_map, option_to_list}
use Rattle.tpcc_rows.specs.Picks.{latest}
use Rattle.tpcc_rows.specs.Rows.{customer_row, order_line_row, order_row}
use Rattle.tpcc_rows.specs.RowMap.{Rows}
use Rattle.tpcc_rows.specs.declared.row.CustomerRow.{CustomerRow}
use Rattle.tpcc_rows.specs.declared.row.OrderRow.{OrderRow}
use Rattle.tpcc_rows.specs.declared.row.OrderLineRow.{OrderLineRow}
use Rattle.catalog.specs.Lookups.{customer_card}
use Rattle.catalog.specs.declared.card.CustomerCard.{CustomerCard}
use Rattle.requests.specs.declared.request.OrderStatus.{OrderStatus}
use Rattle.requests.specs.declared.reply.OrderStatusReply.{OrderStatusReply}
use Rattle.requests.specs.declared.reply.RequestRefusal.{RequestRefusal}
use Rattle.requests.specs.declared.reply.ShownLine.{ShownLine}
use Rattle.requests.specs.declared.reply.ShownOrder.{ShownOrder}
use Rattle.tpcc_model.specs.Choices.{chosen_customer}
use Rattle.tpcc_model.specs.Database.{Database}
use Rattle.tpcc_model.specs.Staging.{◌>>=◌, known}

-- ---- the order
unfoldable pub shown_line : OrderLineRow → ShownLine
shown_line line = record { item = line.item; supply = line.supply; quantity = line.quantity; amount = line.amount; delivery = line.delivery }

-- the order's lines 1 to n, in the order of OL_NUMBER
unfoldable pub shown_lines : Rows → OrderStatus → ℕ → ℕ → List ShownLine
shown_lines rows p o zero = []
shown_lines rows p o (suc n) = shown_lines rows p o n ++ option_to_list (option_map shown_line (order_line_row rows p.warehouse p.district o (suc n)))

unfoldable pub shown_order : Rows → OrderStatus → ℕ → OrderRow → ShownOrder
shown_order rows p o order = record { order = o; entry = order.entry; carrier = order.carrier; lines = shown_lines rows p o order.line_count }

-- the customer's order with the greatest O_ID, if there is one
unfoldable pub last_order : Rows → OrderStatus → ℕ → Option ShownOrder
last_order rows p c = option_and_then (λ o. option_map (shown_order rows p o) (order_row rows p.warehouse p.district o)) (latest rows p.warehouse p.district c)

-- ---- the whole
unfoldable pub order_status_reply : Rows → OrderStatus → ℕ → CustomerCard → CustomerRow → OrderStatusReply
order_status_reply rows p c card customer = record {
  customer = c;
  first = card.first;
  middle = card.middle;
  last = card.last;
  balance = customer.balance;
  order = last_order rows p c;
}

unfoldable pub order_status : Database → OrderStatus → Result OrderStatusReply RequestRefusal
order_status db p = do
  c ← known (chosen_customer db.cards p.warehouse p.district p.customer)
  card ← known (customer_card db.cards p.warehouse p.district c)
  customer ← known (customer_row db.rows p.warehouse p.district c)
  Ok (order_status_reply db.rows p c card customer)
