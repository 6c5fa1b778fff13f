-- Delivery (TPC-C clause 2.7): looks up the warehouse's card, then delivers the oldest new order of each district in turn,
-- on the rows that the earlier districts leave, all in one transaction.
use Rattle.std.specs.Prelude.{ℕ, zero, suc, ◌+◌, pos, ◌+ℤ◌, map, List, [], ◌∷◌, Option, Some, None, Result, Ok}
use Rattle.std.specs.FinMap as map
use Rattle.tpcc_rows.specs.Changing.{after}
use Rattle.tpcc_rows.specs.Limits.{between, cents_of, ten}
use Rattle.tpcc_rows.specs.Picks.{oldest}
use Rattle.tpcc_rows.specs.Rows.{customer_row, order_line_row, order_row}
use Rattle.tpcc_rows.specs.RowMap.{Rows, Changes}
use Rattle.tpcc_rows.specs.declared.key.RowKey.{RowKey}
use Rattle.tpcc_rows.specs.declared.key.RowKey.TheVariants as key
use Rattle.tpcc_rows.specs.declared.row.Row.TheVariants as row
use Rattle.tpcc_rows.specs.declared.row.CustomerRow.{CustomerRow}
use Rattle.tpcc_rows.specs.declared.row.OrderRow.{OrderRow}
use Rattle.tpcc_rows.specs.declared.row.OrderLineRow.{OrderLineRow}
use Rattle.catalog.specs.Lookups.{warehouse_card}
use Rattle.requests.specs.declared.request.Delivery.{Delivery}
use Rattle.requests.specs.declared.reply.DeliveryReply.{DeliveryReply}
use Rattle.requests.specs.declared.reply.RequestRefusal.{RequestRefusal}
use Rattle.tpcc_model.specs.Database.{Database}
use Rattle.tpcc_model.specs.Staging.{◌>>=◌, known, within}

-- ---- one order
abbrev pub amount_of : Option OrderLineRow → ℕ
amount_of None = 0
amount_of (Some line) = line.amount

-- the sum of OL_AMOUNT of the order's lines 1 to n
unfoldable pub lines_amount : Rows → Delivery → ℕ → ℕ → ℕ → ℕ
lines_amount rows p d o zero = 0
lines_amount rows p d o (suc n) = lines_amount rows p d o n + amount_of (order_line_row rows p.warehouse d o (suc n))

-- C_BALANCE goes up by the amount, and C_DELIVERY_CNT by one
unfoldable pub credited : CustomerRow → ℕ → Result CustomerRow RequestRefusal
credited old amount = do
  balance ← within (cents_of (old.balance +ℤ pos amount))
  delivery_count ← within (between 0 1000000000 (old.delivery_count + 1))
  Ok (record old { balance = balance; delivery_count = delivery_count })

-- OL_DELIVERY_D becomes the moment, if the line exists
abbrev pub line_dated : ℕ → RowKey → Option OrderLineRow → Changes → Changes
line_dated moment k None changes = changes
line_dated moment k (Some line) changes = map.insert changes k (Some (row.OrderLine (record line { delivery = Some moment })))

-- the order's lines 1 to n, each on the rows that the earlier ones leave
unfoldable pub lines_dated : Rows → Delivery → ℕ → ℕ → ℕ → ℕ → Changes → Changes
lines_dated rows p moment d o zero changes = changes
lines_dated rows p moment d o (suc n) changes =
    let earlier = lines_dated rows p moment d o n changes in
    line_dated moment (key.OrderLine p.warehouse d o (suc n)) (order_line_row (after rows earlier) p.warehouse d o (suc n)) earlier

-- the order is no longer a new order, and gets the carrier
unfoldable pub carried : Delivery → ℕ → ℕ → OrderRow → Changes → Changes
carried p d o order changes =
    map.insert (map.insert changes (key.NewOrder p.warehouse d o) None)
    (key.Order p.warehouse d o) (Some (row.Order (record order { carrier = Some p.carrier })))

unfoldable pub order_delivered : Rows → Delivery → ℕ → ℕ → ℕ → Changes → Result Changes RequestRefusal
order_delivered rows p moment d o changes = do
  order ← known (order_row (after rows changes) p.warehouse d o)
  old ← known (customer_row (after rows changes) p.warehouse d order.customer)
  customer ← credited old (lines_amount (after rows changes) p d o order.line_count)
  Ok (map.insert (lines_dated rows p moment d o order.line_count (carried p d o order changes))
      (key.Customer p.warehouse d order.customer) (Some (row.Customer customer)))

-- ---- all districts
-- a district without a new order is skipped
abbrev pub oldest_delivered : Rows → Delivery → ℕ → ℕ → Option ℕ → Changes → Result Changes RequestRefusal
oldest_delivered rows p moment d None changes = Ok changes
oldest_delivered rows p moment d (Some o) changes = order_delivered rows p moment d o changes

-- districts share no new orders, so the oldest is that of the rows before the delivery
unfoldable pub districts_delivered : Rows → Delivery → ℕ → List ℕ → Changes → Result Changes RequestRefusal
districts_delivered rows p moment [] changes = Ok changes
districts_delivered rows p moment (d ∷ ds) changes = do
  more ← oldest_delivered rows p moment d (oldest rows p.warehouse d) changes
  districts_delivered rows p moment ds more

-- the result of a delivery: the order of each district, and the keys written or deleted
pub record Delivered : Type 0 where
  pub reply : DeliveryReply
  pub changes : Changes

unfoldable pub delivery : Database → Delivery → ℕ → Result Delivered RequestRefusal
delivery db p moment = do
  warehouse ← known (warehouse_card db.cards p.warehouse)
  changes ← districts_delivered db.rows p moment ten map.empty
  Ok (record { reply = record { orders = map (oldest db.rows p.warehouse) ten }; changes = changes })
