-- What a request touches: the granules that it reads and writes on the rows it meets. A request refused for an unknown item
-- or key touches nothing; one refused for limits touches as if it weren't.
use Rattle.std.specs.Prelude.{◌≡◌, ℕ, zero, suc, ◌+◌, ◌-◌, map, List, [], ◌∷◌, Option, Some, None, Result, Ok, Err}
use Rattle.std.specs.FinMap.{get}
use Rattle.serializability.specs.Footprints.{Footprint, joined, joined_all, reading, untouched, writing}
use Rattle.serializability.specs.Machines as machines
use Rattle.tpcc_rows.specs.Granules.{granule}
use Rattle.tpcc_rows.specs.Limits.{ten}
use Rattle.tpcc_rows.specs.Picks.{oldest}
use Rattle.tpcc_rows.specs.RowMap.{Changes, Rows}
use Rattle.tpcc_rows.specs.Rows.{district_next_row, order_line_row, order_row}
use Rattle.tpcc_rows.specs.declared.granule.Granule.{Granule}
use Rattle.tpcc_rows.specs.declared.granule.Granule.TheVariants as part
use Rattle.tpcc_rows.specs.declared.key.RowKey.{RowKey}
use Rattle.tpcc_rows.specs.declared.key.RowKey.TheVariants as key
use Rattle.tpcc_rows.specs.declared.row.Row.{Row}
use Rattle.tpcc_rows.specs.declared.row.DistrictNextRow.{DistrictNextRow}
use Rattle.tpcc_rows.specs.declared.row.OrderLineRow.{OrderLineRow}
use Rattle.tpcc_rows.specs.declared.row.OrderRow.{OrderRow}
use Rattle.catalog.specs.CardMap.{Cards}
use Rattle.catalog.specs.Lookups.{customer_card, district_card, stock_card, warehouse_card}
use Rattle.catalog.specs.declared.card.StockCard.{StockCard}
use Rattle.requests.specs.declared.request.Delivery.{Delivery}
use Rattle.requests.specs.declared.request.NewOrder.{NewOrder}
use Rattle.requests.specs.declared.request.OrderedLine.{OrderedLine}
use Rattle.requests.specs.declared.request.OrderStatus.{OrderStatus}
use Rattle.requests.specs.declared.request.Payment.{Payment}
use Rattle.requests.specs.declared.request.Request.{Request}
use Rattle.requests.specs.declared.request.Request.TheVariants as request
use Rattle.requests.specs.declared.request.StockLevel.{StockLevel}
use Rattle.requests.specs.declared.reply.RequestRefusal.{RequestRefusal}
use Rattle.tpcc_model.specs.Choices.{chosen_customer}
use Rattle.tpcc_model.specs.Database.{Database}
use Rattle.tpcc_model.specs.NewOrders as new_orders
use Rattle.tpcc_model.specs.Payments as payments
use Rattle.tpcc_model.specs.Staging.{◌>>=◌, known}
use Rattle.tpcc_model.specs.StockLevels.{first_recent}

-- what is touched if all is found, else nothing
abbrev pub touch_by : {A : Type 0} → (A → Footprint Granule) → Result A RequestRefusal → Footprint Granule
touch_by found (Ok x) = found x
touch_by found (Err why) = untouched

-- ---- the five transactions
-- the stock of a line of a new order
abbrev pub ordered_touch : OrderedLine → Footprint Granule
ordered_touch line = writing (part.Stock line.supply line.item)

-- a new order (TPC-C clause 2.4) takes its district's next number, enters its book, and takes its items from their stocks
abbrev pub placed_touch : NewOrder → Footprint Granule
placed_touch p = joined_all (writing (part.DistrictNext p.warehouse p.district) ∷ writing (part.Book p.warehouse p.district) ∷ map ordered_touch p.lines)

unfoldable pub new_order_touch : Database → NewOrder → Footprint Granule
new_order_touch db p = touch_by (λ cards. placed_touch p) (new_orders.found_cards db.cards p)

-- a payment (clause 2.5) by customer c changes the warehouse, the district and the customer
abbrev pub paid_touch : Payment → ℕ → Footprint Granule
paid_touch p c = joined_all (writing (part.Warehouse p.warehouse) ∷ writing (part.DistrictYtd p.warehouse p.district) ∷ writing (part.Customer p.customer_warehouse p.customer_district c) ∷ [])

unfoldable pub payment_touch : Database → Payment → Footprint Granule
payment_touch db p = touch_by (λ cards. paid_touch p cards.customer_id) (payments.found_cards db.cards p)

-- the chosen customer, with a card
unfoldable pub asked_customer : Cards → OrderStatus → Result ℕ RequestRefusal
asked_customer cards p = do
  c ← known (chosen_customer cards p.warehouse p.district p.customer)
  card ← known (customer_card cards p.warehouse p.district c)
  Ok c

-- an order status (clause 2.6) reads the customer and the district's book
abbrev pub asked_touch : OrderStatus → ℕ → Footprint Granule
asked_touch p c = joined (reading (part.Customer p.warehouse p.district c)) (reading (part.Book p.warehouse p.district))

unfoldable pub order_status_touch : Database → OrderStatus → Footprint Granule
order_status_touch db p = touch_by (asked_touch p) (asked_customer db.cards p)

-- the customer of the order delivered in district d
abbrev pub credited_touch : Delivery → ℕ → Option OrderRow → Footprint Granule
credited_touch p d None = untouched
credited_touch p d (Some order) = writing (part.Customer p.warehouse d order.customer)

-- the book of district d, and the customer of the order delivered there, if any
abbrev pub delivered_touch : Rows → Delivery → ℕ → Option ℕ → Footprint Granule
delivered_touch rows p d None = reading (part.Book p.warehouse d)
delivered_touch rows p d (Some o) = joined (writing (part.Book p.warehouse d)) (credited_touch p d (order_row rows p.warehouse d o))

abbrev pub district_touch : Rows → Delivery → ℕ → Footprint Granule
district_touch rows p d = delivered_touch rows p d (oldest rows p.warehouse d)

-- a delivery (clause 2.7) goes through the ten districts
unfoldable pub delivery_touch : Database → Delivery → Footprint Granule
delivery_touch db p = touch_by (λ card. joined_all (map (district_touch db.rows p) ten)) (known (warehouse_card db.cards p.warehouse))

-- the stock of an item, if it has a card in the warehouse, and of a line's item
abbrev pub item_touch : StockLevel → ℕ → Option StockCard → Footprint Granule
item_touch p item None = untouched
item_touch p item (Some card) = reading (part.Stock p.warehouse item)

abbrev pub line_touch : Cards → StockLevel → Option OrderLineRow → Footprint Granule
line_touch cards p None = untouched
line_touch cards p (Some line) = item_touch p line.item (stock_card cards p.warehouse line.item)

-- the stocks of the items of the order's lines 1 to n
unfoldable pub lines_touch : Database → StockLevel → ℕ → ℕ → Footprint Granule
lines_touch db p o zero = untouched
lines_touch db p o (suc n) = joined (lines_touch db p o n) (line_touch db.cards p (order_line_row db.rows p.warehouse p.district o (suc n)))

-- and of the orders from this one on, n of them
unfoldable pub orders_touch : Database → StockLevel → ℕ → ℕ → Footprint Granule
orders_touch db p first zero = untouched
orders_touch db p first (suc n) = joined (orders_touch db p first n) (lines_touch db p (first + n) 15)

-- and of the last twenty orders of the district
abbrev pub recent_touch : Database → StockLevel → Option DistrictNextRow → Footprint Granule
recent_touch db p None = untouched
recent_touch db p (Some district) = orders_touch db p (first_recent district.next_order) (district.next_order - first_recent district.next_order)

-- a stock level (clause 2.8) reads its district, the district's book, and the stocks of the items sold lately
abbrev pub counted_touch : Database → StockLevel → Footprint Granule
counted_touch db p = joined_all (reading (part.DistrictNext p.warehouse p.district) ∷ reading (part.Book p.warehouse p.district) ∷ recent_touch db p (district_next_row db.rows p.warehouse p.district) ∷ [])

unfoldable pub stock_level_touch : Database → StockLevel → Footprint Granule
stock_level_touch db p = touch_by (λ card. counted_touch db p) (known (district_card db.cards p.warehouse p.district))

-- ---- any request
unfoldable pub touch : Database → Request → Footprint Granule
touch db (request.NewOrder p) = new_order_touch db p
touch db (request.Payment p) = payment_touch db p
touch db (request.OrderStatus p) = order_status_touch db p
touch db (request.Delivery p) = delivery_touch db p
touch db (request.StockLevel p) = stock_level_touch db p

-- ---- agreement on what is touched
-- the two agree on the rows whose granules are in the list
abbrev pub Agree : Rows → Rows → List Granule → Type 0
Agree s t gs = machines.Agree granule s t gs

-- the number's own key, or a key of a granule in the list
abbrev pub IsPlaced : ℕ → List Granule → RowKey → Type 0
IsPlaced number gs k = machines.IsPlaced granule (key.History number) gs k

-- each changed key is of that kind
abbrev pub ArePlaced : ℕ → List Granule → Changes → Type 0
ArePlaced number gs changes = (k : RowKey) (new : Option Row) → get changes k ≡ Some new → IsPlaced number gs k
