-- Footprints that are joined, and that what a request writes it reads too.
use Rattle.std.proofs.Common.{ℕ, zero, suc, List, [], ◌∷◌, map, Option, Some, None, Result, Ok, Err, inl, inr}
use Rattle.serializability.specs.Footprints.{Footprint, joined, joined_all, untouched}
use Rattle.serializability.proofs.Footprints.{Has-append, Has-behind, Has-either}
use Rattle.requests.specs.declared.request.Delivery.{Delivery}
use Rattle.requests.specs.declared.request.Request.{Request}
use Rattle.requests.specs.declared.request.Request.TheVariants as request
use Rattle.requests.specs.declared.request.StockLevel.{StockLevel}
use Rattle.requests.specs.declared.reply.RequestRefusal.{RequestRefusal}
use Rattle.catalog.specs.CardMap.{Cards}
use Rattle.catalog.specs.Lookups.{district_card, stock_card, warehouse_card}
use Rattle.catalog.specs.declared.card.StockCard.{StockCard}
use Rattle.tpcc_rows.specs.Footprints.{WritesAreRead}
use Rattle.tpcc_rows.specs.Limits.{ten}
use Rattle.tpcc_rows.specs.Picks.{oldest}
use Rattle.tpcc_rows.specs.RowMap.{Rows}
use Rattle.tpcc_rows.specs.Rows.{district_next_row, order_line_row, order_row}
use Rattle.tpcc_rows.specs.declared.granule.Granule.{Granule}
use Rattle.tpcc_rows.specs.declared.row.DistrictNextRow.{DistrictNextRow}
use Rattle.tpcc_rows.specs.declared.row.OrderLineRow.{OrderLineRow}
use Rattle.tpcc_rows.specs.declared.row.OrderRow.{OrderRow}
use Rattle.tpcc_model.specs.Database.{Database}
use Rattle.tpcc_model.specs.NewOrders as new_orders
use Rattle.tpcc_model.specs.Payments as payments
use Rattle.tpcc_model.specs.Staging.{known}
use Rattle.tpcc_model.specs.Touches.{asked_customer, credited_touch, delivery_touch, district_touch, item_touch, line_touch, lines_touch, new_order_touch, delivered_touch, order_status_touch, ordered_touch, orders_touch, payment_touch, recent_touch, stock_level_touch, touch, touch_by}

-- ---- what is written is read too
both_read : (e f : Footprint Granule) → WritesAreRead e → WritesAreRead f → WritesAreRead (joined e f)
both_read e f a b g h = elim (Has-either e.writes f.writes g h) [ inl i ↦ Has-append e.reads f.reads g (a g i) | inr i ↦ Has-behind e.reads f.reads g (b g i) ]

all_read : {X : Type 0} (touched : X → Footprint Granule) (xs : List X) → ((x : X) → WritesAreRead (touched x)) → WritesAreRead (joined_all (map touched xs))
all_read touched [] each g h = h
all_read touched (x ∷ xs) each g h = both_read (touched x) (joined_all (map touched xs)) (each x) (all_read touched xs each) g h

found_read : {A : Type 0} (found : A → Footprint Granule) (r : Result A RequestRefusal) → ((x : A) → WritesAreRead (found x)) → WritesAreRead (touch_by found r)
found_read found (Ok x) each g h = each x g h
found_read found (Err why) each g h = h

credited_read : (p : Delivery) (d : ℕ) (order : Option OrderRow) → WritesAreRead (credited_touch p d order)
credited_read p d None g h = h
credited_read p d (Some order) g h = h

oldest_read : (rows : Rows) (p : Delivery) (d : ℕ) (o : Option ℕ) → WritesAreRead (delivered_touch rows p d o)
oldest_read rows p d None g h = absurd h
oldest_read rows p d (Some o) g h = elim h [ inl e ↦ inl e | inr i ↦ inr (credited_read p d (order_row rows p.warehouse d o) g i) ]

item_read : (p : StockLevel) (item : ℕ) (card : Option StockCard) → WritesAreRead (item_touch p item card)
item_read p item None g h = h
item_read p item (Some card) g h = absurd h

line_read : (cards : Cards) (p : StockLevel) (line : Option OrderLineRow) → WritesAreRead (line_touch cards p line)
line_read cards p None g h = h
line_read cards p (Some line) g h = item_read p line.item (stock_card cards p.warehouse line.item) g h

lines_read : (db : Database) (p : StockLevel) (o n : ℕ) → WritesAreRead (lines_touch db p o n)
unfolding lines_touch
lines_read db p o zero g h = h
lines_read db p o (suc n) g h = both_read (lines_touch db p o n) _ (lines_read db p o n) (line_read db.cards p (order_line_row db.rows p.warehouse p.district o (suc n))) g h

orders_read : (db : Database) (p : StockLevel) (first n : ℕ) → WritesAreRead (orders_touch db p first n)
unfolding orders_touch
orders_read db p first zero g h = h
orders_read db p first (suc n) g h = both_read (orders_touch db p first n) _ (orders_read db p first n) (lines_read db p _ 15) g h

recent_read : (db : Database) (p : StockLevel) (district : Option DistrictNextRow) → WritesAreRead (recent_touch db p district)
recent_read db p None g h = h
recent_read db p (Some district) g h = orders_read db p _ _ g h

pub read_too : (db : Database) (q : Request) → WritesAreRead (touch db q)
unfolding touch new_order_touch payment_touch order_status_touch delivery_touch stock_level_touch
read_too db (request.NewOrder p) = found_read _ (new_orders.found_cards db.cards p) (λ cards g h. elim h [
  | inl e ↦ inl e
  | inr i ↦ elim i [ inl e ↦ inr (inl e) | inr j ↦ inr (inr (all_read ordered_touch p.lines (λ line f k. k) g j)) ]
])
read_too db (request.Payment p) = found_read _ (payments.found_cards db.cards p) (λ cards g h. h)
read_too db (request.OrderStatus p) = found_read _ (asked_customer db.cards p) (λ c g h. absurd h)
read_too db (request.Delivery p) = found_read _ (known (warehouse_card db.cards p.warehouse)) (λ card. all_read (district_touch db.rows p) ten (λ d. oldest_read db.rows p d (oldest db.rows p.warehouse d)))
read_too db (request.StockLevel p) = found_read _ (known (district_card db.cards p.warehouse p.district)) (λ card g h. inr (inr (both_read (recent_touch db p (district_next_row db.rows p.warehouse p.district)) untouched (recent_read db p (district_next_row db.rows p.warehouse p.district)) (λ f k. k) g h)))
