-- What the requests of a batch declare: what each will read and write, predicted from the database at the batch's beginning and
-- from the requests before it. A delivery skips one order of each district for each delivery of its warehouse before it, and a
-- stock level also looks at the items that are ordered before it; any other request declares what it touches on that database.
use Rattle.std.specs.Prelude.{ℕ, Bool, false, ◌==◌, ◌&&◌, if◌then◌else◌, List, [], ◌∷◌, length, map, Option, slice_get}
use Rattle.std.specs.List.{filter}
use Rattle.catalog.specs.CardMap.{Cards}
use Rattle.catalog.specs.Lookups.{district_card, stock_card, warehouse_card}
use Rattle.requests.specs.declared.request.Delivery.{Delivery}
use Rattle.requests.specs.declared.request.NewOrder.{NewOrder}
use Rattle.requests.specs.declared.request.OrderedLine.{OrderedLine}
use Rattle.requests.specs.declared.request.Request.{Request}
use Rattle.requests.specs.declared.request.Request.TheVariants as request
use Rattle.requests.specs.declared.request.StockLevel.{StockLevel}
use Rattle.serializability.specs.Footprints.{Footprint, joined, joined_all, untouched}
use Rattle.tpcc_model.specs.Database.{Database}
use Rattle.tpcc_model.specs.NewOrders.{found_cards}
use Rattle.tpcc_model.specs.Staging.{known}
use Rattle.tpcc_model.specs.Touches.{counted_touch, delivered_touch, item_touch, touch, touch_by}
use Rattle.tpcc_rows.specs.Limits.{ten}
use Rattle.tpcc_rows.specs.Picks.{new_pick, picked}
use Rattle.tpcc_rows.specs.RowMap.{Rows}
use Rattle.tpcc_rows.specs.declared.granule.Granule.{Granule}

-- what f makes of each of a list's elements and of those before it, the nearest first; these come before the list
abbrev pub each_after : {A B : Type 0} → (List A → A → B) → List A → List A → List B
each_after f earlier [] = []
each_after f earlier (x ∷ xs) = f earlier x ∷ each_after f (x ∷ earlier) xs

-- ---- Delivery (TPC-C clause 2.7)
abbrev pub is_delivery_of : ℕ → Request → Bool
is_delivery_of w (request.Delivery p) = p.warehouse == w
is_delivery_of w _ = false

-- how many deliveries of the warehouse there are
abbrev pub deliveries_of : ℕ → List Request → ℕ
deliveries_of w requests = length (filter (is_delivery_of w) requests)

-- the district's new order before which there are n others, by their numbers
unfoldable pub nth_new_order : Rows → ℕ → ℕ → ℕ → Option ℕ
nth_new_order rows w d n = slice_get (picked (new_pick w d) rows) n

-- the ten districts of a delivery that n others of its warehouse precede
abbrev pub districts_touch : Rows → ℕ → Delivery → Footprint Granule
districts_touch rows n p = joined_all (map (λ d. delivered_touch rows p d (nth_new_order rows p.warehouse d n)) ten)

-- a delivery that n others of its warehouse precede
unfoldable pub later_delivery : Database → ℕ → Delivery → Footprint Granule
later_delivery db n p = touch_by (λ card. districts_touch db.rows n p) (known (warehouse_card db.cards p.warehouse))

-- ---- Stock-Level (clause 2.8)
abbrev pub ordered_item_touch : Cards → StockLevel → OrderedLine → Footprint Granule
ordered_item_touch cards p line = item_touch p line.item (stock_card cards p.warehouse line.item)

-- the items of an order, unless it is refused for an item or key without a card
unfoldable pub ordered_items_touch : Cards → StockLevel → NewOrder → Footprint Granule
ordered_items_touch cards p order = touch_by (λ found. joined_all (map (ordered_item_touch cards p) order.lines)) (found_cards cards order)

abbrev pub is_order_of : ℕ → ℕ → Request → Bool
is_order_of w d (request.NewOrder order) = order.warehouse == w && order.district == d
is_order_of w d _ = false

-- the items of an earlier request, if it is a new order of the district
abbrev pub earlier_touch : Cards → StockLevel → Request → Footprint Granule
earlier_touch cards p (request.NewOrder order) =
    if is_order_of p.warehouse p.district (request.NewOrder order) then ordered_items_touch cards p order else untouched
earlier_touch cards p _ = untouched

-- a stock level that these precede
unfoldable pub later_stock_level : Database → List Request → StockLevel → Footprint Granule
later_stock_level db earlier p =
    touch_by (λ card. joined (counted_touch db p) (joined_all (map (earlier_touch db.cards p) earlier))) (known (district_card db.cards p.warehouse p.district))

-- ---- any request
-- a request that these precede, the nearest first
abbrev pub declared_after : Database → List Request → Request → Footprint Granule
declared_after db earlier (request.Delivery p) = later_delivery db (deliveries_of p.warehouse earlier) p
declared_after db earlier (request.StockLevel p) = later_stock_level db earlier p
declared_after db earlier other = touch db other

-- the requests of a batch
abbrev pub declared : Database → List Request → List (Footprint Granule)
declared db requests = each_after (declared_after db) [] requests
