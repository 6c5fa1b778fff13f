-- What a stock level touches is within what it declared.
use Rattle.std.proofs.Common.{◌≡◌, ◌≤◌, ◌<◌, ◌+◌, ◌-◌, ◌&&◌, ◌==◌, max, ℕ, Bool, true, List, [], ◌∷◌, cond, map, Option, Some, None, Result, Ok, inl, inr, refl, sym, ap, subst, ◌∙◌, arith}
use Rattle.std.proofs.lemmas.Bool.Decides.{nat_tests}
use Rattle.std.specs.FinMap.{get}
use Rattle.std.specs.Option.{option_and_then}
use Rattle.serializability.specs.Footprints.{Footprint, Has, IsWithin, joined, joined_all, untouched}
use Rattle.serializability.proofs.Footprints.{Has-append, Has-behind, Has-either}
use Rattle.catalog.specs.CardMap.{Cards}
use Rattle.catalog.specs.Lookups.{district_card, stock_card}
use Rattle.catalog.specs.declared.card.DistrictCard.{DistrictCard}
use Rattle.requests.specs.declared.reply.RequestRefusal.{RequestRefusal}
use Rattle.requests.specs.declared.request.NewOrder.{NewOrder}
use Rattle.requests.specs.declared.request.OrderedLine.{OrderedLine}
use Rattle.requests.specs.declared.request.Request.{Request}
use Rattle.requests.specs.declared.request.Request.TheVariants as request
use Rattle.requests.specs.declared.request.StockLevel.{StockLevel}
use Rattle.tpcc_rows.specs.RowKinds.{as_district_next, as_order_line}
use Rattle.tpcc_rows.specs.RowMap.{Rows}
use Rattle.tpcc_rows.specs.Rows.{district_next_row, order_line_row}
use Rattle.tpcc_rows.specs.declared.granule.Granule.{Granule}
use Rattle.tpcc_rows.specs.declared.key.RowKey.TheVariants as key
use Rattle.tpcc_rows.specs.declared.row.DistrictNextRow.{DistrictNextRow}
use Rattle.tpcc_rows.specs.declared.row.OrderLineRow.{OrderLineRow}
use Rattle.tpcc_rows.specs.declared.row.Row.{Row}
use Rattle.tpcc_rows.specs.declared.row.Row.TheVariants as row
use Rattle.tpcc_rows.proofs.RowKindFacts.{order-line-there}
use Rattle.tpcc_model.specs.Database.{Database, database}
use Rattle.tpcc_model.specs.NewOrders.{NewOrderCards, found_cards}
use Rattle.tpcc_model.specs.Soundness.{IsSound}
use Rattle.tpcc_model.specs.Staging.{known}
use Rattle.tpcc_model.specs.StockLevels.{first_recent}
use Rattle.tpcc_model.specs.Touches.{counted_touch, item_touch, recent_touch, stock_level_touch, touch_by}
use Rattle.profiles.specs.Declarations.{earlier_touch, is_order_of, later_stock_level, ordered_item_touch, ordered_items_touch}
use Rattle.profile_laws.proofs.Following.{AllFollow}
use Rattle.profile_laws.proofs.NewOrders.{IsOrdered, district-there}
use Rattle.profile_laws.proofs.RecentStocks.{IsItemRead, IsLineRead, IsOrderRead, item_writes, orders_back, orders_on, recent_writes}

-- what is read for one of a list is read for all
all_reads : {X : Type 0} (f : X → Footprint Granule) (xs : List X) (x : X) (g : Granule) → Has xs x → Has (f x).reads g → Has (joined_all (map f xs)).reads g
all_reads f [] x g has h = absurd has
all_reads f (y ∷ ys) x g (inl same) h = Has-append (f y).reads _ g (subst (λ z. Has (f z).reads g) (sym same) h)
all_reads f (y ∷ ys) x g (inr has) h = Has-behind (f y).reads _ g (all_reads f ys x g has h)

-- ---- the items of earlier orders
module _ (cards : Cards) (earlier : List Request) (p : StockLevel) where
  order_read : (order : NewOrder) (found : NewOrderCards) (line : OrderedLine) (g : Granule) → found_cards cards order ≡ Ok found → Has order.lines line → Has (ordered_item_touch cards p line).reads g → Has (ordered_items_touch cards p order).reads g
  unfolding ordered_items_touch
  order_read order found line g are_found has h =
      subst (λ (r : Result NewOrderCards RequestRefusal). Has (touch_by (λ found. joined_all (map (ordered_item_touch cards p) order.lines)) r).reads g) (sym are_found)
      (all_reads (ordered_item_touch cards p) order.lines line g has h)

  ordered_read : (item : ℕ) (g : Granule) → IsOrdered cards earlier p.warehouse p.district item → Has (item_touch p item (stock_card cards p.warehouse item)).reads g → Has (joined_all (map (earlier_touch cards p) earlier)).reads g
  ordered_read item g is h =
      let order : NewOrder = is.order in
      let w : order.warehouse ≡ p.warehouse = is.warehouse in
      let d : order.district ≡ p.district = is.district in
      let ours : (order.warehouse == p.warehouse && order.district == p.district) ≡ true = grind (arith, nat_tests, w, d) in
      let read : Has (ordered_item_touch cards p is.line).reads g = subst (λ i. Has (item_touch p i (stock_card cards p.warehouse i)).reads g) (sym is.item_of) h in
      let one : Has (earlier_touch cards p (request.NewOrder order)).reads g =
      subst (λ (b : Bool). Has (cond b (ordered_items_touch cards p order) untouched).reads g) (sym ours) (order_read order is.found is.line g is.are_found is.has_line read) in
      all_reads (earlier_touch cards p) earlier (request.NewOrder order) g is.earlier_order one

-- ---- on rows that follow those of the batch's beginning
module _ (cards : Cards) (start rows : Rows) (earlier : List Request) (p : StockLevel) (sound : IsSound (database cards start)) (all : AllFollow (IsOrdered cards earlier) start rows) where
  abbrev before : Database
  before = database cards start

  abbrev now : Database
  now = database cards rows

  -- an order with lines at the beginning is below the next number of then
  below_next : (o n : ℕ) (line : OrderLineRow) (district : DistrictNextRow) → get start (key.OrderLine p.warehouse p.district o n) ≡ Some (row.OrderLine line) → get start (key.DistrictNext p.warehouse p.district) ≡ Some (row.DistrictNext district)
      → o < district.next_order
  below_next o n line district there next =
      let is = sound.entries (key.OrderLine p.warehouse p.district o n) (row.OrderLine line) there in
      let at_most : o ≤ district.next_order - 1 = (sound.districts p.warehouse p.district district next).last_order.above o (is.order, is.has_order) in
      let some : 1 ≤ district.next_order = (sound.entries (key.DistrictNext p.warehouse p.district) (row.DistrictNext district) next).1.0 in
      omega (arith, at_most, some)

  -- what is read at the beginning
  read_before : (district : DistrictNextRow) (g : Granule) → get start (key.DistrictNext p.warehouse p.district) ≡ Some (row.DistrictNext district)
      → IsOrderRead before p (first_recent district.next_order) (district.next_order - first_recent district.next_order) g → Has (recent_touch before p (district_next_row start p.warehouse p.district)).reads g
  read_before district g next is =
      let there : district_next_row start p.warehouse p.district ≡ Some district = ap (option_and_then as_district_next) next in
      subst (λ (o : Option DistrictNextRow). Has (recent_touch before p o).reads g) (sym there) (orders_on before p _ _ g is)

  abbrev Declared : Granule → Type 0
  Declared g = Has (joined (counted_touch before p) (joined_all (map (earlier_touch cards p) earlier))).reads g

  declared_recent : (g : Granule) → Has (recent_touch before p (district_next_row start p.warehouse p.district)).reads g → Declared g
  declared_recent g h = Has-append (counted_touch before p).reads _ g (inr (inr (Has-append (recent_touch before p (district_next_row start p.warehouse p.district)).reads [] g h)))

  recent_read : (district : DistrictNextRow) (g : Granule) → district_next_row rows p.warehouse p.district ≡ Some district → Has (recent_touch now p (Some district)).reads g → Declared g
  recent_read district g next h =
      let is = orders_back now p (first_recent district.next_order) (district.next_order - first_recent district.next_order) g h in
      let o : ℕ = is.order in
      let line = is.line.line in
      let k = key.OrderLine p.warehouse p.district o is.line.number in
      elim (all k (row.OrderLine line) (order-line-there _ line is.line.there)) [
        | inl old ↦
            let then = all (key.DistrictNext p.warehouse p.district) (row.DistrictNext district) (district-there _ district next) in
            let lower : then.0.next_order ≤ district.next_order = then.2 in
            let below : o < then.0.next_order = below_next o is.line.number old.0 then.0 old.1 then.1 in
            let from : first_recent district.next_order ≤ o = is.from in
            declared_recent g (read_before then.0 g then.1 (record {
              order = o;
              from = omega (arith, lower, from);
              below = omega (arith, below);
              line = record {
                number = is.line.number;
                first = is.line.first;
                last = is.line.last;
                line = old.0;
                there = ap (option_and_then as_order_line) old.1;
                read = subst (λ item. IsItemRead before p item g) (sym old.2) is.line.read;
              };
            }))
        | inr new ↦ Has-behind (counted_touch before p).reads _ g (ordered_read cards earlier p line.item g new is.line.read)
      ]

  any_recent_read : (o : Option DistrictNextRow) (g : Granule) → district_next_row rows p.warehouse p.district ≡ o → Has (recent_touch now p o).reads g → Declared g
  any_recent_read None g is h = absurd h
  any_recent_read (Some district) g is h = recent_read district g is h

  counted_read : (g : Granule) → Has (counted_touch now p).reads g → Declared g
  counted_read g (inl same) = inl same
  counted_read g (inr (inl same)) = inr (inl same)
  counted_read g (inr (inr h)) = elim (Has-either (recent_touch now p (district_next_row rows p.warehouse p.district)).reads [] g h) [
    | inl recent ↦ any_recent_read (district_next_row rows p.warehouse p.district) g refl recent
    | inr none ↦ absurd none
  ]

  counted_writes : (g : Granule) → Has (counted_touch now p).writes g → ⊥
  counted_writes g h = elim (Has-either (recent_touch now p (district_next_row rows p.warehouse p.district)).writes [] g h) [
    | inl recent ↦ recent_writes now p (district_next_row rows p.warehouse p.district) g recent
    | inr none ↦ none
  ]

  within_by : (card : Option DistrictCard) → IsWithin (touch_by (λ card. counted_touch now p) (known card)) (touch_by (λ card. joined (counted_touch before p) (joined_all (map (earlier_touch cards p) earlier))) (known card))
  within_by None = record { reads = λ g h. h; writes = λ g h. h }
  within_by (Some card) = record { reads = counted_read; writes = λ g h. absurd (counted_writes g h) }

  pub stock_level_within : IsWithin (stock_level_touch now p) (later_stock_level before earlier p)
  unfolding stock_level_touch later_stock_level
  stock_level_within = within_by (district_card cards p.warehouse p.district)
