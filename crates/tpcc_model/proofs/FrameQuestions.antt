-- An order status and a stock level answer the same where what they look at is the same.
use Rattle.std.proofs.Common.{◌≡◌, ◌+◌, ◌-◌, ℕ, zero, suc, ◌++◌, List, [], ◌∷◌, cond, nat_eq, Option, Some, None, Result, Ok, inl, inr, refl, ap, ap₂, ◌∙◌}
use Rattle.std.specs.Option.{option_and_then, option_map, option_to_list}
use Rattle.std.specs.Set.{distinct_count}
use Rattle.serializability.specs.Footprints.{Footprint, Has, joined, joined_all, reading}
use Rattle.serializability.proofs.Footprints.{Has-append, Has-behind}
use Rattle.catalog.specs.CardMap.{Cards}
use Rattle.catalog.specs.Lookups.{customer_card, district_card, stock_card}
use Rattle.catalog.specs.declared.card.CustomerCard.{CustomerCard}
use Rattle.catalog.specs.declared.card.DistrictCard.{DistrictCard}
use Rattle.catalog.specs.declared.card.StockCard.{StockCard}
use Rattle.requests.specs.declared.request.OrderStatus.{OrderStatus}
use Rattle.requests.specs.declared.request.StockLevel.{StockLevel}
use Rattle.requests.specs.declared.reply.OrderStatusReply.{OrderStatusReply}
use Rattle.requests.specs.declared.reply.RequestRefusal.{RequestRefusal}
use Rattle.requests.specs.declared.reply.StockLevelReply.{StockLevelReply}
use Rattle.requests.specs.declared.reply.ShownLine.{ShownLine}
use Rattle.requests.specs.declared.reply.ShownOrder.{ShownOrder}
use Rattle.tpcc_rows.specs.Picks.{latest}
use Rattle.tpcc_rows.specs.RowMap.{Rows}
use Rattle.tpcc_rows.specs.Rows.{customer_row, district_next_row, order_line_row, order_row, stock_row}
use Rattle.tpcc_rows.specs.declared.granule.Granule.{Granule}
use Rattle.tpcc_rows.specs.declared.granule.Granule.TheVariants as part
use Rattle.tpcc_rows.specs.declared.row.CustomerRow.{CustomerRow}
use Rattle.tpcc_rows.specs.declared.row.DistrictNextRow.{DistrictNextRow}
use Rattle.tpcc_rows.specs.declared.row.OrderRow.{OrderRow}
use Rattle.tpcc_rows.specs.declared.row.OrderLineRow.{OrderLineRow}
use Rattle.tpcc_model.specs.Choices.{chosen_customer}
use Rattle.tpcc_model.specs.Database.{Database, database}
use Rattle.tpcc_model.specs.OrderStatuses.{last_order, order_status, order_status_reply, shown_line, shown_lines, shown_order}
use Rattle.tpcc_model.specs.Staging.{◌>>=◌, known}
use Rattle.tpcc_model.specs.StockLevels.{first_recent, is_below, is_low, low_items, stock_level, with_line, with_lines}
use Rattle.tpcc_model.specs.Touches.{Agree, asked_customer, asked_touch, counted_touch, item_touch, line_touch, lines_touch, order_status_touch, orders_touch, recent_touch, stock_level_touch, touch_by}
use Rattle.tpcc_model.proofs.Agreeing.{agree-part, same_customer, same_district_next, same_latest, same_order, same_order_line, same_stock}
use Rattle.tpcc_model.proofs.Stages.{same-stage}

-- ---- the order status
module _ (s t : Rows) (p : OrderStatus) (gs : List Granule) (agree : Agree s t gs) (has : Has gs (part.Book p.warehouse p.district)) where
  same_lines : (o n : ℕ) → shown_lines t p o n ≡ shown_lines s p o n
  unfolding shown_lines
  same_lines o zero = refl
  same_lines o (suc n) = ap₂ (λ (a : List ShownLine) (line : Option OrderLineRow). a ++ option_to_list (option_map shown_line line)) (same_lines o n) (same_order_line s t gs agree p.warehouse p.district o (suc n) has)

  same_shown : (o : ℕ) (order : Option OrderRow) → option_map (shown_order t p o) order ≡ option_map (shown_order s p o) order
  unfolding shown_order
  same_shown o None = refl
  same_shown o (Some order) = ap (λ (lines : List ShownLine). Some (record { order = o; entry = order.entry; carrier = order.carrier; lines = lines })) (same_lines o order.line_count)

  abbrev last_at : Rows → Option ℕ → Option ShownOrder
  last_at rows l = option_and_then (λ o. option_map (shown_order rows p o) (order_row rows p.warehouse p.district o)) l

  same_at : (l : Option ℕ) → last_at t l ≡ last_at s l
  same_at None = refl
  same_at (Some o) = ap (option_map (shown_order t p o)) (same_order s t gs agree p.warehouse p.district o has) ∙ same_shown o (order_row s p.warehouse p.district o)

  same_last : (c : ℕ) → last_order t p c ≡ last_order s p c
  unfolding last_order
  same_last c = ap (last_at t) (same_latest s t gs agree p.warehouse p.district has c) ∙ same_at (latest s p.warehouse p.district c)

  same_reply : (c : ℕ) (card : CustomerCard) (customer : CustomerRow) → order_status_reply t p c card customer ≡ order_status_reply s p c card customer
  unfolding order_status_reply
  same_reply c card customer = ap (λ (order : Option ShownOrder). record { customer = c; first = card.first; middle = card.middle; last = card.last; balance = customer.balance; order = order }) (same_last c)

module _ (s t : Rows) (p : OrderStatus) where
  abbrev shown_by : Rows → ℕ → Option CustomerCard → Result OrderStatusReply RequestRefusal
  shown_by rows c card = known card >>= λ card. known (customer_row rows p.warehouse p.district c) >>= λ customer. Ok (order_status_reply rows p c card customer)

  same_shown_by : (c : ℕ) (card : Option CustomerCard) → Agree s t (touch_by (asked_touch p) (known card >>= λ card. Ok c)).reads → shown_by t c card ≡ shown_by s c card
  same_shown_by c None agree = refl
  same_shown_by c (Some card) agree =
      let gs = (asked_touch p c).reads in
      same-stage _ _ _ _ (ap known (same_customer s t gs agree p.warehouse p.district c (inl refl))) λ customer e.
      ap Ok (same_reply s t p gs agree (inr (inl refl)) c card customer)

  same_asked : (cards : Cards) (o : Option ℕ) → Agree s t (touch_by (asked_touch p) (known o >>= λ c. known (customer_card cards p.warehouse p.district c) >>= λ card. Ok c)).reads
      → (known o >>= λ c. shown_by t c (customer_card cards p.warehouse p.district c)) ≡ (known o >>= λ c. shown_by s c (customer_card cards p.warehouse p.district c))
  same_asked cards None agree = refl
  same_asked cards (Some c) agree = same_shown_by c (customer_card cards p.warehouse p.district c) agree

pub same_order_status : (cards : Cards) (s t : Rows) (p : OrderStatus) → Agree s t (order_status_touch (database cards s) p).reads → order_status (database cards t) p ≡ order_status (database cards s) p
unfolding order_status order_status_touch asked_customer
same_order_status cards s t p agree = same_asked s t p cards (chosen_customer cards p.warehouse p.district p.customer) agree

-- ---- the stock level
module _ (cards : Cards) (s t : Rows) (p : StockLevel) where
  abbrev on : Rows → Database
  on rows = database cards rows

  abbrev counted_by : Rows → Option DistrictNextRow → Result StockLevelReply RequestRefusal
  counted_by rows district = known district >>= λ r. Ok (record { low_stock = distinct_count nat_eq (low_items (on rows) p (first_recent r.next_order) (r.next_order - first_recent r.next_order)) })

  same_below : (item : ℕ) (card : Option StockCard) → Agree s t (item_touch p item card).reads → is_below p.threshold card (stock_row t p.warehouse item) ≡ is_below p.threshold card (stock_row s p.warehouse item)
  same_below item None agree = refl
  same_below item (Some card) agree = ap (is_below p.threshold (Some card)) (same_stock s t (item_touch p item (Some card)).reads agree p.warehouse item (inl refl))

  same_line : (line : Option OrderLineRow) (items : List ℕ) → Agree s t (line_touch cards p line).reads → with_line (on t) p line items ≡ with_line (on s) p line items
  unfolding is_low
  same_line None items agree = refl
  same_line (Some line) items agree = ap (λ b. cond b (line.item ∷ items) items) (same_below line.item (stock_card cards p.warehouse line.item) agree)

  module _ (gs : List Granule) (agree : Agree s t gs) (has : Has gs (part.Book p.warehouse p.district)) where
    same_with : (o n : ℕ) (items : List ℕ) → ((g : Granule) → Has (lines_touch (on s) p o n).reads g → Has gs g) → with_lines (on t) p o n items ≡ with_lines (on s) p o n items
    unfolding with_lines lines_touch
    same_with o zero items part = refl
    same_with o (suc n) items part =
        let line = order_line_row s p.warehouse p.district o (suc n) in
        ap₂ (λ (l : Option OrderLineRow) (xs : List ℕ). with_line (on t) p l xs) (same_order_line s t gs agree p.warehouse p.district o (suc n) has) (same_with o n items (λ g h. part g (Has-append (lines_touch (on s) p o n).reads (line_touch cards p line).reads g h)))
        ∙ same_line line (with_lines (on s) p o n items) (agree-part s t gs (line_touch cards p line).reads (λ g h. part g (Has-behind (lines_touch (on s) p o n).reads (line_touch cards p line).reads g h)) agree)

    same_low : (first n : ℕ) → ((g : Granule) → Has (orders_touch (on s) p first n).reads g → Has gs g) → low_items (on t) p first n ≡ low_items (on s) p first n
    unfolding low_items orders_touch
    same_low first zero part = refl
    same_low first (suc n) part =
        ap (with_lines (on t) p (first + n) 15) (same_low first n (λ g h. part g (Has-append (orders_touch (on s) p first n).reads (lines_touch (on s) p (first + n) 15).reads g h)))
        ∙ same_with (first + n) 15 (low_items (on s) p first n) (λ g h. part g (Has-behind (orders_touch (on s) p first n).reads (lines_touch (on s) p (first + n) 15).reads g h))

    same_lines_touch : (o n : ℕ) → lines_touch (on t) p o n ≡ lines_touch (on s) p o n
    unfolding lines_touch
    same_lines_touch o zero = refl
    same_lines_touch o (suc n) = ap₂ (λ (f : Footprint Granule) (line : Option OrderLineRow). joined f (line_touch cards p line)) (same_lines_touch o n) (same_order_line s t gs agree p.warehouse p.district o (suc n) has)

    same_orders_touch : (first n : ℕ) → orders_touch (on t) p first n ≡ orders_touch (on s) p first n
    unfolding orders_touch
    same_orders_touch first zero = refl
    same_orders_touch first (suc n) = ap₂ (λ (e f : Footprint Granule). joined e f) (same_orders_touch first n) (same_lines_touch (first + n) 15)

    same_recent : (district : Option DistrictNextRow) → recent_touch (on t) p district ≡ recent_touch (on s) p district
    same_recent None = refl
    same_recent (Some district) = same_orders_touch (first_recent district.next_order) (district.next_order - first_recent district.next_order)

    same_counted : (district : Option DistrictNextRow) → ((g : Granule) → Has (recent_touch (on s) p district).reads g → Has gs g) → counted_by t district ≡ counted_by s district
    same_counted None part = refl
    same_counted (Some district) part = ap (λ (items : List ℕ). Ok (record { low_stock = distinct_count nat_eq items })) (same_low (first_recent district.next_order) (district.next_order - first_recent district.next_order) part)

  abbrev counted_with : Footprint Granule → Footprint Granule
  counted_with recent = joined_all (reading (part.DistrictNext p.warehouse p.district) ∷ reading (part.Book p.warehouse p.district) ∷ recent ∷ [])

  same_counted_touch : Agree s t (counted_touch (on s) p).reads → counted_touch (on t) p ≡ counted_touch (on s) p
  same_counted_touch agree =
      let gs = (counted_touch (on s) p).reads in
      ap counted_with (ap (recent_touch (on t) p) (same_district_next s t gs agree p.warehouse p.district (inl refl)) ∙ same_recent gs agree (inr (inl refl)) (district_next_row s p.warehouse p.district))

  same_touched : (card : Option DistrictCard) → Agree s t (touch_by (λ card. counted_touch (on s) p) (known card)).reads → touch_by (λ card. counted_touch (on t) p) (known card) ≡ touch_by (λ card. counted_touch (on s) p) (known card)
  same_touched None agree = refl
  same_touched (Some card) agree = same_counted_touch agree

  same_level : (card : Option DistrictCard) → Agree s t (touch_by (λ card. counted_touch (on s) p) (known card)).reads
      → (known card >>= λ card. counted_by t (district_next_row t p.warehouse p.district)) ≡ (known card >>= λ card. counted_by s (district_next_row s p.warehouse p.district))
  same_level None agree = refl
  same_level (Some card) agree =
      let gs = (counted_touch (on s) p).reads in
      let district = district_next_row s p.warehouse p.district in
      ap (counted_by t) (same_district_next s t gs agree p.warehouse p.district (inl refl))
      ∙ same_counted gs agree (inr (inl refl)) district (λ g h. inr (inr (Has-append (recent_touch (on s) p district).reads [] g h)))

pub same_stock_level_touch : (cards : Cards) (s t : Rows) (p : StockLevel) → Agree s t (stock_level_touch (database cards s) p).reads → stock_level_touch (database cards t) p ≡ stock_level_touch (database cards s) p
unfolding stock_level_touch
same_stock_level_touch cards s t p agree = same_touched cards s t p (district_card cards p.warehouse p.district) agree

pub same_stock_level : (cards : Cards) (s t : Rows) (p : StockLevel) → Agree s t (stock_level_touch (database cards s) p).reads → stock_level (database cards t) p ≡ stock_level (database cards s) p
unfolding stock_level stock_level_touch
same_stock_level cards s t p agree = same_level cards s t p (district_card cards p.warehouse p.district) agree
