-- A new order does the same where its rows are the same, and changes no others.
use Rattle.std.proofs.Common.{◌≡◌, ◌+◌, ℕ, List, [], ◌∷◌, map, Option, Some, None, Result, Ok, Err, IfOk, inl, inr, refl, sym, ap, subst, ◌∙◌}
use Rattle.std.proofs.lemmas.List.{map-id}
use Rattle.std.specs.Option.{ok_or}
use Rattle.serializability.specs.Footprints.{Has, joined_all}
use Rattle.catalog.specs.CardMap.{Cards}
use Rattle.catalog.specs.Lookups.{customer_card, district_card, item_card, stock_card, warehouse_card}
use Rattle.catalog.specs.declared.card.ItemCard.{ItemCard}
use Rattle.catalog.specs.declared.card.StockCard.{StockCard}
use Rattle.requests.specs.declared.request.NewOrder.{NewOrder}
use Rattle.requests.specs.declared.request.OrderedLine.{OrderedLine}
use Rattle.requests.specs.declared.reply.RequestRefusal.{RequestRefusal}
use Rattle.requests.specs.declared.reply.RequestRefusal.TheVariants.{ItemNotValid}
use Rattle.tpcc_rows.specs.Changing.{after}
use Rattle.tpcc_rows.specs.RowMap.{Rows}
use Rattle.tpcc_rows.specs.Rows.{district_next_row, stock_row}
use Rattle.tpcc_rows.specs.declared.granule.Granule.{Granule}
use Rattle.tpcc_rows.specs.declared.granule.Granule.TheVariants as part
use Rattle.tpcc_rows.specs.declared.key.RowKey.TheVariants as key
use Rattle.tpcc_rows.specs.declared.row.DistrictNextRow.{DistrictNextRow}
use Rattle.tpcc_rows.specs.declared.row.StockRow.{StockRow}
use Rattle.tpcc_model.specs.Database.{Database, database}
use Rattle.tpcc_model.specs.NewOrders.{LineCards, LineItem, NewOrderCards, OrderSoFar, PlacedOrder, found_cards, found_item, found_lines, found_stock, line_amount, line_done, lines_done, new_order, new_order_reply, opened, ordered_stock, raised_district}
use Rattle.tpcc_model.specs.Staging.{◌>>=◌, for_each, known}
use Rattle.tpcc_model.specs.Steps.{new_order_outcome}
use Rattle.tpcc_model.specs.Touches.{Agree, ArePlaced, new_order_touch, ordered_touch, placed_touch, touch_by}
use Rattle.tpcc_model.proofs.Agreeing.{agree-after, agree-part, same_district_next, same_stock}
use Rattle.tpcc_model.proofs.Placing.{in_granule, placed-insert, placed-none}
use Rattle.tpcc_model.proofs.Stages.{after-stage, for_each-hands_on, same-stage}

-- ---- the lines that are found are the request's
abbrev ordered_of : List LineCards → List OrderedLine
ordered_of lines = map (λ (line : LineCards). line.ordered) lines

one_item : (cards : Cards) (line : OrderedLine) → IfOk (found_item cards line) (λ found. found.ordered ≡ line)
unfolding found_item
one_item cards line = at (item_card cards line.item)
  where
    at : (o : Option ItemCard) → IfOk (ok_or o ItemNotValid >>= λ item. Ok (record { ordered = line; item = item })) (λ (found : LineItem). found.ordered ≡ line)
    at None = tt
    at (Some item) = refl

one_stock : (cards : Cards) (line : LineItem) → IfOk (found_stock cards line) (λ found. found.ordered ≡ line.ordered)
unfolding found_stock
one_stock cards line = at (stock_card cards line.ordered.supply line.ordered.item)
  where
    at : (o : Option StockCard) → IfOk (known o >>= λ stock. Ok (record { ordered = line.ordered; item = line.item; stock = stock })) (λ (found : LineCards). found.ordered ≡ line.ordered)
    at None = tt
    at (Some stock) = refl

lines_found : (cards : Cards) (lines : List OrderedLine) → IfOk (found_lines cards lines) (λ found. ordered_of found ≡ lines)
unfolding found_lines
lines_found cards lines = at (for_each (found_item cards) lines) (for_each-hands_on (found_item cards) (λ line. line) (λ item. item.ordered) (one_item cards) lines)
  where
    with_stocks : (items : List LineItem) → map (λ (item : LineItem). item.ordered) items ≡ lines → (r : Result (List LineCards) RequestRefusal) → IfOk r (λ found. ordered_of found ≡ map (λ (item : LineItem). item.ordered) items) → IfOk r (λ found. ordered_of found ≡ lines)
    with_stocks items e (Ok found) h = h ∙ e
    with_stocks items e (Err why) h = tt

    at : (r : Result (List LineItem) RequestRefusal) → IfOk r (λ items. map (λ (item : LineItem). item.ordered) items ≡ map (λ (line : OrderedLine). line) lines) → IfOk (r >>= λ items. for_each (found_stock cards) items) (λ found. ordered_of found ≡ lines)
    at (Ok items) h = with_stocks items (h ∙ map-id lines) (for_each (found_stock cards) items) (for_each-hands_on (found_stock cards) (λ item. item.ordered) (λ line. line.ordered) (one_stock cards) items)
    at (Err why) h = tt

cards_found : (cards : Cards) (p : NewOrder) → IfOk (found_cards cards p) (λ found. ordered_of found.lines ≡ p.lines)
unfolding found_cards
cards_found cards p =
    let P = λ (r : Result NewOrderCards RequestRefusal). IfOk r (λ found. ordered_of found.lines ≡ p.lines) in
    after-stage P (known (warehouse_card cards p.warehouse)) _ (λ why. tt) λ warehouse e1.
    after-stage P (known (district_card cards p.warehouse p.district)) _ (λ why. tt) λ district e2.
    after-stage P (known (customer_card cards p.warehouse p.district p.customer)) _ (λ why. tt) λ customer e3.
    after-stage P (found_lines cards p.lines) _ (λ why. tt) λ lines e4.
    subst (λ (r : Result (List LineCards) RequestRefusal). IfOk r (λ found. ordered_of found ≡ p.lines)) e4 (lines_found cards p.lines)

-- the granules of the stocks of lines
abbrev stocks : List LineCards → List Granule
stocks lines = (joined_all (map ordered_touch (ordered_of lines))).reads

-- they are written
stocks-written : (lines : List OrderedLine) → (joined_all (map ordered_touch lines)).writes ≡ (joined_all (map ordered_touch lines)).reads
stocks-written [] = refl
stocks-written (line ∷ lines) = ap (λ gs. part.Stock line.supply line.item ∷ gs) (stocks-written lines)

module _ (p : NewOrder) (moment : ℕ) where
  -- ---- the same
  module _ (s t : Rows) where
    same_lines : (o n : ℕ) (lines : List LineCards) (order : OrderSoFar) → Agree s t (stocks lines) → lines_done t p o n lines order ≡ lines_done s p o n lines order
    same_lines o n [] order agree = refl
    same_lines o n (line ∷ lines) order agree =
        let later = after s order.changes in
        let one = same_stock (after s order.changes) (after t order.changes) (stocks (line ∷ lines)) (agree-after s t order.changes (stocks (line ∷ lines)) agree) line.ordered.supply line.ordered.item (inl refl) in
        same-stage _ _ _ _ (ap known one) λ old e1.
        same-stage (line_done p o n line old order) _ _ _ refl λ more e2.
        same_lines o (n + 1) lines more (agree-part s t (stocks (line ∷ lines)) (stocks lines) (λ g h. inr h) agree)

  abbrev ordered_by : Rows → NewOrderCards → Result PlacedOrder RequestRefusal
  ordered_by rows cards = known (district_next_row rows p.warehouse p.district) >>= λ old. raised_district old >>= λ district.
      lines_done rows p old.next_order 1 cards.lines (opened p moment old.next_order district) >>= λ order. Ok (record { reply = new_order_reply cards old.next_order order.lines; changes = order.changes })

  same_ordered : (s t : Rows) (r : Result NewOrderCards RequestRefusal) → IfOk r (λ found. ordered_of found.lines ≡ p.lines) → Agree s t (touch_by (λ cards. placed_touch p) r).reads → (r >>= ordered_by t) ≡ (r >>= ordered_by s)
  same_ordered s t (Err why) found agree = refl
  same_ordered s t (Ok cards) found agree =
      let gs = (placed_touch p).reads in
      let lines = agree-part s t gs (stocks cards.lines) (λ g h. inr (inr (subst (λ (ls : List OrderedLine). Has (joined_all (map ordered_touch ls)).reads g) found h))) agree in
      same-stage _ _ _ _ (ap known (same_district_next s t gs agree p.warehouse p.district (inl refl))) λ old e1.
      same-stage (raised_district old) _ _ _ refl λ district e2.
      same-stage _ _ _ _ (same_lines s t old.next_order 1 cards.lines (opened p moment old.next_order district) lines) λ order e3. refl

  -- ---- no others
  module _ (rows : Rows) (number : ℕ) where
    abbrev gs : List Granule
    gs = (placed_touch p).writes

    placed_opened : (o : ℕ) (district : DistrictNextRow) → ArePlaced number gs (opened p moment o district).changes
    unfolding opened
    placed_opened o district =
        let book = part.Book p.warehouse p.district in
        placed-insert number gs _ (key.NewOrder p.warehouse p.district o) _ (in_granule number gs _ book refl (inr (inl refl)))
        (placed-insert number gs _ (key.Order p.warehouse p.district o) _ (in_granule number gs _ book refl (inr (inl refl)))
        (placed-insert number gs _ (key.DistrictNext p.warehouse p.district) _ (in_granule number gs _ (part.DistrictNext p.warehouse p.district) refl (inl refl))
        (placed-none number gs)))

    placed_line : (o n : ℕ) (line : LineCards) (old : StockRow) (order : OrderSoFar) → Has gs (part.Stock line.ordered.supply line.ordered.item) → ArePlaced number gs order.changes → IfOk (line_done p o n line old order) (λ more. ArePlaced number gs more.changes)
    unfolding line_done
    placed_line o n line old order stock placed =
        let P = λ (r : Result OrderSoFar RequestRefusal). IfOk r (λ more. ArePlaced number gs more.changes) in
        after-stage P (ordered_stock p.warehouse line.ordered old) _ (λ why. tt) λ new e1.
        after-stage P (line_amount line) _ (λ why. tt) λ amount e2.
        placed-insert number gs _ (key.OrderLine p.warehouse p.district o n) _ (in_granule number gs _ (part.Book p.warehouse p.district) refl (inr (inl refl)))
        (placed-insert number gs order.changes (key.Stock line.ordered.supply line.ordered.item) _ (in_granule number gs _ (part.Stock line.ordered.supply line.ordered.item) refl stock) placed)

    placed_lines : (o n : ℕ) (lines : List LineCards) (order : OrderSoFar) → ((g : Granule) → Has (stocks lines) g → Has gs g) → ArePlaced number gs order.changes → IfOk (lines_done rows p o n lines order) (λ last. ArePlaced number gs last.changes)
    placed_lines o n [] order part placed = placed
    placed_lines o n (line ∷ lines) order part placed =
        let P = λ (r : Result OrderSoFar RequestRefusal). IfOk r (λ last. ArePlaced number gs last.changes) in
        after-stage P (known (stock_row (after rows order.changes) line.ordered.supply line.ordered.item)) _ (λ why. tt) λ old e1.
        after-stage P (line_done p o n line old order) _ (λ why. tt) λ more e2.
        placed_lines o (n + 1) lines more (λ g h. part g (inr h)) (subst (λ (r : Result OrderSoFar RequestRefusal). IfOk r (λ last. ArePlaced number gs last.changes)) e2 (placed_line o n line old order (part _ (inl refl)) placed))

    placed_order : (r : Result NewOrderCards RequestRefusal) → IfOk r (λ found. ordered_of found.lines ≡ p.lines) → ArePlaced number (touch_by (λ cards. placed_touch p) r).writes (new_order_outcome (r >>= ordered_by rows)).changes
    placed_order (Err why) found = placed-none number []
    placed_order (Ok cards) found =
        let P = λ (r : Result PlacedOrder RequestRefusal). ArePlaced number gs (new_order_outcome r).changes in
        let none = λ (why : RequestRefusal). placed-none number gs in
        after-stage P (known (district_next_row rows p.warehouse p.district)) _ none λ old e1.
        after-stage P (raised_district old) _ none λ district e2.
        after-stage P (lines_done rows p old.next_order 1 cards.lines (opened p moment old.next_order district)) _ none λ order e3.
        subst (λ (r : Result OrderSoFar RequestRefusal). IfOk r (λ last. ArePlaced number gs last.changes)) e3
        (placed_lines old.next_order 1 cards.lines (opened p moment old.next_order district)
        (λ g h. inr (inr (subst (λ hs. Has hs g) (sym (stocks-written p.lines)) (subst (λ (ls : List OrderedLine). Has (joined_all (map ordered_touch ls)).reads g) found h))))
        (placed_opened old.next_order district))

pub same_new_order : (cards : Cards) (s t : Rows) (p : NewOrder) (moment : ℕ) → Agree s t (new_order_touch (database cards s) p).reads
    → new_order (database cards t) p moment ≡ new_order (database cards s) p moment
unfolding new_order new_order_touch
same_new_order cards s t p moment agree = same_ordered p moment s t (found_cards cards p) (cards_found cards p) agree

pub new_order_placed : (db : Database) (p : NewOrder) (number moment : ℕ) → ArePlaced number (new_order_touch db p).writes (new_order_outcome (new_order db p moment)).changes
unfolding new_order new_order_touch
new_order_placed db p number moment = placed_order p moment db.rows number (found_cards db.cards p) (cards_found db.cards p)
