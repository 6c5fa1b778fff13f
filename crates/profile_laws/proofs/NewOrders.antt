-- A new order enters lines with the items that it asks for, and raises its district's next number.
use Rattle.std.proofs.Common.{◌≡◌, ◌≤◌, ◌+◌, ℕ, List, [], ◌∷◌, map, Option, Some, None, Result, Ok, inl, inr, refl, sym, ap, ap₂, subst, ◌∙◌, arith}
use Rattle.std.specs.FinMap.{empty, get, insert}
use Rattle.std.specs.Option.{ok_or, option_and_then}
use Rattle.serializability.specs.Footprints.{Has}
use Rattle.serializability.proofs.Footprints.{Has-map}
use Rattle.catalog.specs.CardMap.{Cards}
use Rattle.catalog.specs.Lookups.{customer_card, district_card, item_card, stock_card, warehouse_card}
use Rattle.requests.specs.declared.reply.RequestRefusal.{RequestRefusal}
use Rattle.requests.specs.declared.reply.RequestRefusal.TheVariants.{ItemNotValid}
use Rattle.requests.specs.declared.request.NewOrder.{NewOrder}
use Rattle.requests.specs.declared.request.OrderedLine.{OrderedLine}
use Rattle.requests.specs.declared.request.Request.{Request}
use Rattle.requests.specs.declared.request.Request.TheVariants as request
use Rattle.tpcc_rows.specs.Changing.{after}
use Rattle.tpcc_rows.specs.Limits.{between}
use Rattle.tpcc_rows.specs.RowKinds.{as_district_next}
use Rattle.tpcc_rows.specs.RowMap.{Changes, Rows}
use Rattle.tpcc_rows.specs.Rows.{district_next_row, stock_row}
use Rattle.tpcc_rows.specs.declared.key.RowKey.TheVariants as key
use Rattle.tpcc_rows.specs.declared.row.DistrictNextRow.{DistrictNextRow}
use Rattle.tpcc_rows.specs.declared.row.Row.{Row}
use Rattle.tpcc_rows.specs.declared.row.Row.TheVariants as row
use Rattle.tpcc_rows.specs.declared.row.StockRow.{StockRow}
use Rattle.tpcc_model.specs.Database.{Database}
use Rattle.tpcc_model.specs.NewOrders.{LineCards, LineItem, NewOrderCards, OrderSoFar, PlacedOrder, brand_of, found_cards, found_item, found_lines, found_stock, line_amount, line_done, lines_done, new_order, new_order_reply, opened, order_line_of, order_of, ordered_stock, raised_district}
use Rattle.tpcc_model.specs.Staging.{for_each, known, within}
use Rattle.tpcc_laws.proofs.Doing.{between-some, ok-by, ok_or-ok}
use Rattle.profile_laws.proofs.Following.{ChangesFollow, HasNext, Items, follow-none, follow-put}

-- an item of a district that an earlier new order asked for, whose cards were found
pub record IsOrdered (cards : Cards) (earlier : List Request) (w d item : ℕ) : Type 0 where
  pub order : NewOrder
  pub earlier_order : Has earlier (request.NewOrder order)
  pub warehouse : order.warehouse ≡ w
  pub district : order.district ≡ d
  pub found : NewOrderCards
  pub are_found : found_cards cards order ≡ Ok found
  pub line : OrderedLine
  pub has_line : Has order.lines line
  pub item_of : line.item ≡ item

-- ---- the lines that are found are those that the order asks for
abbrev ordered_of : List LineCards → List OrderedLine
ordered_of lines = map (λ (line : LineCards). line.ordered) lines

-- a column that each stage hands on
handed_on : {A B C : Type 0} (stage : A → Result B RequestRefusal) (given : A → C) (made : B → C) → ((x : A) (y : B) → stage x ≡ Ok y → made y ≡ given x) → (xs : List A) (ys : List B) → for_each stage xs ≡ Ok ys → map made ys ≡ map given xs
handed_on stage given made each [] ys h = (let is : [] ≡ ys = cc in ap (map made) (sym is))
handed_on stage given made each (x ∷ xs) ys h =
    ok-by (stage x) _ _ h λ y e1 h1.
    ok-by (for_each stage xs) _ _ h1 λ more e2 h2.
    let is : y ∷ more ≡ ys = cc in
    ap (map made) (sym is) ∙ ap₂ (λ c cs. c ∷ cs) (each x y e1) (handed_on stage given made each xs more e2)

item_of_line : (cards : Cards) (line : OrderedLine) (found : LineItem) → found_item cards line ≡ Ok found → found.ordered ≡ line
unfolding found_item
item_of_line cards line found h =
    ok-by (ok_or (item_card cards line.item) ItemNotValid) _ _ h λ item e1 h1.
    let is : ◌≡◌ {A = LineItem} (record { ordered = line; item = item }) found = cc in
    ap (λ (z : LineItem). z.ordered) (sym is)

stock_of_line : (cards : Cards) (line : LineItem) (found : LineCards) → found_stock cards line ≡ Ok found → found.ordered ≡ line.ordered
unfolding found_stock
stock_of_line cards line found h =
    ok-by (known (stock_card cards line.ordered.supply line.ordered.item)) _ _ h λ stock e1 h1.
    let is : ◌≡◌ {A = LineCards} (record { ordered = line.ordered; item = line.item; stock = stock }) found = cc in
    ap (λ (z : LineCards). z.ordered) (sym is)

same_lines : (lines : List OrderedLine) → map (λ line. line) lines ≡ lines
same_lines [] = refl
same_lines (line ∷ lines) = ap (λ ls. line ∷ ls) (same_lines lines)

lines_found : (cards : Cards) (lines : List OrderedLine) (found : List LineCards) → found_lines cards lines ≡ Ok found → ordered_of found ≡ lines
unfolding found_lines
lines_found cards lines found h =
    ok-by (for_each (found_item cards) lines) _ _ h λ items e1 h1.
    handed_on (found_stock cards) (λ item. item.ordered) (λ line. line.ordered) (stock_of_line cards) items found h1
    ∙ handed_on (found_item cards) (λ line. line) (λ item. item.ordered) (item_of_line cards) lines items e1 ∙ same_lines lines

cards_found : (cards : Cards) (p : NewOrder) (found : NewOrderCards) → found_cards cards p ≡ Ok found → ordered_of found.lines ≡ p.lines
unfolding found_cards
cards_found cards p found h =
    ok-by (known (warehouse_card cards p.warehouse)) _ _ h λ c1 e1 h1.
    ok-by (known (district_card cards p.warehouse p.district)) _ _ h1 λ c2 e2 h2.
    ok-by (known (customer_card cards p.warehouse p.district p.customer)) _ _ h2 λ c3 e3 h3.
    ok-by (found_lines cards p.lines) _ _ h3 λ lines e4 h4.
    let is : ◌≡◌ {A = NewOrderCards} (record { warehouse = c1; district = c2; customer = c3; lines = lines }) found = cc in
    ap (λ (z : NewOrderCards). ordered_of z.lines) (sym is) ∙ lines_found cards p.lines lines e4

-- ---- the next number
pub district-there : (o : Option Row) (r : DistrictNextRow) → option_and_then as_district_next o ≡ Some r → o ≡ Some (row.DistrictNext r)
district-there None r h = cc
district-there (Some (row.DistrictNext x)) r h = cc
district-there (Some _) r h = cc

raised : (old new : DistrictNextRow) → raised_district old ≡ Ok new → old.next_order ≤ new.next_order
unfolding raised_district
raised old new h =
    ok-by (within (between 1 9999999 (old.next_order + 1))) _ _ h λ next e1 h1.
    let is : ◌≡◌ {A = DistrictNextRow} (record { next_order = next }) new = cc in
    let next_is : next ≡ new.next_order = ap (λ (z : DistrictNextRow). z.next_order) is in
    let one_more : old.next_order + 1 ≡ next = (between-some 1 9999999 (old.next_order + 1) next (ok_or-ok _ _ _ e1)).0 in
    omega (arith, next_is, one_more)

-- ---- the changes
module _ (cards : Cards) (rows : Rows) (p : NewOrder) (moment : ℕ) (earlier : List Request) (found : NewOrderCards) (are_found : found_cards cards p ≡ Ok found) where
  abbrev New : Items
  New = IsOrdered cards (request.NewOrder p ∷ earlier)

  abbrev Keeps : Changes → Type 0
  Keeps changes = ChangesFollow New rows changes

  is_ordered : (line : OrderedLine) → Has p.lines line → New p.warehouse p.district line.item
  is_ordered line has = record { order = p; earlier_order = inl refl; warehouse = refl; district = refl; found = found; are_found = are_found; line = line; has_line = has; item_of = refl }

  opened_follows : (o : ℕ) (old district : DistrictNextRow) → district_next_row rows p.warehouse p.district ≡ Some old → old.next_order ≤ district.next_order → Keeps (opened p moment o district).changes
  unfolding opened
  opened_follows o old district is up =
      let k = key.DistrictNext p.warehouse p.district in
      follow-put New rows _ (key.NewOrder p.warehouse p.district o) row.NewOrder
      (follow-put New rows _ (key.Order p.warehouse p.district o) (row.Order (order_of p moment))
      (follow-put New rows empty k (row.DistrictNext district) (follow-none New rows) (old, district-there _ old is, up)) tt) tt

  line_follows : (o n : ℕ) (line : LineCards) (old : StockRow) (order more : OrderSoFar) → Has p.lines line.ordered → Keeps order.changes → line_done p o n line old order ≡ Ok more → Keeps more.changes
  unfolding line_done order_line_of
  line_follows o n line old order more has all h =
      ok-by (ordered_stock p.warehouse line.ordered old) _ _ h λ stock e1 h1.
      ok-by (line_amount line) _ _ h1 λ amount e2 h2.
      let sk = key.Stock line.ordered.supply line.ordered.item in
      let lk = key.OrderLine p.warehouse p.district o n in
      let changes : Changes = insert (insert order.changes sk (Some (row.Stock stock))) lk (Some (row.OrderLine (order_line_of p line amount))) in
      let is : changes ≡ more.changes = cc in
      subst Keeps is (follow-put New rows _ lk (row.OrderLine (order_line_of p line amount)) (follow-put New rows order.changes sk (row.Stock stock) all tt) (inr (is_ordered line.ordered has)))

  lines_follow : (o n : ℕ) (lines : List LineCards) (order last : OrderSoFar) → ((line : OrderedLine) → Has (ordered_of lines) line → Has p.lines line) → Keeps order.changes → lines_done rows p o n lines order ≡ Ok last → Keeps last.changes
  lines_follow o n [] order last part all h = (let is : order ≡ last = cc in subst (λ (z : OrderSoFar). Keeps z.changes) is all)
  lines_follow o n (line ∷ lines) order last part all h =
      ok-by (known (stock_row (after rows order.changes) line.ordered.supply line.ordered.item)) _ _ h λ old e1 h1.
      ok-by (line_done p o n line old order) _ _ h1 λ more e2 h2.
      lines_follow o (n + 1) lines more last (λ l has. part l (inr has)) (line_follows o n line old order more (part line.ordered (inl refl)) all e2) h2

pub new_order_follows : (db : Database) (p : NewOrder) (moment : ℕ) (earlier : List Request) (made : PlacedOrder) → new_order db p moment ≡ Ok made → ChangesFollow (IsOrdered db.cards (request.NewOrder p ∷ earlier)) db.rows made.changes
unfolding new_order
new_order_follows db p moment earlier made h =
    ok-by (found_cards db.cards p) _ _ h λ cards e1 h1.
    ok-by (known (district_next_row db.rows p.warehouse p.district)) _ _ h1 λ old e2 h2.
    ok-by (raised_district old) _ _ h2 λ district e3 h3.
    ok-by (lines_done db.rows p old.next_order 1 cards.lines (opened p moment old.next_order district)) _ _ h3 λ order e4 h4.
    let is : ◌≡◌ {A = PlacedOrder} (record { reply = new_order_reply cards old.next_order order.lines; changes = order.changes }) made = cc in
    subst (λ (z : PlacedOrder). ChangesFollow (IsOrdered db.cards (request.NewOrder p ∷ earlier)) db.rows z.changes) is
    (lines_follow db.cards db.rows p moment earlier cards e1 old.next_order 1 cards.lines _ order
    (λ line has. subst (λ ls. Has ls line) (cards_found db.cards p cards e1) has)
    (opened_follows db.cards db.rows p moment earlier cards e1 old.next_order old district (ok_or-ok _ _ _ e2) (raised old district e3)) e4)
