-- What a step on a sound database replies is within its limits.
use Rattle.std.proofs.Common.{◌≡◌, ◌≤◌, ◌<◌, ◌+◌, ◌-◌, ◌*◌, ◌/◌, ◌^◌, ℕ, zero, suc, ℤ, pos, negsuc, ◌≤ℤ◌, List, [], ◌∷◌, ◌++◌, length, length-append, map, int_le, nat_eq, sum_by, Bool, true, false, if◌then◌else◌, Option, Some, None, IfSome, Result, Ok, Err, mul-le-mul, option_and_then, refl, sym, ap, subst, ◌∙◌, arith}
use Rattle.std.specs.FinMap.{empty}
use Rattle.std.specs.List.{AllByRecursion}
use Rattle.std.specs.Option.{option_map, option_to_list}
use Rattle.std.proofs.lemmas.Int.{ints}
use Rattle.std.proofs.lemmas.List.Elements.{All-from_recursion}
use Rattle.std.proofs.lemmas.List.Sums.{sum_by-le}
use Rattle.std.proofs.lemmas.Map.Made.{distinct_count-le}
use Rattle.catalog.specs.CardKinds.{as_customer, as_district, as_warehouse}
use Rattle.catalog.specs.Lookups.{customer_card, district_card, warehouse_card}
use Rattle.catalog.specs.declared.card.Card.{Card}
use Rattle.catalog.specs.declared.card.Card.TheVariants as card
use Rattle.catalog.specs.declared.card.CardKey.TheVariants as card_key
use Rattle.catalog.specs.declared.card.Credit.{Credit}
use Rattle.catalog.specs.declared.card.Credit.TheVariants as credit
use Rattle.catalog.specs.declared.card.CustomerCard.{CustomerCard}
use Rattle.catalog.specs.declared.card.DistrictCard.{DistrictCard}
use Rattle.catalog.specs.declared.card.WarehouseCard.{WarehouseCard}
use Rattle.requests.specs.declared.reply.LineReply.{LineReply}
use Rattle.requests.specs.declared.reply.OrderStatusReply.{OrderStatusReply}
use Rattle.requests.specs.declared.reply.RequestRefusal.{RequestRefusal}
use Rattle.requests.specs.declared.reply.StockLevelReply.{StockLevelReply}
use Rattle.requests.specs.declared.request.Delivery.{Delivery}
use Rattle.requests.specs.declared.request.NewOrder.{NewOrder}
use Rattle.requests.specs.declared.request.OrderStatus.{OrderStatus}
use Rattle.requests.specs.declared.request.OrderedLine.{OrderedLine}
use Rattle.requests.specs.declared.request.Payment.{Payment}
use Rattle.requests.specs.declared.request.Request.TheVariants as request
use Rattle.requests.specs.declared.request.RequestKind.{RequestKind}
use Rattle.requests.specs.declared.request.RequestKind.TheVariants as kind
use Rattle.requests.specs.declared.request.StockLevel.{StockLevel}
use Rattle.tpcc_laws.specs.Requests.{IsNewOrder, IsPayment}
use Rattle.tpcc_laws.proofs.DeliveryFacts.{oldest-is}
use Rattle.tpcc_laws.proofs.Doing.{between-some, is_there, ok-by, ok_or-ok, passed}
use Rattle.tpcc_laws.proofs.FoundLines.{found_lines-length}
use Rattle.tpcc_laws.proofs.PaymentFacts as payments
use Rattle.tpcc_model.specs.Choices.{chosen_customer}
use Rattle.tpcc_model.specs.Database.{Database}
use Rattle.tpcc_model.specs.Deliveries.{Delivered, delivery, districts_delivered}
use Rattle.tpcc_model.specs.NewOrders.{LineCards, NewOrderCards, OrderSoFar, PlacedOrder, brand_of, found_cards, found_lines, left_quantity, line_amount, line_done, lines_done, new_order, new_order_reply, opened, ordered_stock, raised_district, remote_orders}
use Rattle.tpcc_model.specs.OrderStatuses.{last_order, order_status, order_status_reply, shown_line, shown_lines, shown_order}
use Rattle.tpcc_model.specs.Payments.{Paid, payment, payment_reply, shown_credit}
use Rattle.tpcc_model.specs.Soundness.{IsSound}
use Rattle.tpcc_model.specs.Staging.{known, within}
use Rattle.tpcc_model.specs.Steps.{StepOutcome, outcome_of, step}
use Rattle.tpcc_model.specs.StockLevels.{first_recent, is_low, low_items, stock_level, with_line, with_lines}
use Rattle.tpcc_rows.specs.Changing.{after}
use Rattle.tpcc_rows.specs.Limits.{IsBetween, IsCents, IsStockQuantity, between, is_stock_quantity, stock_quantity_of, ten}
use Rattle.tpcc_rows.specs.Picks.{latest, oldest}
use Rattle.tpcc_rows.specs.Prices.{total_cents}
use Rattle.tpcc_rows.specs.RowKinds.{as_district_next, as_order, as_order_line}
use Rattle.tpcc_rows.specs.RowMap.{Rows}
use Rattle.tpcc_rows.specs.Rows.{customer_row, district_next_row, order_line_row, order_row, stock_row}
use Rattle.tpcc_rows.specs.Texts.{IsText}
use Rattle.tpcc_rows.specs.declared.key.RowKey.TheVariants as key
use Rattle.tpcc_rows.specs.declared.row.DistrictNextRow.{DistrictNextRow}
use Rattle.tpcc_rows.specs.declared.row.OrderLineRow.{OrderLineRow}
use Rattle.tpcc_rows.specs.declared.row.OrderRow.{OrderRow}
use Rattle.tpcc_rows.specs.declared.row.Row.{Row}
use Rattle.tpcc_rows.specs.declared.row.Row.TheVariants as row
use Rattle.tpcc_rows.specs.declared.row.StockRow.{StockRow}
use Rattle.tpcc_rows.proofs.Clips.{clip-is}
use Rattle.tpcc_rows.proofs.Singles.{and-left, and-right}
use Rattle.token_laws.specs.CoveredLimits.{IsDelivered, IsDeliveryReply, IsLineReply, IsNewOrderReply, IsOrderStatusReply, IsPaymentReply, IsReply, IsShownCredit, IsShownLine, IsShownOrder, StepsReplyWithin}
use Rattle.token_laws.proofs.Lists.{all-append}
use Rattle.token_laws.proofs.Sound.{key_limits, writable}

same_ok : {A : Type 0} (a b : A) → ◌≡◌ {A = Result A RequestRefusal} (Ok a) (Ok b) → a ≡ b
same_ok a b e = cc

-- ---- payments
credit_shown : (c : Credit) (text : List ℕ) → IsText 500 text → IsShownCredit (shown_credit c text)
credit_shown credit.Good text is = tt
credit_shown credit.Bad text is = clip-is 200 text is.printable

payment_replies : (db : Database) (p : Payment) (number moment : ℕ) (paid : Paid) → IsSound db → IsPayment p → IsBetween 1 999999999999999 number → IsBetween 0 999999999999 moment → payment db p moment ≡ Ok paid → IsPaymentReply (payment_reply paid)
unfolding payment_reply
payment_replies db p number moment paid sound few numbered timed h =
    let is = payments.found db p number moment paid sound few numbered timed h in
    let customer = key_limits as_customer db.cards (card_key.Customer p.customer_warehouse p.customer_district paid.customer_id) sound.cards is.customer_card in
    record { customer = customer.2; balance = is.customer.balance; credit = credit_shown paid.credit paid.customer.data is.customer.text }

-- ---- new orders
quantity_within : (z y : ℤ) → stock_quantity_of z ≡ Some y → IsStockQuantity y
quantity_within z y h =
    let (test, same) = passed (is_stock_quantity z) z y h in
    let low = and-left (int_le (negsuc 9998) z) (int_le z (pos 9999)) test in
    let high = and-right (int_le (negsuc 9998) z) (int_le z (pos 9999)) test in
    subst IsStockQuantity same (let l : negsuc 9998 ≤ℤ z = grind (arith, ints) in l, let h : z ≤ℤ pos 9999 = grind (arith, ints) in h)

stock_left : (w : ℕ) (line : OrderedLine) (old new : StockRow) → ordered_stock w line old ≡ Ok new → IsStockQuantity new.quantity
unfolding ordered_stock
stock_left w line old new h =
    ok-by (within (stock_quantity_of (left_quantity old.quantity line.quantity))) _ _ h λ a ea ha.
    ok-by (within (between 0 1000000000 (old.ytd + line.quantity))) _ _ ha λ b eb hb.
    ok-by (within (between 0 1000000000 (old.order_count + 1))) _ _ hb λ c ec hc.
    ok-by (within (between 0 1000000000 (old.remote_count + remote_orders w line))) _ _ hc λ r er hr.
    let is : ◌≡◌ {A = StockRow} (record { quantity = a; ytd = b; order_count = c; remote_count = r }) new = cc in
    subst (λ (z : StockRow). IsStockQuantity z.quantity) is (quantity_within (left_quantity old.quantity line.quantity) a (ok_or-ok _ _ _ ea))

-- one reply more, which is within its limits
record IsOneMore (old new : List LineReply) : Type 0 where
  line : LineReply
  fits : IsLineReply line
  is : new ≡ old ++ line ∷ []

line_replied : (p : NewOrder) (o n : ℕ) (line : LineCards) (old : StockRow) (made more : OrderSoFar) → line_done p o n line old made ≡ Ok more → IsOneMore made.lines more.lines
unfolding line_done line_amount
line_replied p o n line old made more h =
    ok-by (ordered_stock p.warehouse line.ordered old) _ _ h λ stock es hs.
    ok-by (line_amount line) _ _ hs λ amount ea ha.
    let reply : LineReply = record { stock = stock.quantity; brand = brand_of line; amount = amount } in
    record {
      line = reply;
      fits = record { stock = stock_left p.warehouse line.ordered old stock es; amount = (between-some 0 999999 (line.ordered.quantity * line.item.price) amount (ok_or-ok _ _ _ ea)).1 };
      is = sym (ap (λ (z : OrderSoFar). z.lines) (same_ok _ more ha));
    }

-- one for each line
lines_replied : (rows : Rows) (p : NewOrder) (o n : ℕ) (lines : List LineCards) (made last : OrderSoFar) → lines_done rows p o n lines made ≡ Ok last → AllByRecursion IsLineReply made.lines
    → AllByRecursion IsLineReply last.lines × (length last.lines ≡ length made.lines + length lines)
lines_replied rows p o n [] made last h all =
    let same : made ≡ last = same_ok made last h in
    subst (λ (z : OrderSoFar). AllByRecursion IsLineReply z.lines × (length z.lines ≡ length made.lines + 0)) same (all, omega arith)
lines_replied rows p o n (line ∷ lines) made last h all =
    ok-by (known (stock_row (after rows made.changes) line.ordered.supply line.ordered.item)) _ _ h λ old e1 h1.
    ok-by (line_done p o n line old made) _ _ h1 λ more e2 h2.
    let one = line_replied p o n line old made more e2 in
    let so_far : AllByRecursion IsLineReply more.lines = rw (one.is) (all-append IsLineReply made.lines (one.line ∷ []) all (one.fits, tt)) in
    let rest = lines_replied rows p o (n + 1) lines more last h2 so_far in
    let longer : length more.lines ≡ length made.lines + 1 = ap length one.is ∙ length-append made.lines (one.line ∷ []) in
    (rest.0, omega (arith, rest.1, longer))

warehouse_found : (o : Option Card) (c : WarehouseCard) → option_and_then as_warehouse o ≡ Some c → o ≡ Some (card.Warehouse c)
warehouse_found None c h = cc
warehouse_found (Some (card.Warehouse x)) c h = cc
warehouse_found (Some _) c h = cc

district_found : (o : Option Card) (c : DistrictCard) → option_and_then as_district o ≡ Some c → o ≡ Some (card.District c)
district_found None c h = cc
district_found (Some (card.District x)) c h = cc
district_found (Some _) c h = cc

next_found : (o : Option Row) (r : DistrictNextRow) → option_and_then as_district_next o ≡ Some r → o ≡ Some (row.DistrictNext r)
next_found None r h = cc
next_found (Some (row.DistrictNext x)) r h = cc
next_found (Some _) r h = cc

-- the total of fifteen lines at most
total_within : (sum discount w d : ℕ) → sum ≤ 14999985 → w ≤ 9999 → d ≤ 9999 → IsCents (pos (total_cents sum discount w d))
unfolding total_cents
total_within sum discount w d few low small =
    let paid : 10000 - discount ≤ 10000 = omega arith in
    let taxed : 10000 + w + d ≤ 29998 = omega (arith, low, small) in
    let product = mul-le-mul (mul-le-mul few paid) taxed in
    let cents : (sum * (10000 - discount) * (10000 + w + d) + 50000000) / 100000000 ≤ 1000000000000000 = omega (arith, product) in
    (omega (arith, ints), omega (arith, ints, cents))

new_order_replies : (db : Database) (p : NewOrder) (moment : ℕ) (made : PlacedOrder) → IsSound db → IsNewOrder p → new_order db p moment ≡ Ok made → IsNewOrderReply made.reply
unfolding new_order found_cards opened new_order_reply
new_order_replies db p moment made sound few h =
    ok-by (found_cards db.cards p) _ _ h λ cards e0 h0.
    ok-by (known (district_next_row db.rows p.warehouse p.district)) _ _ h0 λ old e1 h1.
    ok-by (raised_district old) _ _ h1 λ new e3 h3.
    ok-by (lines_done db.rows p old.next_order 1 cards.lines (opened p moment old.next_order new)) _ _ h3 λ last e2 h2.
    ok-by (known (warehouse_card db.cards p.warehouse)) _ _ e0 λ c1 e4 h4.
    ok-by (known (district_card db.cards p.warehouse p.district)) _ _ h4 λ c2 e5 h5.
    ok-by (known (customer_card db.cards p.warehouse p.district p.customer)) _ _ h5 λ c3 e6 h6.
    ok-by (found_lines db.cards p.lines) _ _ h6 λ lines e7 h7.
    let found : ◌≡◌ {A = NewOrderCards} (record { warehouse = c1; district = c2; customer = c3; lines = lines }) cards = same_ok _ cards h7 in
    let warehouse = sound.cards.limits (card_key.Warehouse p.warehouse) (card.Warehouse c1) (warehouse_found _ c1 (ok_or-ok _ _ _ e4)) in
    let district = sound.cards.limits (card_key.District p.warehouse p.district) (card.District c2) (district_found _ c2 (ok_or-ok _ _ _ e5)) in
    let next = writable db sound (key.DistrictNext p.warehouse p.district) (row.DistrictNext old) (next_found _ old (ok_or-ok _ _ _ e1)) in
    let all = lines_replied db.rows p old.next_order 1 cards.lines (opened p moment old.next_order new) last e2 tt in
    let each = All-from_recursion IsLineReply last.lines all.0 in
    let own : length cards.lines ≡ length p.lines = ap (λ (z : NewOrderCards). length z.lines) (sym found) ∙ found_lines-length db.cards p.lines lines e7 in
    let count : length last.lines ≤ 15 = omega (arith, all.1, own, few.lines.1) in
    let most = sum_by-le (λ (line : LineReply). line.amount) 999999 last.lines (λ k d low. (each k d low).amount.1) in
    let is : ◌≡◌ {A = PlacedOrder} (record { reply = new_order_reply cards old.next_order last.lines; changes = last.changes }) made = same_ok _ made h2 in
    subst (λ (z : PlacedOrder). IsNewOrderReply z.reply) is (record {
      order = next.row_limits;
      total = subst (λ (z : NewOrderCards). IsCents (pos (total_cents (sum_by (λ line. line.amount) last.lines) z.customer.discount z.warehouse.tax z.district.tax))) found
          (total_within (sum_by (λ line. line.amount) last.lines) c3.discount c1.tax c2.tax (omega (arith, most, count)) warehouse.2.1 district.3.1);
      count = count;
      lines = each;
    })

-- ---- order statuses
customer_found : (o : Option Card) (c : CustomerCard) → option_and_then as_customer o ≡ Some c → o ≡ Some (card.Customer c)
customer_found None c h = cc
customer_found (Some (card.Customer x)) c h = cc
customer_found (Some _) c h = cc

order_found : (o : Option Row) (r : OrderRow) → option_and_then as_order o ≡ Some r → o ≡ Some (row.Order r)
order_found None r h = cc
order_found (Some (row.Order x)) r h = cc
order_found (Some _) r h = cc

line_found : (o : Option Row) (r : OrderLineRow) → option_and_then as_order_line o ≡ Some r → o ≡ Some (row.OrderLine r)
line_found None r h = cc
line_found (Some (row.OrderLine x)) r h = cc
line_found (Some _) r h = cc

module _ (db : Database) (sound : IsSound db) (p : OrderStatus) where
  shown_fits : (o n : ℕ) (line : OrderLineRow) → order_line_row db.rows p.warehouse p.district o n ≡ Some line → IsShownLine (shown_line line)
  unfolding shown_line
  shown_fits o n line there =
      let own = writable db sound (key.OrderLine p.warehouse p.district o n) (row.OrderLine line) (line_found _ line there) in
      record { item = own.row_limits.0; supply = own.row_limits.1; quantity = own.row_limits.3; amount = own.row_limits.4; delivery = own.row_limits.2 }

  -- none or one
  one_shown : (o n : ℕ) (found : Option OrderLineRow) → order_line_row db.rows p.warehouse p.district o n ≡ found
      → AllByRecursion IsShownLine (option_to_list (option_map shown_line found)) × (length (option_to_list (option_map shown_line found)) ≤ 1)
  one_shown o n None is = (tt, omega arith)
  one_shown o n (Some line) is = ((shown_fits o n line is, tt), omega arith)

  all_shown : (o n : ℕ) → AllByRecursion IsShownLine (shown_lines db.rows p o n) × (length (shown_lines db.rows p o n) ≤ n)
  unfolding shown_lines
  all_shown o zero = (tt, omega arith)
  all_shown o (suc n) =
      let before = all_shown o n in
      let one = one_shown o (suc n) (order_line_row db.rows p.warehouse p.district o (suc n)) refl in
      let last = option_to_list (option_map shown_line (order_line_row db.rows p.warehouse p.district o (suc n))) in
      (all-append IsShownLine (shown_lines db.rows p o n) last before.0 one.0, omega (arith, before.1, one.1, length-append (shown_lines db.rows p o n) last))

  order_fits : (o : ℕ) (order : OrderRow) → order_row db.rows p.warehouse p.district o ≡ Some order → IsShownOrder (shown_order db.rows p o order)
  unfolding shown_order
  order_fits o order there =
      let own = writable db sound (key.Order p.warehouse p.district o) (row.Order order) (order_found _ order there) in
      let lines = all_shown o order.line_count in
      record {
        order = (own.key_limits.2.0, omega (arith, own.key_limits.2.1));
        entry = own.row_limits.1;
        carrier = own.row_limits.2;
        count = omega (arith, lines.1, own.row_limits.3.1);
        lines = All-from_recursion IsShownLine (shown_lines db.rows p o order.line_count) lines.0;
      }

  latest_fits : (o : ℕ) (found : Option OrderRow) → order_row db.rows p.warehouse p.district o ≡ found → IfSome (option_map (shown_order db.rows p o) found) IsShownOrder
  latest_fits o None is = tt
  latest_fits o (Some order) is = order_fits o order is

  last_fits : (last : Option ℕ) → IfSome (option_and_then (λ o. option_map (shown_order db.rows p o) (order_row db.rows p.warehouse p.district o)) last) IsShownOrder
  last_fits None = tt
  last_fits (Some o) = latest_fits o (order_row db.rows p.warehouse p.district o) refl

  status_replies : (shown : OrderStatusReply) → order_status db p ≡ Ok shown → IsOrderStatusReply shown
  unfolding order_status order_status_reply last_order
  status_replies shown h =
      ok-by (known (chosen_customer db.cards p.warehouse p.district p.customer)) _ _ h λ c e1 h1.
      ok-by (known (customer_card db.cards p.warehouse p.district c)) _ _ h1 λ own e2 h2.
      ok-by (known (customer_row db.rows p.warehouse p.district c)) _ _ h2 λ customer e3 h3.
      let there = ok_or-ok _ _ _ e2 in
      let limits = sound.cards.limits (card_key.Customer p.warehouse p.district c) (card.Customer own) (customer_found _ own there) in
      let number = key_limits as_customer db.cards (card_key.Customer p.warehouse p.district c) sound.cards (is_there _ own there) in
      let moving = writable db sound (key.Customer p.warehouse p.district c) (row.Customer customer) (payments.customer-there _ customer (ok_or-ok _ _ _ e3)) in
      subst IsOrderStatusReply (same_ok _ shown h3) (record {
        customer = number.2;
        first = limits.first;
        middle = limits.middle;
        last = limits.last;
        balance = moving.row_limits.0;
        order = last_fits (latest db.rows p.warehouse p.district c);
      })

-- ---- deliveries
module _ (db : Database) (sound : IsSound db) (w : ℕ) where
  oldest_fits : (d : ℕ) (found : Option ℕ) → oldest db.rows w d ≡ found → IsDelivered found
  oldest_fits d None is = tt
  oldest_fits d (Some o) is =
      let own = writable db sound (key.NewOrder w d o) row.NewOrder (oldest-is db.rows w d o is).there in
      (own.key_limits.2.0, omega (arith, own.key_limits.2.1))

  each_oldest : (ds : List ℕ) → AllByRecursion IsDelivered (map (oldest db.rows w) ds)
  each_oldest [] = tt
  each_oldest (d ∷ ds) = (oldest_fits d (oldest db.rows w d) refl, each_oldest ds)

delivery_replies : (db : Database) (p : Delivery) (moment : ℕ) (made : Delivered) → IsSound db → delivery db p moment ≡ Ok made → IsDeliveryReply made.reply
unfolding delivery
delivery_replies db p moment made sound h =
    ok-by (known (warehouse_card db.cards p.warehouse)) _ _ h λ own e1 h1.
    ok-by (districts_delivered db.rows p moment ten empty) _ _ h1 λ changes e2 h2.
    subst (λ (z : Delivered). IsDeliveryReply z.reply) (same_ok _ made h2) (record { ten = refl; orders = All-from_recursion IsDelivered (map (oldest db.rows p.warehouse) ten) (each_oldest db sound p.warehouse ten) })

-- ---- stock levels
module _ (db : Database) (p : StockLevel) where
  line_counted : (found : Option OrderLineRow) (items : List ℕ) → length (with_line db p found items) ≤ length items + 1
  line_counted None items = omega arith
  line_counted (Some line) items = either (is_low db p line.item)
    where
      either : (b : Bool) → length (if b then line.item ∷ items else items) ≤ length items + 1
      either true = omega arith
      either false = omega arith

  lines_counted : (o n : ℕ) (items : List ℕ) → length (with_lines db p o n items) ≤ length items + n
  unfolding with_lines
  lines_counted o zero items = omega arith
  lines_counted o (suc n) items = omega (arith, lines_counted o n items, line_counted (order_line_row db.rows p.warehouse p.district o (suc n)) (with_lines db p o n items))

  orders_counted : (first n : ℕ) → length (low_items db p first n) ≤ 15 * n
  unfolding low_items
  orders_counted first zero = omega arith
  orders_counted first (suc n) = omega (arith, orders_counted first n, lines_counted (first + n) 15 (low_items db p first n))

  level_replies : (counted : StockLevelReply) → stock_level db p ≡ Ok counted → counted.low_stock < 2 ^ 32
  unfolding stock_level
  level_replies counted h =
      ok-by (known (district_card db.cards p.warehouse p.district)) _ _ h λ own e1 h1.
      ok-by (known (district_next_row db.rows p.warehouse p.district)) _ _ h1 λ district e2 h2.
      let items = low_items db p (first_recent district.next_order) (district.next_order - first_recent district.next_order) in
      let few : length items ≤ 300 = omega (arith, orders_counted (first_recent district.next_order) (district.next_order - first_recent district.next_order)) in
      subst (λ (z : StockLevelReply). z.low_stock < 2 ^ 32) (same_ok _ counted h2) (omega (arith, few, distinct_count-le nat_eq items))

-- ---- any request
replies_or_refuses : {A : Type 0} (k : RequestKind) (made : A → StepOutcome) (r : Result A RequestRefusal) → ((x : A) → r ≡ Ok x → IsReply (made x).reply) → IsReply (outcome_of k made r).reply
replies_or_refuses k made (Ok x) fits = fits x refl
replies_or_refuses k made (Err why) fits = tt

pub step_replies : StepsReplyWithin
unfolding step
step_replies db (request.NewOrder p) number moment sound fits numbered timed = replies_or_refuses kind.NewOrder _ (new_order db p moment) (λ made h. new_order_replies db p moment made sound fits h)
step_replies db (request.Payment p) number moment sound fits numbered timed = replies_or_refuses kind.Payment _ (payment db p moment) (λ paid h. payment_replies db p number moment paid sound fits numbered timed h)
step_replies db (request.OrderStatus p) number moment sound fits numbered timed = replies_or_refuses kind.OrderStatus _ (order_status db p) (λ shown h. status_replies db sound p shown h)
step_replies db (request.Delivery p) number moment sound fits numbered timed = replies_or_refuses kind.Delivery _ (delivery db p moment) (λ made h. delivery_replies db p moment made sound h)
step_replies db (request.StockLevel p) number moment sound fits numbered timed = replies_or_refuses kind.StockLevel _ (stock_level db p) (λ counted h. level_replies db p counted h)
