-- New-Order (TPC-C clause 2.4): looks up the cards of its keys, then takes the district's next number, then does the lines
-- in order, each on the rows that the earlier ones leave.
use Rattle.std.specs.Prelude.{ℕ, ◌+◌, ◌*◌, pos, ℤ, ◌+ℤ◌, ◌-ℤ◌, int_le, nat_eq, List, [], ◌∷◌, ◌++◌, length, codes, Bool, ◌&&◌, ◌||◌, ◌==◌, Some, None, Result, Ok, if◌then◌else◌}
use Rattle.std.specs.List.{list_all, starts_with, sum_by}
use Rattle.std.specs.Option.{ok_or}
use Rattle.std.specs.FinMap as map
use Rattle.tpcc_rows.specs.Changing.{after}
use Rattle.tpcc_rows.specs.Limits.{between, stock_quantity_of}
use Rattle.tpcc_rows.specs.Prices.{total_cents}
use Rattle.tpcc_rows.specs.Rows.{district_next_row, stock_row}
use Rattle.tpcc_rows.specs.RowMap.{Rows, Changes}
use Rattle.tpcc_rows.specs.declared.key.RowKey.TheVariants as key
use Rattle.tpcc_rows.specs.declared.row.Row.TheVariants as row
use Rattle.tpcc_rows.specs.declared.row.DistrictNextRow.{DistrictNextRow}
use Rattle.tpcc_rows.specs.declared.row.StockRow.{StockRow}
use Rattle.tpcc_rows.specs.declared.row.OrderRow.{OrderRow}
use Rattle.tpcc_rows.specs.declared.row.OrderLineRow.{OrderLineRow}
use Rattle.catalog.specs.CardMap.{Cards}
use Rattle.catalog.specs.Lookups.{warehouse_card, district_card, customer_card, item_card, stock_card}
use Rattle.catalog.specs.StockCards.{district_info}
use Rattle.catalog.specs.declared.card.WarehouseCard.{WarehouseCard}
use Rattle.catalog.specs.declared.card.DistrictCard.{DistrictCard}
use Rattle.catalog.specs.declared.card.CustomerCard.{CustomerCard}
use Rattle.catalog.specs.declared.card.ItemCard.{ItemCard}
use Rattle.catalog.specs.declared.card.StockCard.{StockCard}
use Rattle.requests.specs.declared.request.NewOrder.{NewOrder}
use Rattle.requests.specs.declared.request.OrderedLine.{OrderedLine}
use Rattle.requests.specs.declared.reply.Brand.{Brand}
use Rattle.requests.specs.declared.reply.Brand.TheVariants as brand
use Rattle.requests.specs.declared.reply.LineReply.{LineReply}
use Rattle.requests.specs.declared.reply.NewOrderReply.{NewOrderReply}
use Rattle.requests.specs.declared.reply.RequestRefusal.{RequestRefusal}
use Rattle.requests.specs.declared.reply.RequestRefusal.TheVariants.{ItemNotValid}
use Rattle.tpcc_model.specs.Database.{Database}
use Rattle.tpcc_model.specs.Staging.{◌>>=◌, for_each, known, within}

-- ---- the cards
-- a line with its item's card
pub record LineItem : Type 0 where
  pub ordered : OrderedLine
  pub item : ItemCard

-- and with its stock's
pub record LineCards : Type 0 where
  pub ordered : OrderedLine
  pub item : ItemCard
  pub stock : StockCard

unfoldable pub found_item : Cards → OrderedLine → Result LineItem RequestRefusal
found_item cards line = do
  item ← ok_or (item_card cards line.item) ItemNotValid
  Ok (record { ordered = line; item = item })

unfoldable pub found_stock : Cards → LineItem → Result LineCards RequestRefusal
found_stock cards line = do
  stock ← known (stock_card cards line.ordered.supply line.ordered.item)
  Ok (record { ordered = line.ordered; item = line.item; stock = stock })

-- the lines with their cards: all items are looked up before any stock
unfoldable pub found_lines : Cards → List OrderedLine → Result (List LineCards) RequestRefusal
found_lines cards lines = do
  items ← for_each (found_item cards) lines
  for_each (found_stock cards) items

-- the cards of a new order's keys
pub record NewOrderCards : Type 0 where
  pub warehouse : WarehouseCard
  pub district : DistrictCard
  pub customer : CustomerCard
  pub lines : List LineCards

unfoldable pub found_cards : Cards → NewOrder → Result NewOrderCards RequestRefusal
found_cards cards p = do
  warehouse ← known (warehouse_card cards p.warehouse)
  district ← known (district_card cards p.warehouse p.district)
  customer ← known (customer_card cards p.warehouse p.district p.customer)
  lines ← found_lines cards p.lines
  Ok (record { warehouse = warehouse; district = district; customer = customer; lines = lines })

-- ---- the order
-- D_NEXT_O_ID goes up by one
unfoldable pub raised_district : DistrictNextRow → Result DistrictNextRow RequestRefusal
raised_district old = do
  next_order ← within (between 1 9999999 (old.next_order + 1))
  Ok (record { next_order = next_order })

-- each line is supplied by this warehouse
abbrev pub all_local : ℕ → List OrderedLine → Bool
all_local warehouse lines = list_all (λ line. line.supply == warehouse) lines

-- the order's row: no carrier yet; O_ALL_LOCAL if each line is supplied by the order's warehouse
unfoldable pub order_of : NewOrder → ℕ → OrderRow
order_of p moment = record {
  customer = p.customer;
  entry = moment;
  carrier = None;
  line_count = length p.lines;
  all_local = all_local p.warehouse p.lines;
}

-- ---- one line
-- S_QUANTITY goes down by the quantity; unless it exceeded that by 10 or more, 91 is added
abbrev pub left_quantity : ℤ → ℕ → ℤ
left_quantity have quantity = if int_le (pos (quantity + 10)) have then have -ℤ pos quantity else have -ℤ pos quantity +ℤ pos 91

-- 1 for a line supplied by another warehouse
abbrev pub remote_orders : ℕ → OrderedLine → ℕ
remote_orders warehouse line = if line.supply == warehouse then 0 else 1

-- the stock after a line for this warehouse: S_YTD goes up by the quantity, S_ORDER_CNT by one, and S_REMOTE_CNT by one if
-- another warehouse supplies the line
unfoldable pub ordered_stock : ℕ → OrderedLine → StockRow → Result StockRow RequestRefusal
ordered_stock warehouse line old = do
  quantity ← within (stock_quantity_of (left_quantity old.quantity line.quantity))
  ytd ← within (between 0 1000000000 (old.ytd + line.quantity))
  order_count ← within (between 0 1000000000 (old.order_count + 1))
  remote_count ← within (between 0 1000000000 (old.remote_count + remote_orders warehouse line))
  Ok (record { quantity = quantity; ytd = ytd; order_count = order_count; remote_count = remote_count })

-- OL_AMOUNT is the quantity times I_PRICE
unfoldable pub line_amount : LineCards → Result ℕ RequestRefusal
line_amount line = within (between 0 999999 (line.ordered.quantity * line.item.price))

-- the text contains the word
abbrev pub includes : List ℕ → List ℕ → Bool
includes [] word = starts_with nat_eq [] word
includes (byte ∷ bytes) word = starts_with nat_eq (byte ∷ bytes) word || includes bytes word

unfoldable pub is_original : List ℕ → Bool
is_original text = includes text (codes "ORIGINAL")

-- brand if I_DATA and S_DATA both contain the word `ORIGINAL`
unfoldable pub brand_of : LineCards → Brand
brand_of line = if is_original line.item.data && is_original line.stock.data then brand.Brand else brand.Generic

-- the line's row, not delivered yet: OL_DIST_INFO is the S_DIST of the order's district
unfoldable pub order_line_of : NewOrder → LineCards → ℕ → OrderLineRow
order_line_of p line amount = record {
  item = line.ordered.item;
  supply = line.ordered.supply;
  delivery = None;
  quantity = line.ordered.quantity;
  amount = amount;
  district_info = district_info line.stock p.district;
}

-- ---- all lines
-- the result so far: each key written with its new row, and the replies for the lines
pub record OrderSoFar : Type 0 where
  pub changes : Changes
  pub lines : List LineReply

-- line n of order o, whose stock has this row
unfoldable pub line_done : NewOrder → ℕ → ℕ → LineCards → StockRow → OrderSoFar → Result OrderSoFar RequestRefusal
line_done p o n line old order = do
  stock ← ordered_stock p.warehouse line.ordered old
  amount ← line_amount line
  Ok (record {
    changes =
        map.insert (map.insert order.changes (key.Stock line.ordered.supply line.ordered.item) (Some (row.Stock stock)))
        (key.OrderLine p.warehouse p.district o n) (Some (row.OrderLine (order_line_of p line amount)));
    lines = order.lines ++ (record { stock = stock.quantity; brand = brand_of line; amount = amount }) ∷ [];
  })

-- the lines from n on, each on the rows that the earlier ones leave
abbrev pub lines_done : Rows → NewOrder → ℕ → ℕ → List LineCards → OrderSoFar → Result OrderSoFar RequestRefusal
lines_done rows p o n [] order = Ok order
lines_done rows p o n (line ∷ lines) order = do
  old ← known (stock_row (after rows order.changes) line.ordered.supply line.ordered.item)
  more ← line_done p o n line old order
  lines_done rows p o (n + 1) lines more

-- before the lines: the rows of the district's next number, the order and the new order
unfoldable pub opened : NewOrder → ℕ → ℕ → DistrictNextRow → OrderSoFar
opened p moment o district = record {
  changes =
      map.insert (map.insert (map.insert map.empty (key.DistrictNext p.warehouse p.district) (Some (row.DistrictNext district)))
      (key.Order p.warehouse p.district o) (Some (row.Order (order_of p moment))))
      (key.NewOrder p.warehouse p.district o) (Some row.NewOrder);
  lines = [];
}

-- ---- the whole
-- the total is the sum of OL_AMOUNT, less the discount, plus the taxes
unfoldable pub new_order_reply : NewOrderCards → ℕ → List LineReply → NewOrderReply
new_order_reply cards o lines = record {
  order = o;
  total = pos (total_cents (sum_by (λ line. line.amount) lines) cards.customer.discount cards.warehouse.tax cards.district.tax);
  lines = lines;
}

-- the result of a new order: the reply, and each key written with its new row
pub record PlacedOrder : Type 0 where
  pub reply : NewOrderReply
  pub changes : Changes

-- O_ID is what D_NEXT_O_ID was
unfoldable pub new_order : Database → NewOrder → ℕ → Result PlacedOrder RequestRefusal
new_order db p moment = do
  cards ← found_cards db.cards p
  old ← known (district_next_row db.rows p.warehouse p.district)
  district ← raised_district old
  order ← lines_done db.rows p old.next_order 1 cards.lines (opened p moment old.next_order district)
  Ok (record { reply = new_order_reply cards old.next_order order.lines; changes = order.changes })
