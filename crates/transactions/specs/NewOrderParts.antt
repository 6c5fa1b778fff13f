-- What the code's parts of a new order stand for.
use Rattle.std.specs.Prelude.{◌≡◌, ◌≤◌, ℕ, ◌+◌, ◌*◌, ℤ, pos, List, [], ◌∷◌, ◌++◌, length, map, Option, Some, None, Result, Ok, Err}
use Rattle.std.specs.FinMap.{empty, insert}
use Rattle.std.specs.List.{sum_by}
use Rattle.catalog.specs.CardMap.{Cards}
use Rattle.catalog.specs.Lookups.{customer_card, district_card, warehouse_card}
use Rattle.requests.specs.declared.request.NewOrder.{NewOrder}
use Rattle.requests.specs.declared.request.OrderedLine.{OrderedLine}
use Rattle.requests.specs.declared.reply.LineReply.{LineReply}
use Rattle.requests.specs.declared.reply.RequestRefusal.{RequestRefusal}
use Rattle.requests.specs.declared.reply.RequestRefusal.TheVariants.{UnknownKey}
use Rattle.tpcc_model.specs.NewOrders as model
use Rattle.tpcc_model.specs.Staging.{◌>>=◌, known}
use Rattle.tpcc_rows.specs.Changing.{after}
use Rattle.tpcc_rows.specs.Prices.{total_cents}
use Rattle.tpcc_rows.specs.RowMap.{Changes, Rows}
use Rattle.tpcc_rows.specs.Rows.{stock_row}
use Rattle.tpcc_rows.specs.declared.key.RowKey.TheVariants as key
use Rattle.tpcc_rows.specs.declared.row.Row.TheVariants as row
use Rattle.tpcc_rows.specs.declared.row.StockRow.{StockRow}
use Rattle.transactions.specs.declared.new_order.NewStock.{NewStock}
use Rattle.transactions.specs.declared.new_order.OrderSoFar.{OrderSoFar}
use Rattle.transactions.specs.declared.new_order.OwnCards.{OwnCards}
use Rattle.transactions.specs.declared.new_order.PlacedOrder.{PlacedOrder}
use Rattle.transactions.specs.declared.order_line.LineCards.{LineCards}

abbrev pub line_cards_of : LineCards → model.LineCards
line_cards_of line = record { ordered = line.ordered.now; item = line.item.now; stock = line.stock.now }

-- a line with its cards
abbrev pub found_line : Cards → OrderedLine → Result model.LineCards RequestRefusal
found_line cards line = model.found_item cards line >>= model.found_stock cards

-- these rows of the stocks, put in turn
abbrev pub with_stocks : List NewStock → Changes → Changes
with_stocks [] changes = changes
with_stocks (stock ∷ stocks) changes = with_stocks stocks (insert changes (key.Stock stock.warehouse stock.item) (Some (row.Stock stock.row)))

abbrev pub stock_changes : List NewStock → Changes
stock_changes stocks = with_stocks stocks empty

abbrev pub so_far_of : OrderSoFar → model.OrderSoFar
so_far_of order = record { changes = stock_changes order.stocks.items; lines = order.lines }

-- the cards of the order's own keys; where one is unknown, so are the order's cards
abbrev pub AreOwnCards : Cards → NewOrder → Option OwnCards → Type 0
AreOwnCards cards p (Some own) =
    (warehouse_card cards p.warehouse ≡ Some own.warehouse.now) × (district_card cards p.warehouse p.district ≡ Some own.district.now)
    × (customer_card cards p.warehouse p.district p.customer ≡ Some own.customer.now)
AreOwnCards cards p None = model.found_cards cards p ≡ Err UnknownKey

-- the sum of the lines' amounts, less the discount, with the taxes
abbrev pub total_of : OwnCards → List LineReply → ℤ
total_of own lines = pos (total_cents (sum_by (λ line. line.amount) lines) own.customer.now.discount own.warehouse.now.tax own.district.now.tax)

-- ---- the order's changes, put in the order of their keys: the stocks, the order, the new order, and the lines
-- a line's stock, which has this row, and what is answered for the line
unfoldable pub stock_done : NewOrder → model.LineCards → StockRow → model.OrderSoFar → Result model.OrderSoFar RequestRefusal
stock_done p line old order = do
  stock ← model.ordered_stock p.warehouse line.ordered old
  amount ← model.line_amount line
  Ok (record {
    changes = insert order.changes (key.Stock line.ordered.supply line.ordered.item) (Some (row.Stock stock));
    lines = order.lines ++ (record { stock = stock.quantity; brand = model.brand_of line; amount = amount }) ∷ [];
  })

-- the lines' stocks, each on the rows that the earlier ones leave
abbrev pub stocks_done : Rows → NewOrder → List model.LineCards → model.OrderSoFar → Result model.OrderSoFar RequestRefusal
stocks_done rows p [] order = Ok order
stocks_done rows p (line ∷ lines) order = do
  old ← known (stock_row (after rows order.changes) line.ordered.supply line.ordered.item)
  more ← stock_done p line old order
  stocks_done rows p lines more

-- the rows of the order and the new order
abbrev pub with_order : NewOrder → ℕ → ℕ → Changes → Changes
with_order p moment o changes =
    insert (insert changes (key.Order p.warehouse p.district o) (Some (row.Order (model.order_of p moment))))
    (key.NewOrder p.warehouse p.district o) (Some row.NewOrder)

-- OL_AMOUNT of a line that isn't refused
abbrev pub amount_of : model.LineCards → ℕ
amount_of line = line.ordered.quantity * line.item.price

-- the rows of the lines from n on
abbrev pub with_lines : NewOrder → ℕ → ℕ → List model.LineCards → Changes → Changes
with_lines p o n [] changes = changes
with_lines p o n (line ∷ lines) changes =
    with_lines p o (n + 1) lines (insert changes (key.OrderLine p.warehouse p.district o n) (Some (row.OrderLine (model.order_line_of p line (amount_of line)))))

-- ---- an order that is decided
-- its rows: those of the stocks, the order, the new order, the lines, and the district's next number
abbrev pub with_placed : PlacedOrder → Changes → Changes
with_placed placed changes =
    insert
    (with_lines placed.p.now placed.reply.order 1 (map line_cards_of placed.lines.items)
    (with_order placed.p.now placed.moment placed.reply.order (with_stocks placed.stocks.items changes))) (key.DistrictNext placed.p.now.warehouse placed.p.now.district) (Some (row.DistrictNext placed.next_row))

abbrev pub placed_order_of : PlacedOrder → model.PlacedOrder
placed_order_of placed = record { reply = placed.reply; changes = with_placed placed empty }

-- its changes, and the replies to its lines
abbrev pub order_done_of : PlacedOrder → model.OrderSoFar
order_done_of placed = record { changes = with_placed placed empty; lines = placed.reply.lines }

-- it has at most 15 lines, and the replies to them have their amounts
pub record IsPlaced (placed : PlacedOrder) : Type 0 where
  pub few : length placed.lines.items ≤ 15
  pub amounts : map (λ reply. reply.amount) placed.reply.lines ≡ map amount_of (map line_cards_of placed.lines.items)
