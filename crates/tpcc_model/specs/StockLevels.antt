-- Stock-Level (TPC-C clause 2.8): counts the distinct items, among the lines of the district's last twenty orders, that are
-- low in the warehouse.
use Rattle.std.specs.Prelude.{ℕ, zero, suc, ◌+◌, ◌-◌, max, pos, int_lt, nat_eq, Bool, false, List, [], ◌∷◌, Option, Some, None, Result, Ok, if◌then◌else◌}
use Rattle.std.specs.Set.{distinct_count}
use Rattle.tpcc_rows.specs.Rows.{district_next_row, order_line_row, stock_row}
use Rattle.tpcc_rows.specs.declared.row.OrderLineRow.{OrderLineRow}
use Rattle.tpcc_rows.specs.declared.row.StockRow.{StockRow}
use Rattle.catalog.specs.Lookups.{district_card, stock_card}
use Rattle.catalog.specs.declared.card.StockCard.{StockCard}
use Rattle.requests.specs.declared.request.StockLevel.{StockLevel}
use Rattle.requests.specs.declared.reply.RequestRefusal.{RequestRefusal}
use Rattle.requests.specs.declared.reply.StockLevelReply.{StockLevelReply}
use Rattle.tpcc_model.specs.Database.{Database}
use Rattle.tpcc_model.specs.Staging.{◌>>=◌, known}

-- a stock with a card, below the threshold
abbrev pub is_below : ℕ → Option StockCard → Option StockRow → Bool
is_below threshold (Some card) (Some stock) = int_lt stock.quantity (pos threshold)
is_below threshold _ _ = false

-- the item's stock in the warehouse is low
unfoldable pub is_low : Database → StockLevel → ℕ → Bool
is_low db p item = is_below p.threshold (stock_card db.cards p.warehouse item) (stock_row db.rows p.warehouse item)

-- these items, and the line's, if it exists and is low
abbrev pub with_line : Database → StockLevel → Option OrderLineRow → List ℕ → List ℕ
with_line db p None items = items
with_line db p (Some line) items = if is_low db p line.item then line.item ∷ items else items

-- these items, and the low ones of the order's lines 1 to n
unfoldable pub with_lines : Database → StockLevel → ℕ → ℕ → List ℕ → List ℕ
with_lines db p o zero items = items
with_lines db p o (suc n) items = with_line db p (order_line_row db.rows p.warehouse p.district o (suc n)) (with_lines db p o n items)

-- the low items of n orders from this one on; an order has at most 15 lines
unfoldable pub low_items : Database → StockLevel → ℕ → ℕ → List ℕ
low_items db p first zero = []
low_items db p first (suc n) = with_lines db p (first + n) 15 (low_items db p first n)

-- the first of the last twenty orders
abbrev pub first_recent : ℕ → ℕ
first_recent next = max 1 (next - 20)

-- O_ID of the orders is at least D_NEXT_O_ID - 20, and below D_NEXT_O_ID
unfoldable pub stock_level : Database → StockLevel → Result StockLevelReply RequestRefusal
stock_level db p = do
  card ← known (district_card db.cards p.warehouse p.district)
  district ← known (district_next_row db.rows p.warehouse p.district)
  Ok (record { low_stock = distinct_count nat_eq (low_items db p (first_recent district.next_order) (district.next_order - first_recent district.next_order)) })
