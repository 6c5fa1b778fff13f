-- A sound database: values are within their limits, cards and rows have their parents, and the consistency conditions hold.
use Rattle.std.specs.Prelude.{◌≡◌, ℕ, length, Some, IsSome, IfSome}
use Rattle.std.specs.FinMap as map
use Rattle.tpcc_rows.specs.Limits.{IsBetween, IsCents, IsStockQuantity}
use Rattle.tpcc_rows.specs.declared.id.TheConstants.{LAST_REQUEST}
use Rattle.tpcc_rows.specs.Texts.{IsText}
use Rattle.tpcc_rows.specs.RowMap.{Rows}
use Rattle.tpcc_rows.specs.declared.key.RowKey.{RowKey}
use Rattle.tpcc_rows.specs.declared.key.RowKey.TheVariants as key
use Rattle.tpcc_rows.specs.declared.row.Row.{Row}
use Rattle.tpcc_rows.specs.declared.row.Row.TheVariants as row
use Rattle.tpcc_rows.specs.declared.row.CustomerRow.{CustomerRow}
use Rattle.tpcc_rows.specs.declared.row.DistrictNextRow.{DistrictNextRow}
use Rattle.tpcc_rows.specs.declared.row.StockRow.{StockRow}
use Rattle.tpcc_rows.specs.declared.row.OrderRow.{OrderRow}
use Rattle.tpcc_rows.specs.declared.row.OrderLineRow.{OrderLineRow}
use Rattle.tpcc_rows.specs.declared.row.HistoryRow.{HistoryRow}
use Rattle.catalog.specs.CardMap.{AreKeyed, Cards}
use Rattle.catalog.specs.Lookups.{warehouse_card, district_card, customer_card, stock_card, item_card}
use Rattle.catalog.specs.declared.card.CardKey.{CardKey}
use Rattle.catalog.specs.declared.card.Card.{Card}
use Rattle.catalog.specs.declared.card.Card.TheVariants as card
use Rattle.catalog.specs.declared.card.CustomerCard.{CustomerCard}
use Rattle.catalog.specs.declared.card.StockCard.{StockCard}
use Rattle.std.specs.List.{AllByRecursion}
use Rattle.tpcc_model.specs.Conditions.{Condition1, IsConsistent}
use Rattle.tpcc_model.specs.Database.{Database}

-- ---- cards
pub record IsCustomerCard (c : CustomerCard) : Type 0 where
  pub warehouse : IsBetween 1 100 c.warehouse
  pub district : IsBetween 1 10 c.district
  pub customer : IsBetween 1 3000 c.customer
  pub last : IsText 16 c.last
  pub middle : IsText 2 c.middle
  pub first : IsText 16 c.first
  pub discount : IsBetween 0 9999 c.discount

pub record IsStockCard (c : StockCard) : Type 0 where
  pub warehouse : IsBetween 1 100 c.warehouse
  pub item : IsBetween 1 100000 c.item
  pub text : IsText 50 c.data
  pub ten_infos : length c.district_infos ≡ 10
  pub district_infos : AllByRecursion (IsText 24) c.district_infos

-- the columns of a card are within their limits
abbrev pub IsCard : Card → Type 0
IsCard (card.Warehouse c) = IsBetween 1 100 c.warehouse × IsText 10 c.name × IsBetween 0 9999 c.tax
IsCard (card.District c) = IsBetween 1 100 c.warehouse × IsBetween 1 10 c.district × IsText 10 c.name × IsBetween 0 9999 c.tax
IsCard (card.Customer c) = IsCustomerCard c
IsCard (card.Stock c) = IsStockCard c
IsCard (card.Item c) = IsBetween 1 100000 c.item × IsText 24 c.name × IsBetween 0 99999 c.price × IsText 50 c.data

-- each card is within its limits and at its own key; each warehouse has its ten districts, each district, customer and
-- stock its warehouse, each customer its district, and each stock its item
pub record AreCards (cards : Cards) : Type 0 where
  pub keyed : AreKeyed cards
  pub limits : (k : CardKey) (c : Card) → map.get cards k ≡ Some c → IsCard c
  pub ten_districts : (w d : ℕ) → IsSome (warehouse_card cards w) → IsBetween 1 10 d → IsSome (district_card cards w d)
  pub warehouse_of_district : (w d : ℕ) → IsSome (district_card cards w d) → IsSome (warehouse_card cards w)
  pub district_of_customer : (w d c : ℕ) → IsSome (customer_card cards w d c) → IsSome (district_card cards w d)
  pub warehouse_of_stock : (w i : ℕ) → IsSome (stock_card cards w i) → IsSome (warehouse_card cards w)
  pub item_of_stock : (w i : ℕ) → IsSome (stock_card cards w i) → IsSome (item_card cards i)

-- ---- rows
pub record IsCustomerRow (r : CustomerRow) : Type 0 where
  pub balance : IsCents r.balance
  pub ytd_payment : IsCents r.ytd_payment
  pub payment_count : IsBetween 0 1000000000 r.payment_count
  pub delivery_count : IsBetween 0 1000000000 r.delivery_count
  pub text : IsText 500 r.data

pub record IsStockRow (r : StockRow) : Type 0 where
  pub quantity : IsStockQuantity r.quantity
  pub ytd : IsBetween 0 1000000000 r.ytd
  pub order_count : IsBetween 0 1000000000 r.order_count
  pub remote_count : IsBetween 0 1000000000 r.remote_count

-- an order of the district has its customer
pub record IsOrder (cards : Cards) (w d o : ℕ) (r : OrderRow) : Type 0 where
  pub number : IsBetween 1 9999998 o
  pub district : IsSome (district_card cards w d)
  pub customer : IsSome (customer_card cards w d r.customer)
  pub entry : IsBetween 0 999999999999 r.entry
  pub carrier : IfSome r.carrier (IsBetween 1 10)
  pub line_count : IsBetween 1 15 r.line_count

-- a line belongs to an order with that many lines, and has its stock
pub record IsOrderLine (cards : Cards) (rows : Rows) (w d o n : ℕ) (r : OrderLineRow) : Type 0 where
  pub order : OrderRow
  pub has_order : map.get rows (key.Order w d o) ≡ Some (row.Order order)
  pub number : IsBetween 1 order.line_count n
  pub stock : IsSome (stock_card cards r.supply r.item)
  pub delivery : IfSome r.delivery (IsBetween 0 999999999999)
  pub quantity : IsBetween 0 99 r.quantity
  pub amount : IsBetween 0 999999 r.amount
  pub district_info : IsText 24 r.district_info

-- a payment's record has its customer, and the district where it was paid
pub record IsHistory (cards : Cards) (n : ℕ) (r : HistoryRow) : Type 0 where
  pub number : IsBetween 1 LAST_REQUEST n
  pub customer : IsSome (customer_card cards r.customer_warehouse r.customer_district r.customer)
  pub district : IsSome (district_card cards r.warehouse r.district)
  pub date : IsBetween 0 999999999999 r.date
  pub amount : IsBetween 0 999999 r.amount
  pub text : IsText 24 r.data

-- the row has its key's kind, is within its limits, and has its card or parents
abbrev pub IsEntry : Cards → Rows → RowKey → Row → Type 0
IsEntry cards rows (key.Warehouse w) (row.Warehouse r) = IsSome (warehouse_card cards w) × IsCents r.ytd
IsEntry cards rows (key.Customer w d c) (row.Customer r) = IsSome (customer_card cards w d c) × IsCustomerRow r
IsEntry cards rows (key.Stock w i) (row.Stock r) = IsSome (stock_card cards w i) × IsStockRow r
IsEntry cards rows (key.Order w d o) (row.Order r) = IsOrder cards w d o r
IsEntry cards rows (key.NewOrder w d o) row.NewOrder = (order : OrderRow) × (map.get rows (key.Order w d o) ≡ Some (row.Order order))
IsEntry cards rows (key.OrderLine w d o n) (row.OrderLine r) = IsOrderLine cards rows w d o n r
IsEntry cards rows (key.History n) (row.History r) = IsHistory cards n r
IsEntry cards rows (key.DistrictYtd w d) (row.DistrictYtd r) = IsSome (district_card cards w d) × IsCents r.ytd
IsEntry cards rows (key.DistrictNext w d) (row.DistrictNext r) = IsSome (district_card cards w d) × IsBetween 1 9999999 r.next_order
IsEntry cards rows _ _ = ⊥

-- the key has a card; those of orders and of history have none
abbrev pub HasCard : Cards → RowKey → Type 0
HasCard cards (key.Warehouse w) = IsSome (warehouse_card cards w)
HasCard cards (key.Customer w d c) = IsSome (customer_card cards w d c)
HasCard cards (key.Stock w i) = IsSome (stock_card cards w i)
HasCard cards (key.DistrictYtd w d) = IsSome (district_card cards w d)
HasCard cards (key.DistrictNext w d) = IsSome (district_card cards w d)
HasCard cards _ = ⊥

pub record IsSound (db : Database) : Type 0 where
  pub cards : AreCards db.cards
  -- each card has its row
  pub there : (k : RowKey) → HasCard db.cards k → IsSome (map.get db.rows k)
  -- each row is valid
  pub entries : (k : RowKey) (x : Row) → map.get db.rows k ≡ Some x → IsEntry db.cards db.rows k x
  pub condition_1 : Condition1 db.rows
  -- conditions 2 to 4
  pub districts : (w d : ℕ) (r : DistrictNextRow) → map.get db.rows (key.DistrictNext w d) ≡ Some (row.DistrictNext r) → IsConsistent db.rows w d r.next_order
