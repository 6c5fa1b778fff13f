-- Payment (TPC-C clause 2.5): looks up the cards of its keys, then their rows, then makes the new rows.
use Rattle.std.specs.Prelude.{ℕ, ◌+◌, pos, ◌+ℤ◌, ◌-ℤ◌, List, [], ◌∷◌, ◌++◌, codes, Some, Result, Ok, decimal}
use Rattle.std.specs.FinMap as map
use Rattle.tpcc_rows.specs.Limits.{between, cents_of}
use Rattle.tpcc_rows.specs.Texts.{clip}
use Rattle.tpcc_rows.specs.Rows.{warehouse_row, district_ytd_row, customer_row}
use Rattle.tpcc_rows.specs.RowMap.{Rows, Changes}
use Rattle.tpcc_rows.specs.declared.key.RowKey.TheVariants as key
use Rattle.tpcc_rows.specs.declared.row.Row.TheVariants as row
use Rattle.tpcc_rows.specs.declared.row.WarehouseRow.{WarehouseRow}
use Rattle.tpcc_rows.specs.declared.row.DistrictYtdRow.{DistrictYtdRow}
use Rattle.tpcc_rows.specs.declared.row.CustomerRow.{CustomerRow}
use Rattle.tpcc_rows.specs.declared.row.HistoryRow.{HistoryRow}
use Rattle.catalog.specs.CardMap.{Cards}
use Rattle.catalog.specs.Lookups.{warehouse_card, district_card, customer_card}
use Rattle.catalog.specs.declared.card.Credit.{Credit}
use Rattle.catalog.specs.declared.card.Credit.TheVariants.{Good, Bad}
use Rattle.catalog.specs.declared.card.WarehouseCard.{WarehouseCard}
use Rattle.catalog.specs.declared.card.DistrictCard.{DistrictCard}
use Rattle.catalog.specs.declared.card.CustomerCard.{CustomerCard}
use Rattle.requests.specs.declared.request.Payment.{Payment}
use Rattle.requests.specs.declared.reply.RequestRefusal.{RequestRefusal}
use Rattle.requests.specs.declared.reply.ShownCredit.{ShownCredit}
use Rattle.requests.specs.declared.reply.ShownCredit.TheVariants as shown
use Rattle.requests.specs.declared.reply.PaymentReply.{PaymentReply}
use Rattle.tpcc_model.specs.Choices.{chosen_customer}
use Rattle.tpcc_model.specs.Database.{Database}
use Rattle.tpcc_model.specs.Staging.{◌>>=◌, known, within}

-- the customer, and the cards of a payment's keys
pub record PaymentCards : Type 0 where
  pub customer_id : ℕ
  pub warehouse : WarehouseCard
  pub district : DistrictCard
  pub customer : CustomerCard

unfoldable pub found_cards : Cards → Payment → Result PaymentCards RequestRefusal
found_cards cards p = do
  warehouse ← known (warehouse_card cards p.warehouse)
  district ← known (district_card cards p.warehouse p.district)
  c ← known (chosen_customer cards p.customer_warehouse p.customer_district p.customer)
  customer ← known (customer_card cards p.customer_warehouse p.customer_district c)
  Ok (record { customer_id = c; warehouse = warehouse; district = district; customer = customer })

-- the rows of its keys
pub record PaymentRows : Type 0 where
  pub warehouse : WarehouseRow
  pub district : DistrictYtdRow
  pub customer : CustomerRow

unfoldable pub found_rows : Rows → Payment → ℕ → Result PaymentRows RequestRefusal
found_rows rows p c = do
  warehouse ← known (warehouse_row rows p.warehouse)
  district ← known (district_ytd_row rows p.warehouse p.district)
  customer ← known (customer_row rows p.customer_warehouse p.customer_district c)
  Ok (record { warehouse = warehouse; district = district; customer = customer })

-- W_YTD goes up by the amount
unfoldable pub paid_warehouse : WarehouseRow → ℕ → Result WarehouseRow RequestRefusal
paid_warehouse old amount = do
  ytd ← within (cents_of (old.ytd +ℤ pos amount))
  Ok (record { ytd = ytd })

-- D_YTD goes up by the amount
unfoldable pub paid_district : DistrictYtdRow → ℕ → Result DistrictYtdRow RequestRefusal
paid_district old amount = do
  ytd ← within (cents_of (old.ytd +ℤ pos amount))
  Ok (record { ytd = ytd })

-- a number in decimal, then this byte
abbrev pub field : ℕ → ℕ → List ℕ
field n end = decimal n ++ end ∷ []

-- C_ID C_D_ID C_W_ID D_ID W_ID H_AMOUNT, separated by single spaces, and a bar at the end
unfoldable pub payment_note : Payment → ℕ → List ℕ
payment_note p c = field c 32 ++ field p.customer_district 32 ++ field p.customer_warehouse 32 ++ field p.district 32 ++ field p.warehouse 32 ++ field p.amount 124

-- C_DATA: for bad credit the note goes to the front, truncated to 500 characters
unfoldable pub paid_data : Payment → ℕ → Credit → List ℕ → List ℕ
paid_data p c Good old = old
paid_data p c Bad old = clip 500 (payment_note p c ++ old)

-- C_BALANCE goes down by the amount, C_YTD_PAYMENT up by it, and C_PAYMENT_CNT up by one
unfoldable pub paid_customer : Payment → ℕ → Credit → CustomerRow → Result CustomerRow RequestRefusal
paid_customer p c credit old = do
  balance ← within (cents_of (old.balance -ℤ pos p.amount))
  ytd_payment ← within (cents_of (old.ytd_payment +ℤ pos p.amount))
  payment_count ← within (between 0 1000000000 (old.payment_count + 1))
  Ok (record {
    balance = balance;
    ytd_payment = ytd_payment;
    payment_count = payment_count;
    delivery_count = old.delivery_count;
    «data» = paid_data p c credit old.data;
  })

-- H_DATA is W_NAME, four spaces and D_NAME
unfoldable pub history_of : Payment → ℕ → ℕ → List ℕ → List ℕ → HistoryRow
history_of p c moment warehouse_name district_name = record {
  customer = c;
  customer_district = p.customer_district;
  customer_warehouse = p.customer_warehouse;
  district = p.district;
  warehouse = p.warehouse;
  date = moment;
  amount = p.amount;
  «data» = clip 24 (warehouse_name ++ codes "    " ++ district_name);
}

-- the result of a payment: the new rows, and who paid
pub record Paid : Type 0 where
  pub warehouse : WarehouseRow
  pub district : DistrictYtdRow
  pub customer : CustomerRow
  pub history : HistoryRow
  pub customer_id : ℕ
  pub credit : Credit

unfoldable pub paid_rows : Payment → ℕ → PaymentCards → PaymentRows → Result Paid RequestRefusal
paid_rows p moment cards rows = do
  warehouse ← paid_warehouse rows.warehouse p.amount
  district ← paid_district rows.district p.amount
  customer ← paid_customer p cards.customer_id cards.customer.credit rows.customer
  Ok (record {
    warehouse = warehouse;
    district = district;
    customer = customer;
    history = history_of p cards.customer_id moment cards.warehouse.name cards.district.name;
    customer_id = cards.customer_id;
    credit = cards.customer.credit;
  })

unfoldable pub payment : Database → Payment → ℕ → Result Paid RequestRefusal
payment db p moment = do
  cards ← found_cards db.cards p
  rows ← found_rows db.rows p cards.customer_id
  paid_rows p moment cards rows

-- for bad credit the first 200 characters of C_DATA are shown
abbrev pub shown_credit : Credit → List ℕ → ShownCredit
shown_credit Good text = shown.Good
shown_credit Bad text = shown.Bad (clip 200 text)

unfoldable pub payment_reply : Paid → PaymentReply
payment_reply paid = record { customer = paid.customer_id; balance = paid.customer.balance; credit = shown_credit paid.credit paid.customer.data }

-- each key that a payment writes, with its new row
unfoldable pub payment_changes : Payment → ℕ → Paid → Changes
payment_changes p number paid =
    map.insert (map.insert (map.insert (map.insert map.empty (key.Warehouse p.warehouse) (Some (row.Warehouse paid.warehouse)))
    (key.DistrictYtd p.warehouse p.district) (Some (row.DistrictYtd paid.district)))
    (key.Customer p.customer_warehouse p.customer_district paid.customer_id) (Some (row.Customer paid.customer)))
    (key.History number) (Some (row.History paid.history))
