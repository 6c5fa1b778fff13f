-- A generated database: a number of warehouses, of customers a district and of items; no orders, no history.
use Rattle.std.specs.Prelude.{Bool, ◌≡◌, ◌+◌, ◌-◌, ◌*◌, ◌/◌, ◌%◌, ◌-ℤ◌, ◌++◌, ◌==◌, ℕ, zero, suc, pos, List, [], IsSome, codes, decimal, map, replicate, if◌then◌else◌}
use Rattle.std.specs.FinMap as finmap
use Rattle.std.specs.declared.cmp.Ordering.TheVariants.{Less}
use Rattle.catalog.specs.CardMap.{card_key_cmp}
use Rattle.catalog.specs.declared.card.CardKey.{CardKey}
use Rattle.catalog.specs.declared.card.Credit.{Credit}
use Rattle.catalog.specs.declared.card.Credit.TheVariants as credit
use Rattle.tpcc_model.specs.Database.{Database}
use Rattle.tpcc_rows.specs.Limits.{ten}
use Rattle.loader.specs.Tables.{no_tables, with_record}
use Rattle.image_records.specs.declared.image_record.ImageRecord.{ImageRecord}
use Rattle.image_records.specs.declared.image_record.ImageRecord.TheVariants as said

-- ---- records
unfoldable pub made_warehouse : ℕ → ImageRecord
made_warehouse w = said.Warehouse
    (record { warehouse = w; name = codes "W" ++ decimal w; tax = 1000 })
    (record { ytd = pos 30000000 })

unfoldable pub made_district : ℕ → ℕ → ImageRecord
made_district w d = said.WholeDistrict
    (record { warehouse = w; district = d; name = codes "D" ++ decimal d; tax = 500 })
    (record { ytd = pos 3000000 })
    (record { next_order = 1 })

-- 500 times the letter x
unfoldable pub long_note : List ℕ
long_note = replicate 500 120

abbrev pub made_credit : Bool → Credit
made_credit is_bad = if is_bad then credit.Bad else credit.Good

abbrev pub made_note : Bool → List ℕ
made_note is_bad = if is_bad then long_note else []

unfoldable pub made_customer : ℕ → ℕ → ℕ → ImageRecord
made_customer w d c = said.Customer (record {
  warehouse = w;
  district = d;
  customer = c;
  last = codes "NAME" ++ decimal (c % 10);
  middle = codes "OE";
  first = codes "F" ++ decimal (9 - c / 20 % 10);
  credit = made_credit (c % 10 == 0);
  discount = 1000;
}) (record {
  balance = pos 0 -ℤ pos 1000;
  ytd_payment = pos 1000;
  payment_count = 1;
  delivery_count = 0;
  «data» = made_note (c % 10 == 0);
})

-- S_DATA and I_DATA
abbrev pub made_data : Bool → List ℕ
made_data is_original = if is_original then codes "ORIGINAL" else codes "PLAIN"

unfoldable pub made_item : ℕ → ImageRecord
made_item i = said.Item (record {
  item = i;
  name = codes "ITEM" ++ decimal i;
  price = 100 * ((i - 1) % 100 + 1);
  «data» = made_data (i % 10 == 0);
})

-- `DIST` and a number of two digits
unfoldable pub made_info : ℕ → List ℕ
made_info d = codes "DIST" ++ (decimal (d / 10) ++ decimal (d % 10))

unfoldable pub made_stock : ℕ → ℕ → ImageRecord
made_stock w i = said.Stock (record {
  warehouse = w;
  item = i;
  «data» = made_data (i % 20 == 0);
  district_infos = map made_info ten;
}) (record { quantity = pos (10 + i % 91); ytd = 0; order_count = 0; remote_count = 0 })

-- ---- the database
-- a step for each number from 1 to n, in turn
unfoldable pub with_each : ℕ → (ℕ → Database → Database) → Database → Database
with_each zero step db = db
with_each (suc n) step db = step (suc n) (with_each n step db)

-- the records of the numbers from 1 to n, added in turn
unfoldable pub with_records : ℕ → (ℕ → ImageRecord) → Database → Database
with_records n said = with_each n (λ k db. with_record db (said k))

-- warehouses 1 to w with ten districts each, customers 1 to c of each district, items 1 to i and their stocks in each
-- warehouse
unfoldable pub made : ℕ → ℕ → ℕ → Database
made w c i =
    let warehouses = with_records w made_warehouse no_tables in
    let districts = with_each w (λ w. with_records 10 (made_district w)) warehouses in
    let customers = with_each w (λ w. with_each 10 (λ d. with_records c (made_customer w d))) districts in
    let stocks = with_each w (λ w. with_records i (made_stock w)) customers in
    with_records i made_item stocks

-- ---- while it is made
-- each card's key is less than this one
unfoldable pub AreBefore : CardKey → Database → Type 0
AreBefore k db = (q : CardKey) → IsSome (finmap.get db.cards q) → card_key_cmp q k ≡ Less
