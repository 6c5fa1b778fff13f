-- The records of an image, as written.
use Rattle.std.specs.Prelude.{ℕ, List, [], ◌∷◌, map, codes, decimal, if◌then◌else◌}
use Rattle.std.specs.Fmt.{signed_decimal}
use Rattle.catalog.specs.StockCards.{district_info}
use Rattle.catalog.specs.declared.card.Credit.{Credit}
use Rattle.catalog.specs.declared.card.Credit.TheVariants as credit
use Rattle.catalog.specs.declared.card.CustomerCard.{CustomerCard}
use Rattle.catalog.specs.declared.card.DistrictCard.{DistrictCard}
use Rattle.catalog.specs.declared.card.ItemCard.{ItemCard}
use Rattle.catalog.specs.declared.card.StockCard.{StockCard}
use Rattle.catalog.specs.declared.card.WarehouseCard.{WarehouseCard}
use Rattle.records.specs.Fields.{Fields}
use Rattle.records.specs.Spelling.{number_or_dash}
use Rattle.tpcc_rows.specs.Limits.{ten}
use Rattle.tpcc_rows.specs.declared.row.CustomerRow.{CustomerRow}
use Rattle.tpcc_rows.specs.declared.row.DistrictNextRow.{DistrictNextRow}
use Rattle.tpcc_rows.specs.declared.row.DistrictYtdRow.{DistrictYtdRow}
use Rattle.tpcc_rows.specs.declared.row.HistoryRow.{HistoryRow}
use Rattle.tpcc_rows.specs.declared.row.OrderLineRow.{OrderLineRow}
use Rattle.tpcc_rows.specs.declared.row.OrderRow.{OrderRow}
use Rattle.tpcc_rows.specs.declared.row.StockRow.{StockRow}
use Rattle.tpcc_rows.specs.declared.row.WarehouseRow.{WarehouseRow}
use Rattle.image_records.specs.declared.image_record.ImageRecord.{ImageRecord}
use Rattle.image_records.specs.declared.image_record.ImageRecord.TheVariants as said

abbrev pub credit_text : Credit → List ℕ
credit_text credit.Good = codes "GC"
credit_text credit.Bad = codes "BC"

-- `W,w,name,tax,ytd`
unfoldable pub written_warehouse : WarehouseCard → WarehouseRow → Fields
written_warehouse c r = codes "W" ∷ decimal c.warehouse ∷ c.name ∷ decimal c.tax ∷ signed_decimal r.ytd ∷ []

-- `D,w,d,name,tax`
unfoldable pub written_district : DistrictCard → Fields
written_district c = codes "D" ∷ decimal c.warehouse ∷ decimal c.district ∷ c.name ∷ decimal c.tax ∷ []

-- `Y,w,d,ytd`
unfoldable pub written_district_ytd : ℕ → ℕ → DistrictYtdRow → Fields
written_district_ytd w d r = codes "Y" ∷ decimal w ∷ decimal d ∷ signed_decimal r.ytd ∷ []

-- `X,w,d,next`
unfoldable pub written_district_next : ℕ → ℕ → DistrictNextRow → Fields
written_district_next w d r = codes "X" ∷ decimal w ∷ decimal d ∷ decimal r.next_order ∷ []

-- `D,w,d,name,tax,ytd,next`, which only version 1 has
unfoldable pub written_whole_district : DistrictCard → DistrictYtdRow → DistrictNextRow → Fields
written_whole_district c ytd next =
    codes "D" ∷ decimal c.warehouse ∷ decimal c.district ∷ c.name ∷ decimal c.tax ∷ signed_decimal ytd.ytd
    ∷ decimal next.next_order ∷ []

-- `C,w,d,c,last,middle,first,credit,discount,balance,ytd_payment,payment_cnt,delivery_cnt,data`
unfoldable pub written_customer : CustomerCard → CustomerRow → Fields
written_customer c r =
    codes "C" ∷ decimal c.warehouse ∷ decimal c.district ∷ decimal c.customer ∷ c.last ∷ c.middle ∷ c.first ∷ credit_text c.credit
    ∷ decimal c.discount ∷ signed_decimal r.balance ∷ signed_decimal r.ytd_payment ∷ decimal r.payment_count
    ∷ decimal r.delivery_count ∷ r.data ∷ []

-- `I,i,name,price,data`
unfoldable pub written_item : ItemCard → Fields
written_item c = codes "I" ∷ decimal c.item ∷ c.name ∷ decimal c.price ∷ c.data ∷ []

-- `S,w,i,quantity,ytd,order_cnt,remote_cnt,data,dist01,..,dist10`
unfoldable pub written_stock : StockCard → StockRow → Fields
written_stock c r =
    codes "S" ∷ decimal c.warehouse ∷ decimal c.item ∷ signed_decimal r.quantity ∷ decimal r.ytd ∷ decimal r.order_count
    ∷ decimal r.remote_count ∷ c.data ∷ map (district_info c) ten

-- `O,w,d,o,c,entry,carrier,ol_cnt,all_local`
unfoldable pub written_order : ℕ → ℕ → ℕ → OrderRow → Fields
written_order w d o r =
    codes "O" ∷ decimal w ∷ decimal d ∷ decimal o ∷ decimal r.customer ∷ decimal r.entry ∷ number_or_dash r.carrier
    ∷ decimal r.line_count ∷ decimal (if r.all_local then 1 else 0) ∷ []

-- `N,w,d,o`
unfoldable pub written_new_order : ℕ → ℕ → ℕ → Fields
written_new_order w d o = codes "N" ∷ decimal w ∷ decimal d ∷ decimal o ∷ []

-- `L,w,d,o,number,item,supply,delivery,quantity,amount,info`
unfoldable pub written_order_line : ℕ → ℕ → ℕ → ℕ → OrderLineRow → Fields
written_order_line w d o number r =
    codes "L" ∷ decimal w ∷ decimal d ∷ decimal o ∷ decimal number ∷ decimal r.item ∷ decimal r.supply ∷ number_or_dash r.delivery
    ∷ decimal r.quantity ∷ decimal r.amount ∷ r.district_info ∷ []

-- `H,number,c,cd,cw,d,w,date,amount,data`
unfoldable pub written_history : ℕ → HistoryRow → Fields
written_history number r =
    codes "H" ∷ decimal number ∷ decimal r.customer ∷ decimal r.customer_district ∷ decimal r.customer_warehouse
    ∷ decimal r.district ∷ decimal r.warehouse ∷ decimal r.date ∷ decimal r.amount ∷ r.data ∷ []

-- the fields of a record
abbrev pub written_record : ImageRecord → Fields
written_record (said.Warehouse c r) = written_warehouse c r
written_record (said.District c) = written_district c
written_record (said.DistrictYtd w d r) = written_district_ytd w d r
written_record (said.DistrictNext w d r) = written_district_next w d r
written_record (said.WholeDistrict c ytd next) = written_whole_district c ytd next
written_record (said.Customer c r) = written_customer c r
written_record (said.Item c) = written_item c
written_record (said.Stock c r) = written_stock c r
written_record (said.Order w d o r) = written_order w d o r
written_record (said.NewOrder w d o) = written_new_order w d o
written_record (said.OrderLine w d o number r) = written_order_line w d o number r
written_record (said.History number r) = written_history number r

-- `eve-tpcc,2`
unfoldable pub written_first : Fields
written_first = codes "eve-tpcc" ∷ codes "2" ∷ []

-- `E,count`
unfoldable pub written_end : ℕ → Fields
written_end count = codes "E" ∷ decimal count ∷ []
