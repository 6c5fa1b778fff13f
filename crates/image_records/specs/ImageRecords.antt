-- The meaning of an image's records.
use Rattle.std.specs.Prelude.{Bool, true, false, ◌==◌, ℕ, List, Result, Ok, Err, codes, if◌then◌else◌}
use Rattle.csv.specs.Records.{field_at}
use Rattle.records.specs.Fields.{Fields, ◌>>=◌, is_text, number_at, number_or_null_at, of_count, signed_at, text_at}
use Rattle.records.specs.declared.fault.FaultKind.{FaultKind}
use Rattle.records.specs.declared.fault.FaultKind.TheVariants as fault_kind
use Rattle.tpcc_rows.specs.Limits.{most_cents}
use Rattle.tpcc_rows.specs.declared.id.TheConstants.{LAST_REQUEST}
use Rattle.image_records.specs.Columns.{credit_of, texts_at}
use Rattle.image_records.specs.declared.image_record.ImageRecord.{ImageRecord}
use Rattle.image_records.specs.declared.image_record.ImageRecord.TheVariants as said
use Rattle.image_records.specs.declared.version.Version.{Version}
use Rattle.image_records.specs.declared.version.Version.TheVariants as version

-- `W,w,name,tax,ytd`
unfoldable pub warehouse_fields : Fields → Result ImageRecord FaultKind
warehouse_fields fields = do
  w ← number_at fields 1 1 100
  name ← text_at fields 2 10
  tax ← number_at fields 3 0 9999
  ytd ← signed_at fields 4 most_cents
  Ok (said.Warehouse (record { warehouse = w; name = name; tax = tax }) (record { ytd = ytd }))

-- `D,w,d,name,tax`
unfoldable pub district_fields : Fields → Result ImageRecord FaultKind
district_fields fields = do
  w ← number_at fields 1 1 100
  d ← number_at fields 2 1 10
  name ← text_at fields 3 10
  tax ← number_at fields 4 0 9999
  Ok (said.District (record { warehouse = w; district = d; name = name; tax = tax }))

-- `Y,w,d,ytd`
unfoldable pub district_ytd_fields : Fields → Result ImageRecord FaultKind
district_ytd_fields fields = do
  w ← number_at fields 1 1 100
  d ← number_at fields 2 1 10
  ytd ← signed_at fields 3 most_cents
  Ok (said.DistrictYtd w d (record { ytd = ytd }))

-- `X,w,d,next`
unfoldable pub district_next_fields : Fields → Result ImageRecord FaultKind
district_next_fields fields = do
  w ← number_at fields 1 1 100
  d ← number_at fields 2 1 10
  next ← number_at fields 3 1 9999999
  Ok (said.DistrictNext w d (record { next_order = next }))

-- `D,w,d,name,tax,ytd,next`
unfoldable pub whole_district_fields : Fields → Result ImageRecord FaultKind
whole_district_fields fields = do
  w ← number_at fields 1 1 100
  d ← number_at fields 2 1 10
  name ← text_at fields 3 10
  tax ← number_at fields 4 0 9999
  ytd ← signed_at fields 5 most_cents
  next ← number_at fields 6 1 9999999
  Ok (said.WholeDistrict
      (record { warehouse = w; district = d; name = name; tax = tax }) (record { ytd = ytd }) (record { next_order = next }))

-- `C,w,d,c,last,middle,first,credit,discount,balance,ytd_payment,payment_cnt,delivery_cnt,data`
unfoldable pub customer_fields : Fields → Result ImageRecord FaultKind
customer_fields fields = do
  w ← number_at fields 1 1 100
  d ← number_at fields 2 1 10
  c ← number_at fields 3 1 3000
  last ← text_at fields 4 16
  middle ← text_at fields 5 2
  first ← text_at fields 6 16
  credit ← credit_of (field_at fields 7)
  discount ← number_at fields 8 0 9999
  balance ← signed_at fields 9 most_cents
  ytd_payment ← signed_at fields 10 most_cents
  payments ← number_at fields 11 0 1000000000
  deliveries ← number_at fields 12 0 1000000000
  text ← text_at fields 13 500
  Ok (said.Customer (record {
    warehouse = w;
    district = d;
    customer = c;
    last = last;
    middle = middle;
    first = first;
    credit = credit;
    discount = discount;
  }) (record {
    balance = balance;
    ytd_payment = ytd_payment;
    payment_count = payments;
    delivery_count = deliveries;
    «data» = text;
  }))

-- `I,i,name,price,data`
unfoldable pub item_fields : Fields → Result ImageRecord FaultKind
item_fields fields = do
  i ← number_at fields 1 1 100000
  name ← text_at fields 2 24
  price ← number_at fields 3 0 99999
  text ← text_at fields 4 50
  Ok (said.Item (record { item = i; name = name; price = price; «data» = text }))

-- `S,w,i,quantity,ytd,order_cnt,remote_cnt,data,dist01,..,dist10`
unfoldable pub stock_fields : Fields → Result ImageRecord FaultKind
stock_fields fields = do
  w ← number_at fields 1 1 100
  i ← number_at fields 2 1 100000
  quantity ← signed_at fields 3 9999
  ytd ← number_at fields 4 0 1000000000
  orders ← number_at fields 5 0 1000000000
  remotes ← number_at fields 6 0 1000000000
  text ← text_at fields 7 50
  infos ← texts_at fields 8 10 24
  Ok (said.Stock
      (record { warehouse = w; item = i; «data» = text; district_infos = infos })
      (record { quantity = quantity; ytd = ytd; order_count = orders; remote_count = remotes }))

-- `O,w,d,o,c,entry,carrier,ol_cnt,all_local`
unfoldable pub order_fields : Fields → Result ImageRecord FaultKind
order_fields fields = do
  w ← number_at fields 1 1 100
  d ← number_at fields 2 1 10
  o ← number_at fields 3 1 9999998
  c ← number_at fields 4 1 3000
  entry ← number_at fields 5 0 999999999999
  carrier ← number_or_null_at fields 6 1 10
  lines ← number_at fields 7 1 15
  local ← number_at fields 8 0 1
  Ok (said.Order w d o (record {
    customer = c;
    entry = entry;
    carrier = carrier;
    line_count = lines;
    all_local = local == 1;
  }))

-- `N,w,d,o`
unfoldable pub new_order_fields : Fields → Result ImageRecord FaultKind
new_order_fields fields = do
  w ← number_at fields 1 1 100
  d ← number_at fields 2 1 10
  o ← number_at fields 3 1 9999998
  Ok (said.NewOrder w d o)

-- `L,w,d,o,number,item,supply,delivery,quantity,amount,info`
unfoldable pub order_line_fields : Fields → Result ImageRecord FaultKind
order_line_fields fields = do
  w ← number_at fields 1 1 100
  d ← number_at fields 2 1 10
  o ← number_at fields 3 1 9999998
  number ← number_at fields 4 1 15
  i ← number_at fields 5 1 100000
  supply ← number_at fields 6 1 100
  delivery ← number_or_null_at fields 7 0 999999999999
  quantity ← number_at fields 8 0 99
  amount ← number_at fields 9 0 999999
  info ← text_at fields 10 24
  Ok (said.OrderLine w d o number (record {
    item = i;
    supply = supply;
    delivery = delivery;
    quantity = quantity;
    amount = amount;
    district_info = info;
  }))

-- `H,number,c,cd,cw,d,w,date,amount,data`
unfoldable pub history_fields : Fields → Result ImageRecord FaultKind
history_fields fields = do
  number ← number_at fields 1 1 LAST_REQUEST
  c ← number_at fields 2 1 3000
  cd ← number_at fields 3 1 10
  cw ← number_at fields 4 1 100
  d ← number_at fields 5 1 10
  w ← number_at fields 6 1 100
  date ← number_at fields 7 0 999999999999
  amount ← number_at fields 8 0 999999
  text ← text_at fields 9 24
  Ok (said.History number (record {
    customer = c;
    customer_district = cd;
    customer_warehouse = cw;
    district = d;
    warehouse = w;
    date = date;
    amount = amount;
    «data» = text;
  }))

-- whether a record is of this kind; if so, it must have `count` fields
abbrev pub is_kind : List ℕ → ℕ → Fields → Result Bool FaultKind
is_kind kind count fields = if is_text kind (field_at fields 0) then of_count count fields (Ok true) else Ok false

-- a district's record has all its columns in version 1, those of its card in version 2
abbrev pub district_count : Version → ℕ
district_count version.One = 7
district_count version.Two = 5

abbrev pub district_record_at : Version → Fields → Result ImageRecord FaultKind
district_record_at version.One fields = whole_district_fields fields
district_record_at version.Two fields = district_fields fields

-- the record of a district's row, which only version 2 has
abbrev pub district_row_at : Version → Fields → Result ImageRecord FaultKind
district_row_at version.One fields = Err fault_kind.UnknownKind
district_row_at version.Two fields =
    if is_text (codes "Y") (field_at fields 0) then of_count 4 fields (district_ytd_fields fields)
    else if is_text (codes "X") (field_at fields 0) then of_count 4 fields (district_next_fields fields)
    else Err fault_kind.UnknownKind

-- the record of a row without a card
abbrev pub row_record_at : Version → Fields → Result ImageRecord FaultKind
row_record_at version fields =
    if is_text (codes "O") (field_at fields 0) then of_count 9 fields (order_fields fields)
    else if is_text (codes "N") (field_at fields 0) then of_count 4 fields (new_order_fields fields)
    else if is_text (codes "L") (field_at fields 0) then of_count 11 fields (order_line_fields fields)
    else if is_text (codes "H") (field_at fields 0) then of_count 10 fields (history_fields fields)
    else district_row_at version fields

-- the meaning of a record, by its first field and its number of fields
abbrev pub record_at : Version → Fields → Result ImageRecord FaultKind
record_at version fields =
    if is_text (codes "W") (field_at fields 0) then of_count 5 fields (warehouse_fields fields)
    else if is_text (codes "D") (field_at fields 0) then of_count (district_count version) fields (district_record_at version fields)
    else if is_text (codes "C") (field_at fields 0) then of_count 14 fields (customer_fields fields)
    else if is_text (codes "I") (field_at fields 0) then of_count 5 fields (item_fields fields)
    else if is_text (codes "S") (field_at fields 0) then of_count 18 fields (stock_fields fields)
    else row_record_at version fields
