-- A record of each kind is read as written.
use Rattle.std.proofs.Common.{◌≡◌, ◌<◌, ◌^◌, ◌-◌, ◌&&◌, ◌==◌, ℕ, zero, suc, ℤ, List, [], ◌∷◌, length, map, cond, Bool, true, false, Option, Some, None, IfSome, Result, Ok, Err, decimal, refl, ap, ap₂, arith, inl, inr}
use Rattle.std.specs.Prelude.{codes, nat_le, slice_index_or}
use Rattle.std.specs.Fmt.{signed_decimal}
use Rattle.std.specs.List.{AllByRecursion, list_all}
use Rattle.std.specs.Str.{bytes_eq}
use Rattle.std.proofs.lemmas.Bool.{cases_Bool}
use Rattle.std.proofs.lemmas.Int.{ints}
use Rattle.std.proofs.lemmas.List.Elements.{All-head, All-tail}
use Rattle.std.proofs.lemmas.Slice.Eq.{bytes_eq-Decides}
use Rattle.catalog.specs.declared.card.Card.TheVariants as card
use Rattle.catalog.specs.declared.card.Credit.{Credit}
use Rattle.catalog.specs.declared.card.Credit.TheVariants as credit
use Rattle.catalog.specs.declared.card.CustomerCard.{CustomerCard}
use Rattle.catalog.specs.declared.card.DistrictCard.{DistrictCard}
use Rattle.catalog.specs.declared.card.ItemCard.{ItemCard}
use Rattle.catalog.specs.declared.card.StockCard.{StockCard}
use Rattle.catalog.specs.declared.card.WarehouseCard.{WarehouseCard}
use Rattle.csv.specs.Records.{field_at}
use Rattle.records.specs.Fields.{Fields, number_in, number_or_null_at, signed_in}
use Rattle.records.specs.Spelling.{number_or_dash}
use Rattle.records.specs.declared.fault.FaultKind.{FaultKind}
use Rattle.records.specs.declared.fault.FaultKind.TheVariants as fault_kind
use Rattle.records.proofs.SpellingLemmas.{number_in-decimal, signed_in-decimal}
use Rattle.tpcc_model.specs.Soundness.{IsCard, IsCustomerRow, IsStockRow}
use Rattle.tpcc_rows.specs.Limits.{IsBetween, IsCents, IsStockQuantity, ten}
use Rattle.tpcc_rows.specs.Texts.{ArePrintable, IsPrintable, IsText, is_printable, is_text}
use Rattle.tpcc_rows.specs.declared.row.CustomerRow.{CustomerRow}
use Rattle.tpcc_rows.specs.declared.row.DistrictNextRow.{DistrictNextRow}
use Rattle.tpcc_rows.specs.declared.row.DistrictYtdRow.{DistrictYtdRow}
use Rattle.tpcc_rows.specs.declared.row.HistoryRow.{HistoryRow}
use Rattle.tpcc_rows.specs.declared.row.OrderLineRow.{OrderLineRow}
use Rattle.tpcc_rows.specs.declared.row.OrderRow.{OrderRow}
use Rattle.tpcc_rows.specs.declared.row.StockRow.{StockRow}
use Rattle.tpcc_rows.specs.declared.row.WarehouseRow.{WarehouseRow}
use Rattle.image_records.specs.Columns.{credit_of, texts_at}
use Rattle.image_records.specs.ImageRecords.{customer_fields, district_fields, district_next_fields, district_ytd_fields, history_fields, item_fields, new_order_fields, order_fields, order_line_fields, record_at, stock_fields, warehouse_fields}
use Rattle.stored_image.specs.StoredRecords.{credit_text, written_customer, written_district, written_district_next, written_district_ytd, written_history, written_item, written_new_order, written_order, written_order_line, written_record, written_stock, written_warehouse}
use Rattle.image_records.specs.declared.image_record.ImageRecord.{ImageRecord}
use Rattle.image_records.specs.declared.image_record.ImageRecord.TheVariants as said
use Rattle.image_records.specs.declared.version.Version.TheVariants as version
use Rattle.loader.proofs.Filled.{IsHistoryRow, IsLineRow, IsOrderKey, IsOrderRow}

-- ---- fields
number : (low high n : ℕ) → IsBetween low high n → high < 2 ^ 64 → number_in low high (decimal n) ≡ Ok n
number low high n h small = let most = h.1 in number_in-decimal low high n h.0 h.1 (omega (arith, most, small))

cents : (z : ℤ) → IsCents z → signed_in 1000000000000000 (signed_decimal z) ≡ Ok z
cents z h = let low = h.0 in let high = h.1 in signed_in-decimal 1000000000000000 z (omega (arith, ints, low), omega (arith, ints, high)) (omega arith)

quantity : (z : ℤ) → IsStockQuantity z → signed_in 9999 (signed_decimal z) ≡ Ok z
quantity z h = let low = h.0 in let high = h.1 in signed_in-decimal 9999 z (omega (arith, ints, low), omega (arith, ints, high)) (omega arith)

printable : (xs : List ℕ) → ArePrintable xs → list_all is_printable xs ≡ true
printable [] h = refl
printable (x ∷ xs) h =
    let here = All-head IsPrintable x xs h in
    let low : nat_le 32 x ≡ true = grind arith in
    let high : nat_le x 126 ≡ true = grind arith in
    ap₂ (λ a b. a && b) (ap₂ (λ a b. a && b) low high) (printable xs (All-tail IsPrintable x xs h))

text : (most : ℕ) (xs : List ℕ) → IsText most xs → is_text most xs ≡ true
text most xs h =
    let short = h.fits in
    let fits : nat_le (length xs) most ≡ true = grind arith in
    ap₂ (λ a b. a && b) fits (printable xs h.printable)

credit-read : (k : Credit) → credit_of (Some (credit_text k)) ≡ Ok k
credit-read credit.Good = refl
credit-read credit.Bad = refl

-- no number is a dash
not_dash : (n : ℕ) → n < 2 ^ 64 → bytes_eq (decimal n) (codes "-") ≡ false
not_dash n small = elim (cases_Bool (bytes_eq (decimal n) (codes "-"))) [
  | inl same ↦
      let is : decimal n ≡ codes "-" = (bytes_eq-Decides (decimal n) (codes "-")).0 same in
      let read : number_in 0 n (decimal n) ≡ Ok n = number_in-decimal 0 n n (omega arith) (omega arith) small in
      let no : ◌≡◌ {A = Result ℕ FaultKind} (Err fault_kind.BadField) (Ok n) = rw is at read in
      cc no
  | inr apart ↦ apart
]

-- a number, or null
or_null : (low high : ℕ) (o : Option ℕ) (fields : Fields) (i : ℕ) → IfSome o (IsBetween low high) → high < 2 ^ 64 → field_at fields i ≡ Some (number_or_dash o) → number_or_null_at fields i low high ≡ Ok o
or_null low high None fields i h small there = rw there refl
or_null low high (Some n) fields i h small there = let most = h.1 in rw (there, not_dash n (omega (arith, most, small)), number low high n h small) refl

flag : (b : Bool) → number_in 0 1 (decimal (cond b 1 0)) ≡ Ok (cond b 1 0)
flag true = number 0 1 1 (omega arith, omega arith) (omega arith)
flag false = number 0 1 0 (omega arith, omega arith) (omega arith)

flag-is : (b : Bool) → (cond b 1 0 == 1) ≡ b
flag-is true = refl
flag-is false = refl

-- ---- writable records
-- an order, an order line or a payment, with the numbers that its parents keep within limits
pub record IsStoredOrder (w d o : ℕ) (r : OrderRow) : Type 0 where
  pub key : IsOrderKey w d o
  pub customer : IsBetween 1 3000 r.customer
  pub row : IsOrderRow r

pub record IsStoredLine (w d o n : ℕ) (r : OrderLineRow) : Type 0 where
  pub key : IsOrderKey w d o
  pub item : IsBetween 1 100000 r.item
  pub supply : IsBetween 1 100 r.supply
  pub row : IsLineRow n r

pub record IsStoredHistory (n : ℕ) (r : HistoryRow) : Type 0 where
  pub customer : IsBetween 1 3000 r.customer
  pub customer_district : IsBetween 1 10 r.customer_district
  pub customer_warehouse : IsBetween 1 100 r.customer_warehouse
  pub district : IsBetween 1 10 r.district
  pub warehouse : IsBetween 1 100 r.warehouse
  pub row : IsHistoryRow n r

-- only version 1 has records of whole districts
abbrev pub IsStored : ImageRecord → Type 0
IsStored (said.Warehouse c r) = IsCard (card.Warehouse c) × IsCents r.ytd
IsStored (said.District c) = IsCard (card.District c)
IsStored (said.DistrictYtd w d r) = IsBetween 1 100 w × IsBetween 1 10 d × IsCents r.ytd
IsStored (said.DistrictNext w d r) = IsBetween 1 100 w × IsBetween 1 10 d × IsBetween 1 9999999 r.next_order
IsStored (said.WholeDistrict c ytd next) = ⊥
IsStored (said.Customer c r) = IsCard (card.Customer c) × IsCustomerRow r
IsStored (said.Item c) = IsCard (card.Item c)
IsStored (said.Stock c r) = IsCard (card.Stock c) × IsStockRow r
IsStored (said.Order w d o r) = IsStoredOrder w d o r
IsStored (said.NewOrder w d o) = IsOrderKey w d o
IsStored (said.OrderLine w d o n r) = IsStoredLine w d o n r
IsStored (said.History n r) = IsStoredHistory n r

-- ---- the kinds
warehouse-read : (c : WarehouseCard) (r : WarehouseRow) → IsStored (said.Warehouse c r) → record_at version.Two (written_warehouse c r) ≡ Ok (said.Warehouse c r)
unfolding field_at warehouse_fields written_warehouse
warehouse-read c r h = rw (
  number 1 100 c.warehouse h.0.0 (omega arith),
  text 10 c.name h.0.1,
  number 0 9999 c.tax h.0.2 (omega arith),
  cents r.ytd h.1,
) refl

district-read : (c : DistrictCard) → IsStored (said.District c) → record_at version.Two (written_district c) ≡ Ok (said.District c)
unfolding field_at district_fields written_district
district-read c h = rw (
  number 1 100 c.warehouse h.0 (omega arith),
  number 1 10 c.district h.1 (omega arith),
  text 10 c.name h.2,
  number 0 9999 c.tax h.3 (omega arith),
) refl

district_ytd-read : (w d : ℕ) (r : DistrictYtdRow) → IsStored (said.DistrictYtd w d r) → record_at version.Two (written_district_ytd w d r) ≡ Ok (said.DistrictYtd w d r)
unfolding field_at district_ytd_fields written_district_ytd
district_ytd-read w d r h = rw (number 1 100 w h.0 (omega arith), number 1 10 d h.1 (omega arith), cents r.ytd h.2) refl

district_next-read : (w d : ℕ) (r : DistrictNextRow) → IsStored (said.DistrictNext w d r) → record_at version.Two (written_district_next w d r) ≡ Ok (said.DistrictNext w d r)
unfolding field_at district_next_fields written_district_next
district_next-read w d r h = rw (
  number 1 100 w h.0 (omega arith),
  number 1 10 d h.1 (omega arith),
  number 1 9999999 r.next_order h.2 (omega arith),
) refl

customer-read : (c : CustomerCard) (r : CustomerRow) → IsStored (said.Customer c r) → record_at version.Two (written_customer c r) ≡ Ok (said.Customer c r)
unfolding field_at customer_fields written_customer
customer-read c r h = rw (
  number 1 100 c.warehouse h.0.warehouse (omega arith),
  number 1 10 c.district h.0.district (omega arith),
  number 1 3000 c.customer h.0.customer (omega arith),
  text 16 c.last h.0.last,
  text 2 c.middle h.0.middle,
  text 16 c.first h.0.first,
  credit-read c.credit,
  number 0 9999 c.discount h.0.discount (omega arith),
  cents r.balance h.1.balance,
  cents r.ytd_payment h.1.ytd_payment,
  number 0 1000000000 r.payment_count h.1.payment_count (omega arith),
  number 0 1000000000 r.delivery_count h.1.delivery_count (omega arith),
  text 500 r.data h.1.text,
) refl

item-read : (c : ItemCard) → IsStored (said.Item c) → record_at version.Two (written_item c) ≡ Ok (said.Item c)
unfolding field_at item_fields written_item
item-read c h = rw (
  number 1 100000 c.item h.0 (omega arith),
  text 24 c.name h.1,
  number 0 99999 c.price h.2 (omega arith),
  text 50 c.data h.3,
) refl

order-read : (w d o : ℕ) (r : OrderRow) → IsStored (said.Order w d o r) → record_at version.Two (written_order w d o r) ≡ Ok (said.Order w d o r)
unfolding field_at order_fields written_order
order-read w d o r h = rw (
  number 1 100 w h.key.warehouse (omega arith),
  number 1 10 d h.key.district (omega arith),
  number 1 9999998 o h.key.order (omega arith),
  number 1 3000 r.customer h.customer (omega arith),
  number 0 999999999999 r.entry h.row.entry (omega arith),
  or_null 1 10 r.carrier (written_order w d o r) 6 h.row.carrier (omega arith) refl,
  number 1 15 r.line_count h.row.line_count (omega arith),
  flag r.all_local,
  flag-is r.all_local,
) refl

new_order-read : (w d o : ℕ) → IsStored (said.NewOrder w d o) → record_at version.Two (written_new_order w d o) ≡ Ok (said.NewOrder w d o)
unfolding field_at new_order_fields written_new_order
new_order-read w d o h = rw (
  number 1 100 w h.warehouse (omega arith),
  number 1 10 d h.district (omega arith),
  number 1 9999998 o h.order (omega arith),
) refl

order_line-read : (w d o n : ℕ) (r : OrderLineRow) → IsStored (said.OrderLine w d o n r) → record_at version.Two (written_order_line w d o n r) ≡ Ok (said.OrderLine w d o n r)
unfolding field_at order_line_fields written_order_line
order_line-read w d o n r h = rw (
  number 1 100 w h.key.warehouse (omega arith),
  number 1 10 d h.key.district (omega arith),
  number 1 9999998 o h.key.order (omega arith),
  number 1 15 n h.row.number (omega arith),
  number 1 100000 r.item h.item (omega arith),
  number 1 100 r.supply h.supply (omega arith),
  or_null 0 999999999999 r.delivery (written_order_line w d o n r) 7 h.row.delivery (omega arith) refl,
  number 0 99 r.quantity h.row.quantity (omega arith),
  number 0 999999 r.amount h.row.amount (omega arith),
  text 24 r.district_info h.row.district_info,
) refl

history-read : (n : ℕ) (r : HistoryRow) → IsStored (said.History n r) → record_at version.Two (written_history n r) ≡ Ok (said.History n r)
unfolding field_at history_fields written_history
history-read n r h = rw (
  number 1 999999999999999 n h.row.number (omega arith),
  number 1 3000 r.customer h.customer (omega arith),
  number 1 10 r.customer_district h.customer_district (omega arith),
  number 1 100 r.customer_warehouse h.customer_warehouse (omega arith),
  number 1 10 r.district h.district (omega arith),
  number 1 100 r.warehouse h.warehouse (omega arith),
  number 0 999999999999 r.date h.row.date (omega arith),
  number 0 999999 r.amount h.row.amount (omega arith),
  text 24 r.data h.row.text,
) refl

-- ---- the ten texts of a stock
info : (xs : List (List ℕ)) (i : ℕ) → AllByRecursion (IsText 24) xs → i < length xs → is_text 24 (slice_index_or xs i []) ≡ true
info [] i h below = absurd (omega (arith, below))
info (x ∷ xs) zero h below = text 24 x h.0
info (x ∷ xs) (suc i) h below = info xs i h.1 (omega (arith, below))

ten_texts : (xs : List (List ℕ)) → length xs ≡ 10 → map (λ d. slice_index_or xs (d - 1) []) ten ≡ xs
ten_texts (a ∷ b ∷ c ∷ d ∷ e ∷ f ∷ g ∷ h ∷ i ∷ j ∷ []) is = refl
ten_texts _ is = cc

stock-read : (c : StockCard) (r : StockRow) → IsStored (said.Stock c r) → record_at version.Two (written_stock c r) ≡ Ok (said.Stock c r)
unfolding field_at stock_fields texts_at written_stock
stock-read c r h =
    let infos = h.0.district_infos in
    let all = h.0.ten_infos in
    rw (
      number 1 100 c.warehouse h.0.warehouse (omega arith),
      number 1 100000 c.item h.0.item (omega arith),
      quantity r.quantity h.1.quantity,
      number 0 1000000000 r.ytd h.1.ytd (omega arith),
      number 0 1000000000 r.order_count h.1.order_count (omega arith),
      number 0 1000000000 r.remote_count h.1.remote_count (omega arith),
      text 50 c.data h.0.text,
      info c.district_infos 0 infos (omega (arith, all)),
      info c.district_infos 1 infos (omega (arith, all)),
      info c.district_infos 2 infos (omega (arith, all)),
      info c.district_infos 3 infos (omega (arith, all)),
      info c.district_infos 4 infos (omega (arith, all)),
      info c.district_infos 5 infos (omega (arith, all)),
      info c.district_infos 6 infos (omega (arith, all)),
      info c.district_infos 7 infos (omega (arith, all)),
      info c.district_infos 8 infos (omega (arith, all)),
      info c.district_infos 9 infos (omega (arith, all)),
    ) (ap (λ (xs : List (List ℕ)). let s : ImageRecord = said.Stock (record c { district_infos = xs }) r in let ok : Result ImageRecord FaultKind = Ok s in ok) (ten_texts c.district_infos all))

-- a record is read as written
pub record_at-written : (s : ImageRecord) → IsStored s → record_at version.Two (written_record s) ≡ Ok s
record_at-written (said.Warehouse c r) h = warehouse-read c r h
record_at-written (said.District c) h = district-read c h
record_at-written (said.DistrictYtd w d r) h = district_ytd-read w d r h
record_at-written (said.DistrictNext w d r) h = district_next-read w d r h
record_at-written (said.WholeDistrict c ytd next) h = absurd h
record_at-written (said.Customer c r) h = customer-read c r h
record_at-written (said.Item c) h = item-read c h
record_at-written (said.Stock c r) h = stock-read c r h
record_at-written (said.Order w d o r) h = order-read w d o r h
record_at-written (said.NewOrder w d o) h = new_order-read w d o h
record_at-written (said.OrderLine w d o n r) h = order_line-read w d o n r h
record_at-written (said.History n r) h = history-read n r h
