-- Records are within limits.
use Rattle.std.proofs.Common.{◌≡◌, ℕ, ℤ, List, Bool, cond, Option, IfSome, Result, Err, true, false}
use Rattle.std.specs.Prelude.{IfOk, ◌==◌, length, codes}
use Rattle.std.specs.List.{AllByRecursion}
use Rattle.csv.specs.Records.{field_at}
use Rattle.records.specs.Fields.{◌>>=◌, Fields, is_text, number_at, number_or_null_at, of_count, signed_at, text_at}
use Rattle.records.specs.declared.fault.FaultKind.{FaultKind}
use Rattle.records.specs.declared.fault.FaultKind.TheVariants as fault_kind
use Rattle.tpcc_rows.specs.Limits.{IsBetween, IsCents, IsStockQuantity}
use Rattle.tpcc_rows.specs.Texts.{IsText}
use Rattle.image_records.specs.Columns.{credit_of, texts_at}
use Rattle.image_records.specs.ImageRecords.{customer_fields, district_count, district_fields, district_next_fields, district_record_at, district_row_at, district_ytd_fields, history_fields, item_fields, new_order_fields, order_fields, order_line_fields, record_at, stock_fields, warehouse_fields, whole_district_fields}
use Rattle.image_records.specs.declared.image_record.ImageRecord.{ImageRecord}
use Rattle.image_records.specs.declared.version.Version.{Version}
use Rattle.image_records.specs.declared.version.Version.TheVariants as version
use Rattle.loader.proofs.FieldLimits.{any-gives, cents_at-within, number_at-within, number_or_null_at-within, quantity_at-within, text_at-within, texts_at-within, then-gives}
use Rattle.loader.proofs.Filled.{IsRead}

module _ (fields : Fields) where
  number : (i low high : ℕ) (f : ℕ → Result ImageRecord FaultKind) → ((n : ℕ) → IsBetween low high n → IfOk (f n) IsRead) → IfOk (number_at fields i low high >>= f) IsRead
  number i low high f more = then-gives (IsBetween low high) IsRead (number_at fields i low high) f (number_at-within fields i low high) more

  text : (i most : ℕ) (f : List ℕ → Result ImageRecord FaultKind) → ((t : List ℕ) → IsText most t → IfOk (f t) IsRead) → IfOk (text_at fields i most >>= f) IsRead
  text i most f more = then-gives (IsText most) IsRead (text_at fields i most) f (text_at-within fields i most) more

  cents : (i : ℕ) (f : ℤ → Result ImageRecord FaultKind) → ((z : ℤ) → IsCents z → IfOk (f z) IsRead) → IfOk (signed_at fields i 1000000000000000 >>= f) IsRead
  cents i f more = then-gives IsCents IsRead (signed_at fields i 1000000000000000) f (cents_at-within fields i) more

  quantity : (i : ℕ) (f : ℤ → Result ImageRecord FaultKind) → ((z : ℤ) → IsStockQuantity z → IfOk (f z) IsRead) → IfOk (signed_at fields i 9999 >>= f) IsRead
  quantity i f more = then-gives IsStockQuantity IsRead (signed_at fields i 9999) f (quantity_at-within fields i) more

  or_null : (i low high : ℕ) (f : Option ℕ → Result ImageRecord FaultKind) → ((o : Option ℕ) → IfSome o (IsBetween low high) → IfOk (f o) IsRead) → IfOk (number_or_null_at fields i low high >>= f) IsRead
  or_null i low high f more = then-gives (λ o. IfSome o (IsBetween low high)) IsRead (number_or_null_at fields i low high) f (number_or_null_at-within fields i low high) more

  infos : (i count : ℕ) (f : List (List ℕ) → Result ImageRecord FaultKind) → ((ts : List (List ℕ)) → (length ts ≡ count) × AllByRecursion (IsText 24) ts → IfOk (f ts) IsRead) → IfOk (texts_at fields i count 24 >>= f) IsRead
  infos i count f more = then-gives (λ ts. (length ts ≡ count) × AllByRecursion (IsText 24) ts) IsRead (texts_at fields i count 24) f (texts_at-within fields i count 24) more

  warehouse : IfOk (warehouse_fields fields) IsRead
  unfolding warehouse_fields
  warehouse =
      number 1 1 100 _ (λ w w_is.
      text 2 10 _ (λ name name_is.
      number 3 0 9999 _ (λ tax tax_is.
      cents 4 _ (λ ytd ytd_is. ((w_is, name_is, tax_is), ytd_is)))))

  district : IfOk (district_fields fields) IsRead
  unfolding district_fields
  district =
      number 1 1 100 _ (λ w w_is.
      number 2 1 10 _ (λ d d_is.
      text 3 10 _ (λ name name_is.
      number 4 0 9999 _ (λ tax tax_is. (w_is, d_is, name_is, tax_is)))))

  district_ytd : IfOk (district_ytd_fields fields) IsRead
  unfolding district_ytd_fields
  district_ytd =
      number 1 1 100 _ (λ w w_is.
      number 2 1 10 _ (λ d d_is.
      cents 3 _ (λ ytd ytd_is. ytd_is)))

  district_next : IfOk (district_next_fields fields) IsRead
  unfolding district_next_fields
  district_next =
      number 1 1 100 _ (λ w w_is.
      number 2 1 10 _ (λ d d_is.
      number 3 1 9999999 _ (λ next next_is. next_is)))

  whole_district : IfOk (whole_district_fields fields) IsRead
  unfolding whole_district_fields
  whole_district =
      number 1 1 100 _ (λ w w_is.
      number 2 1 10 _ (λ d d_is.
      text 3 10 _ (λ name name_is.
      number 4 0 9999 _ (λ tax tax_is.
      cents 5 _ (λ ytd ytd_is.
      number 6 1 9999999 _ (λ next next_is. ((w_is, d_is, name_is, tax_is), ytd_is, next_is)))))))

  customer : IfOk (customer_fields fields) IsRead
  unfolding customer_fields
  customer =
      number 1 1 100 _ (λ w w_is.
      number 2 1 10 _ (λ d d_is.
      number 3 1 3000 _ (λ c c_is.
      text 4 16 _ (λ last last_is.
      text 5 2 _ (λ middle middle_is.
      text 6 16 _ (λ first first_is.
      any-gives IsRead (credit_of (field_at fields 7)) _ (λ credit.
      number 8 0 9999 _ (λ discount discount_is.
      cents 9 _ (λ balance balance_is.
      cents 10 _ (λ ytd_payment ytd_payment_is.
      number 11 0 1000000000 _ (λ payments payments_is.
      number 12 0 1000000000 _ (λ deliveries deliveries_is.
      text 13 500 _ (λ note note_is. (
        record {
          warehouse = w_is;
          district = d_is;
          customer = c_is;
          last = last_is;
          middle = middle_is;
          first = first_is;
          discount = discount_is;
        },
        record {
          balance = balance_is;
          ytd_payment = ytd_payment_is;
          payment_count = payments_is;
          delivery_count = deliveries_is;
          text = note_is;
        },
      ))))))))))))))

  item : IfOk (item_fields fields) IsRead
  unfolding item_fields
  item =
      number 1 1 100000 _ (λ i i_is.
      text 2 24 _ (λ name name_is.
      number 3 0 99999 _ (λ price price_is.
      text 4 50 _ (λ note note_is. (i_is, name_is, price_is, note_is)))))

  stock : IfOk (stock_fields fields) IsRead
  unfolding stock_fields
  stock =
      number 1 1 100 _ (λ w w_is.
      number 2 1 100000 _ (λ i i_is.
      quantity 3 _ (λ left left_is.
      number 4 0 1000000000 _ (λ ytd ytd_is.
      number 5 0 1000000000 _ (λ orders orders_is.
      number 6 0 1000000000 _ (λ remotes remotes_is.
      text 7 50 _ (λ note note_is.
      infos 8 10 _ (λ texts texts_are. (
        record { warehouse = w_is; item = i_is; text = note_is; ten_infos = texts_are.0; district_infos = texts_are.1 },
        record { quantity = left_is; ytd = ytd_is; order_count = orders_is; remote_count = remotes_is },
      )))))))))

  order : IfOk (order_fields fields) IsRead
  unfolding order_fields
  order =
      number 1 1 100 _ (λ w w_is.
      number 2 1 10 _ (λ d d_is.
      number 3 1 9999998 _ (λ o o_is.
      number 4 1 3000 _ (λ c c_is.
      number 5 0 999999999999 _ (λ entry entry_is.
      or_null 6 1 10 _ (λ carrier carrier_is.
      number 7 1 15 _ (λ lines lines_are.
      number 8 0 1 _ (λ local local_is. (
        record { warehouse = w_is; district = d_is; order = o_is },
        record { entry = entry_is; carrier = carrier_is; line_count = lines_are },
      )))))))))

  new_order : IfOk (new_order_fields fields) IsRead
  unfolding new_order_fields
  new_order =
      number 1 1 100 _ (λ w w_is.
      number 2 1 10 _ (λ d d_is.
      number 3 1 9999998 _ (λ o o_is. record { warehouse = w_is; district = d_is; order = o_is })))

  order_line : IfOk (order_line_fields fields) IsRead
  unfolding order_line_fields
  order_line =
      number 1 1 100 _ (λ w w_is.
      number 2 1 10 _ (λ d d_is.
      number 3 1 9999998 _ (λ o o_is.
      number 4 1 15 _ (λ n n_is.
      number 5 1 100000 _ (λ i i_is.
      number 6 1 100 _ (λ supply supply_is.
      or_null 7 0 999999999999 _ (λ delivery delivery_is.
      number 8 0 99 _ (λ quantity quantity_is.
      number 9 0 999999 _ (λ amount amount_is.
      text 10 24 _ (λ info info_is. (
        record { warehouse = w_is; district = d_is; order = o_is },
        record { number = n_is; delivery = delivery_is; quantity = quantity_is; amount = amount_is; district_info = info_is },
      )))))))))))

  history : IfOk (history_fields fields) IsRead
  unfolding history_fields
  history =
      number 1 1 999999999999999 _ (λ n n_is.
      number 2 1 3000 _ (λ c c_is.
      number 3 1 10 _ (λ cd cd_is.
      number 4 1 100 _ (λ cw cw_is.
      number 5 1 10 _ (λ d d_is.
      number 6 1 100 _ (λ w w_is.
      number 7 0 999999999999 _ (λ date date_is.
      number 8 0 999999 _ (λ amount amount_is.
      text 9 24 _ (λ note note_is. record { number = n_is; date = date_is; amount = amount_is; text = note_is })))))))))

  kind : (b : Bool) (x y : Result ImageRecord FaultKind) → IfOk x IsRead → IfOk y IsRead → IfOk (cond b x y) IsRead
  kind true x y p q = p
  kind false x y p q = q

  counted : (count : ℕ) (said : Result ImageRecord FaultKind) → IfOk said IsRead → IfOk (of_count count fields said) IsRead
  counted count said h = kind (length fields == count) said (Err fault_kind.WrongCount) h tt

  district_record : (version : Version) → IfOk (district_record_at version fields) IsRead
  district_record version.One = whole_district
  district_record version.Two = district

  district_row : (version : Version) → IfOk (district_row_at version fields) IsRead
  district_row version.One = tt
  district_row version.Two =
      kind (is_text (codes "Y") (field_at fields 0)) _ _ (counted 4 (district_ytd_fields fields) district_ytd)
      (kind (is_text (codes "X") (field_at fields 0)) (of_count 4 fields (district_next_fields fields)) (Err fault_kind.UnknownKind) (counted 4 (district_next_fields fields) district_next) tt)

  pub record_at-limits : (version : Version) → IfOk (record_at version fields) IsRead
  record_at-limits version =
      kind (is_text (codes "W") (field_at fields 0)) _ _ (counted 5 (warehouse_fields fields) warehouse)
      (kind (is_text (codes "D") (field_at fields 0)) _ _ (counted (district_count version) (district_record_at version fields) (district_record version))
      (kind (is_text (codes "C") (field_at fields 0)) _ _ (counted 14 (customer_fields fields) customer)
      (kind (is_text (codes "I") (field_at fields 0)) _ _ (counted 5 (item_fields fields) item)
      (kind (is_text (codes "S") (field_at fields 0)) _ _ (counted 18 (stock_fields fields) stock)
      (kind (is_text (codes "O") (field_at fields 0)) _ _ (counted 9 (order_fields fields) order)
      (kind (is_text (codes "N") (field_at fields 0)) _ _ (counted 4 (new_order_fields fields) new_order)
      (kind (is_text (codes "L") (field_at fields 0)) _ _ (counted 11 (order_line_fields fields) order_line)
      (kind (is_text (codes "H") (field_at fields 0)) _ _ (counted 10 (history_fields fields) history) (district_row version)))))))))
