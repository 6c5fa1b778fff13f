-- What a payment that isn't refused found and made.
use Rattle.std.proofs.Common.{◌≡◌, ◌≤◌, ◌<◌, ◌+◌, ◌^◌, ℕ, zero, suc, pos, ◌+ℤ◌, ◌-ℤ◌, List, [], ◌∷◌, ◌++◌, Option, Some, None, IsSome, Ok, sym, ap, subst, ◌∙◌, arith, codes, decimal}
use Rattle.std.specs.Option.{option_and_then}
use Rattle.std.specs.FinMap.{get}
use Rattle.std.proofs.lemmas.List.Elements.{All-append}
use Rattle.catalog.specs.Lookups.{warehouse_card, district_card, customer_card}
use Rattle.catalog.specs.declared.card.WarehouseCard.{WarehouseCard}
use Rattle.catalog.specs.declared.card.DistrictCard.{DistrictCard}
use Rattle.catalog.specs.declared.card.Credit.{Credit}
use Rattle.catalog.specs.declared.card.Credit.TheVariants.{Good, Bad}
use Rattle.requests.specs.declared.request.Payment.{Payment}
use Rattle.tpcc_rows.specs.Limits.{IsBetween, IsCents, between, cents_of}
use Rattle.tpcc_rows.specs.Texts.{ArePrintable, IsPrintable, IsText}
use Rattle.tpcc_rows.specs.Rows.{warehouse_row, district_ytd_row, customer_row}
use Rattle.tpcc_rows.specs.declared.key.RowKey.TheVariants as key
use Rattle.tpcc_rows.specs.declared.row.Row.{Row}
use Rattle.tpcc_rows.specs.declared.row.Row.TheVariants as row
use Rattle.tpcc_rows.specs.declared.row.WarehouseRow.{WarehouseRow}
use Rattle.tpcc_rows.specs.declared.row.DistrictYtdRow.{DistrictYtdRow}
use Rattle.tpcc_rows.specs.declared.row.CustomerRow.{CustomerRow}
use Rattle.tpcc_rows.specs.RowKinds.{as_warehouse, as_district_ytd, as_customer}
use Rattle.tpcc_rows.proofs.Clips.{clip-is, decimal_printable}
use Rattle.tpcc_model.specs.Choices.{chosen_customer}
use Rattle.tpcc_model.specs.Database.{Database}
use Rattle.tpcc_model.specs.Payments.{Paid, field, found_cards, found_rows, history_of, paid_customer, paid_data, paid_district, paid_rows, paid_warehouse, payment, payment_note}
use Rattle.tpcc_model.specs.Soundness.{IsCustomerRow, IsHistory, IsSound}
use Rattle.tpcc_model.specs.Staging.{known, within}
use Rattle.tpcc_laws.specs.Requests.{IsPayment}
use Rattle.tpcc_laws.proofs.CardFacts.{warehouse-limits, district-limits, customer-limits}
use Rattle.tpcc_laws.proofs.Doing.{ok-by, ok_or-ok, is_there, cents-some, between-some}

-- ---- rows of their keys' kinds
pub warehouse-there : (o : Option Row) (r : WarehouseRow) → option_and_then as_warehouse o ≡ Some r → o ≡ Some (row.Warehouse r)
warehouse-there None r h = cc
warehouse-there (Some (row.Warehouse x)) r h = cc
warehouse-there (Some _) r h = cc

district-there : (o : Option Row) (r : DistrictYtdRow) → option_and_then as_district_ytd o ≡ Some r → o ≡ Some (row.DistrictYtd r)
district-there None r h = cc
district-there (Some (row.DistrictYtd x)) r h = cc
district-there (Some _) r h = cc

pub customer-there : (o : Option Row) (r : CustomerRow) → option_and_then as_customer o ≡ Some r → o ≡ Some (row.Customer r)
customer-there None r h = cc
customer-there (Some (row.Customer x)) r h = cc
customer-there (Some _) r h = cc

-- ---- the new rows
warehouse-paid : (old new : WarehouseRow) (amount : ℕ) → paid_warehouse old amount ≡ Ok new → (new.ytd ≡ old.ytd +ℤ pos amount) × IsCents new.ytd
unfolding paid_warehouse
warehouse-paid old new amount h =
    ok-by (within (cents_of (old.ytd +ℤ pos amount))) _ _ h λ ytd e made.
    let sum = cents-some (old.ytd +ℤ pos amount) ytd (ok_or-ok _ _ _ e) in
    let is : ◌≡◌ {A = WarehouseRow} (record { ytd = ytd }) new = cc in
    subst (λ (r : WarehouseRow). (r.ytd ≡ old.ytd +ℤ pos amount) × IsCents r.ytd) is (sym sum.0, sum.1)

district-paid : (old new : DistrictYtdRow) (amount : ℕ) → paid_district old amount ≡ Ok new → (new.ytd ≡ old.ytd +ℤ pos amount) × IsCents new.ytd
unfolding paid_district
district-paid old new amount h =
    ok-by (within (cents_of (old.ytd +ℤ pos amount))) _ _ h λ ytd e made.
    let sum = cents-some (old.ytd +ℤ pos amount) ytd (ok_or-ok _ _ _ e) in
    let is : ◌≡◌ {A = DistrictYtdRow} (record { ytd = ytd }) new = cc in
    subst (λ (r : DistrictYtdRow). (r.ytd ≡ old.ytd +ℤ pos amount) × IsCents r.ytd) is (sym sum.0, sum.1)

-- ---- texts
one_byte : (b : ℕ) → IsPrintable b → ArePrintable (b ∷ [])
one_byte b h zero d lt = h
one_byte b h (suc k) d lt = absurd (omega arith)

field_printable : (n end : ℕ) → n < 2 ^ 64 → IsPrintable end → ArePrintable (field n end)
field_printable n end h e = All-append IsPrintable (decimal n) (end ∷ []) (decimal_printable n h) (one_byte end e)

-- the numbers of a note
record AreSmall (p : Payment) (c : ℕ) : Type 0 where
  customer : c ≤ 3000
  customer_district : p.customer_district ≤ 10
  customer_warehouse : p.customer_warehouse ≤ 100
  district : p.district ≤ 10
  warehouse : p.warehouse ≤ 100
  amount : p.amount ≤ 500000

note_printable : (p : Payment) (c : ℕ) → AreSmall p c → ArePrintable (payment_note p c)
unfolding payment_note
note_printable p c s =
    let a = s.customer in let b = s.customer_district in let e = s.customer_warehouse in let f = s.district in let g = s.warehouse in let h = s.amount in
    let space : IsPrintable 32 = (omega arith, omega arith) in
    let bar : IsPrintable 124 = (omega arith, omega arith) in
    All-append IsPrintable _ _ (All-append IsPrintable _ _ (All-append IsPrintable _ _ (All-append IsPrintable _ _ (All-append IsPrintable _ _
    (field_printable c 32 (omega (arith, a)) space) (field_printable p.customer_district 32 (omega (arith, b)) space)) (field_printable p.customer_warehouse 32 (omega (arith, e)) space))
    (field_printable p.district 32 (omega (arith, f)) space)) (field_printable p.warehouse 32 (omega (arith, g)) space)) (field_printable p.amount 124 (omega (arith, h)) bar)

data_is : (p : Payment) (c : ℕ) (credit : Credit) (old : List ℕ) → AreSmall p c → IsText 500 old → IsText 500 (paid_data p c credit old)
unfolding paid_data
data_is p c Good old s h = h
data_is p c Bad old s h = clip-is 500 (payment_note p c ++ old) (All-append IsPrintable _ _ (note_printable p c s) h.printable)

customer-paid : (p : Payment) (c : ℕ) (credit : Credit) (old new : CustomerRow) → AreSmall p c → IsCustomerRow old → paid_customer p c credit old ≡ Ok new → IsCustomerRow new
unfolding paid_customer
customer-paid p c credit old new s was h =
    ok-by (within (cents_of (old.balance -ℤ pos p.amount))) _ _ h λ a e1 h1.
    ok-by (within (cents_of (old.ytd_payment +ℤ pos p.amount))) _ _ h1 λ b e2 h2.
    ok-by (within (between 0 1000000000 (old.payment_count + 1))) _ _ h2 λ n e3 h3.
    let is : ◌≡◌ {A = CustomerRow} (record { balance = a; ytd_payment = b; payment_count = n; delivery_count = old.delivery_count; «data» = paid_data p c credit old.data }) new = cc in
    subst IsCustomerRow is (record {
      balance = (cents-some (old.balance -ℤ pos p.amount) a (ok_or-ok _ _ _ e1)).1;
      ytd_payment = (cents-some (old.ytd_payment +ℤ pos p.amount) b (ok_or-ok _ _ _ e2)).1;
      payment_count = (between-some 0 1000000000 (old.payment_count + 1) n (ok_or-ok _ _ _ e3)).1;
      delivery_count = was.delivery_count;
      text = data_is p c credit old.data s was.text;
    })

spaces : ArePrintable (codes "    ")
spaces = All-append IsPrintable (32 ∷ 32 ∷ 32 ∷ []) (32 ∷ []) (All-append IsPrintable (32 ∷ 32 ∷ []) (32 ∷ []) (All-append IsPrintable (32 ∷ []) (32 ∷ []) (one_byte 32 (omega arith, omega arith)) (one_byte 32 (omega arith, omega arith))) (one_byte 32 (omega arith, omega arith))) (one_byte 32 (omega arith, omega arith))

history_text : (p : Payment) (c moment : ℕ) (first second : List ℕ) → IsText 10 first → IsText 10 second → IsText 24 (history_of p c moment first second).data
unfolding history_of
history_text p c moment first second a b = clip-is 24 _ (All-append IsPrintable _ _ (All-append IsPrintable _ _ a.printable spaces) b.printable)

-- ---- the whole
pub record IsPaid (db : Database) (p : Payment) (number : ℕ) (paid : Paid) : Type 0 where
  pub warehouse_card : IsSome (warehouse_card db.cards p.warehouse)
  pub district_card : IsSome (district_card db.cards p.warehouse p.district)
  pub customer_card : IsSome (customer_card db.cards p.customer_warehouse p.customer_district paid.customer_id)
  pub old_warehouse : WarehouseRow
  pub has_warehouse : get db.rows (key.Warehouse p.warehouse) ≡ Some (row.Warehouse old_warehouse)
  pub old_district : DistrictYtdRow
  pub has_district : get db.rows (key.DistrictYtd p.warehouse p.district) ≡ Some (row.DistrictYtd old_district)
  pub warehouse_ytd : paid.warehouse.ytd ≡ old_warehouse.ytd +ℤ pos p.amount
  pub district_ytd : paid.district.ytd ≡ old_district.ytd +ℤ pos p.amount
  pub warehouse : IsCents paid.warehouse.ytd
  pub district : IsCents paid.district.ytd
  pub customer : IsCustomerRow paid.customer
  pub history : IsHistory db.cards number paid.history

pub found : (db : Database) (p : Payment) (number moment : ℕ) (paid : Paid) → IsSound db → IsPayment p → IsBetween 1 999999999999999 number → IsBetween 0 999999999999 moment → payment db p moment ≡ Ok paid → IsPaid db p number paid
unfolding payment found_cards found_rows paid_rows history_of
found db p number moment paid sound few numbered timed h =
    ok-by (found_cards db.cards p) _ _ h λ cards ec hc.
    ok-by (found_rows db.rows p cards.customer_id) _ _ hc λ rows er hr.
    ok-by (known (warehouse_card db.cards p.warehouse)) _ _ ec λ c1 e1 h1.
    ok-by (known (district_card db.cards p.warehouse p.district)) _ _ h1 λ c2 e2 h2.
    ok-by (known (chosen_customer db.cards p.customer_warehouse p.customer_district p.customer)) _ _ h2 λ c e0 h0.
    ok-by (known (customer_card db.cards p.customer_warehouse p.customer_district c)) _ _ h0 λ c3 e3 h3.
    let id : c ≡ cards.customer_id = cc in
    let card1 : c1 ≡ cards.warehouse = cc in
    let card2 : c2 ≡ cards.district = cc in
    ok-by (known (warehouse_row db.rows p.warehouse)) _ _ er λ w ew hw.
    ok-by (known (district_ytd_row db.rows p.warehouse p.district)) _ _ hw λ d ed hd.
    ok-by (known (customer_row db.rows p.customer_warehouse p.customer_district cards.customer_id)) _ _ hd λ e ee he.
    let row1 : w ≡ rows.warehouse = cc in
    let row2 : d ≡ rows.district = cc in
    let row3 : e ≡ rows.customer = cc in
    ok-by (paid_warehouse rows.warehouse p.amount) _ _ hr λ nw enw hnw.
    ok-by (paid_district rows.district p.amount) _ _ hnw λ nd end hnd.
    ok-by (paid_customer p cards.customer_id cards.customer.credit rows.customer) _ _ hnd λ nc enc hnc.
    let is : ◌≡◌ {A = Paid} (record { warehouse = nw; district = nd; customer = nc; history = history_of p cards.customer_id moment cards.warehouse.name cards.district.name; customer_id = cards.customer_id; credit = cards.customer.credit }) paid = cc in
    let wl = warehouse-limits db.cards p.warehouse c1 sound.cards (ok_or-ok _ _ _ e1) in
    let dl = district-limits db.cards p.warehouse p.district c2 sound.cards (ok_or-ok _ _ _ e2) in
    let cl = customer-limits db.cards p.customer_warehouse p.customer_district c c3 sound.cards (ok_or-ok _ _ _ e3) in
    let small : AreSmall p cards.customer_id = record {
      customer = subst (λ n. n ≤ 3000) id cl.2.1;
      customer_district = cl.1.1;
      customer_warehouse = cl.0.1;
      district = dl.1.1;
      warehouse = dl.0.1;
      amount = few.1;
    } in
    let has_customer = customer-there _ e (ok_or-ok _ _ _ ee) in
    let was : IsCustomerRow e = (sound.entries (key.Customer p.customer_warehouse p.customer_district cards.customer_id) (row.Customer e) has_customer).1 in
    let customer_card = subst (λ n. IsSome (customer_card db.cards p.customer_warehouse p.customer_district n)) id (is_there _ c3 (ok_or-ok _ _ _ e3)) in
    let district_card = is_there _ c2 (ok_or-ok _ _ _ e2) in
    let wp = warehouse-paid rows.warehouse nw p.amount enw in
    let dp = district-paid rows.district nd p.amount end in
    let amount : IsBetween 0 999999 p.amount = (let high = few.1 in (omega arith, omega (arith, high))) in
    subst (IsPaid db p number) is (record {
      warehouse_card = is_there _ c1 (ok_or-ok _ _ _ e1);
      district_card = district_card;
      customer_card = customer_card;
      old_warehouse = rows.warehouse;
      has_warehouse = warehouse-there _ rows.warehouse (ok_or-ok _ _ _ ew ∙ ap (λ (x : WarehouseRow). Some x) row1);
      old_district = rows.district;
      has_district = district-there _ rows.district (ok_or-ok _ _ _ ed ∙ ap (λ (x : DistrictYtdRow). Some x) row2);
      warehouse_ytd = wp.0;
      district_ytd = dp.0;
      warehouse = wp.1;
      district = dp.1;
      customer = customer-paid p cards.customer_id cards.customer.credit rows.customer nc small (subst IsCustomerRow row3 was) enc;
      history = record {
        number = numbered;
        customer = customer_card;
        district = district_card;
        date = timed;
        amount = amount;
        text = history_text p cards.customer_id moment cards.warehouse.name cards.district.name (subst (λ (x : WarehouseCard). IsText 10 x.name) card1 wl.1) (subst (λ (x : DistrictCard). IsText 10 x.name) card2 dl.2);
      };
    })
