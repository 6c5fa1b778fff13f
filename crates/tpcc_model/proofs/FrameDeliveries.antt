-- A delivery does the same where its rows are the same, and changes no others.
use Rattle.std.proofs.Common.{◌≡◌, ℕ, zero, suc, ◌+◌, List, [], ◌∷◌, map, Option, Some, None, Result, Ok, IfOk, inl, inr, refl, sym, ap, ap₂, subst, ◌∙◌}
use Rattle.std.specs.Option.{option_and_then}
use Rattle.std.specs.FinMap.{empty, get, insert, get-empty}
use Rattle.serializability.specs.Footprints.{Footprint, Has, joined, joined_all, writing}
use Rattle.serializability.proofs.Footprints.{Has-append, Has-behind}
use Rattle.catalog.specs.CardMap.{Cards}
use Rattle.catalog.specs.Lookups.{warehouse_card}
use Rattle.catalog.specs.declared.card.WarehouseCard.{WarehouseCard}
use Rattle.requests.specs.declared.request.Delivery.{Delivery}
use Rattle.requests.specs.declared.reply.RequestRefusal.{RequestRefusal}
use Rattle.tpcc_rows.specs.Changing.{after}
use Rattle.tpcc_rows.specs.Limits.{ten}
use Rattle.tpcc_rows.specs.Picks.{oldest}
use Rattle.tpcc_rows.specs.RowKinds.{as_order}
use Rattle.tpcc_rows.specs.RowMap.{Changes, Rows}
use Rattle.tpcc_rows.specs.Rows.{customer_row, order_line_row, order_row}
use Rattle.tpcc_rows.specs.declared.granule.Granule.{Granule}
use Rattle.tpcc_rows.specs.declared.granule.Granule.TheVariants as part
use Rattle.tpcc_rows.specs.declared.key.RowKey.{RowKey}
use Rattle.tpcc_rows.specs.declared.key.RowKey.TheVariants as key
use Rattle.tpcc_rows.specs.declared.row.Row.{Row}
use Rattle.tpcc_rows.specs.declared.row.Row.TheVariants as row
use Rattle.tpcc_rows.specs.declared.row.OrderRow.{OrderRow}
use Rattle.tpcc_rows.specs.declared.row.OrderLineRow.{OrderLineRow}
use Rattle.tpcc_rows.proofs.Changes.{chosen, get-after}
use Rattle.tpcc_rows.proofs.Keys.{row_key_cmp_total, exact_keys}
use Rattle.tpcc_rows.proofs.RowKindFacts.{order-there}
use Rattle.tpcc_rows.proofs.Singles.{entry_of}
use Rattle.tpcc_model.specs.Database.{Database, database}
use Rattle.tpcc_model.specs.Deliveries.{Delivered, amount_of, carried, credited, delivery, districts_delivered, line_dated, lines_amount, lines_dated, oldest_delivered, order_delivered}
use Rattle.tpcc_model.specs.Staging.{◌>>=◌, known}
use Rattle.tpcc_model.specs.Steps.{delivery_outcome}
use Rattle.tpcc_model.specs.Touches.{Agree, ArePlaced, IsPlaced, credited_touch, delivery_touch, district_touch, delivered_touch, touch_by}
use Rattle.tpcc_model.proofs.Agreeing.{agree-after, agree-part, same_customer, same_oldest, same_order, same_order_line}
use Rattle.tpcc_model.proofs.Placing.{in_granule, placed-insert, placed-none}
use Rattle.tpcc_model.proofs.Stages.{after-stage, same-stage}

known-there : {A : Type 0} (o : Option A) (x : A) → known o ≡ Ok x → o ≡ Some x
known-there None x h = cc
known-there (Some y) x h = cc

-- ---- whose order it is
module _ (rows : Rows) (p : Delivery) where
  abbrev order_key : ℕ → ℕ → RowKey
  order_key d o = key.Order p.warehouse d o

  -- the order of the rows before the delivery is the same customer's
  abbrev IsHis : ℕ → ℕ → OrderRow → Type 0
  IsHis d o r = (before : OrderRow) × (order_row rows p.warehouse d o ≡ Some before) × (before.customer ≡ r.customer)

  -- each changed order stays its customer's
  abbrev KeepCustomers : Changes → Type 0
  KeepCustomers changes = (d o : ℕ) (r : OrderRow) → get changes (order_key d o) ≡ Some (Some (row.Order r)) → IsHis d o r

  none_kept : KeepCustomers empty
  none_kept d o r h = (let no : None ≡ Some (Some (row.Order r)) = sym (get-empty _ (order_key d o)) ∙ h in cc)

  -- an order that a delivery sees
  his_order : (changes : Changes) → KeepCustomers changes → (d o : ℕ) (r : OrderRow) → order_row (after rows changes) p.warehouse d o ≡ Some r → IsHis d o r
  his_order changes keep d o r h = at (get changes (order_key d o)) refl (ap (option_and_then as_order) (sym (get-after rows changes (order_key d o))) ∙ h)
    where
      at : (c : Option (Option Row)) → get changes (order_key d o) ≡ c → option_and_then as_order (chosen c (get rows (order_key d o))) ≡ Some r → IsHis d o r
      at None e i = (r, i, refl)
      at (Some new) e i = keep d o r (e ∙ ap (λ (x : Option Row). Some x) (order-there new r i))

  keep-insert : (changes : Changes) (k : RowKey) (new : Option Row) → ((d o : ℕ) → order_key d o ≡ k → ⊥) → KeepCustomers changes → KeepCustomers (insert changes k new)
  keep-insert changes k new other keep d o r h = elim (entry_of row_key_cmp_total exact_keys changes k new (order_key d o) (Some (row.Order r)) h) [
    | inl same ↦ absurd (other d o same.0)
    | inr before ↦ keep d o r before
  ]

  keep-order : (changes : Changes) (d o : ℕ) (new : OrderRow) → IsHis d o new → KeepCustomers changes → KeepCustomers (insert changes (order_key d o) (Some (row.Order new)))
  keep-order changes d o new his keep e x r h = elim (entry_of row_key_cmp_total exact_keys changes (order_key d o) (Some (row.Order new)) (order_key e x) (Some (row.Order r)) h) [
    | inl same ↦
        let place : ◌≡◌ {A = ℕ × ℕ} (d, o) (e, x) = (let k = same.0 in cc) in
        let is : new ≡ r = (let v = same.1 in cc) in
        subst (λ (z : ℕ × ℕ). IsHis z.0 z.1 r) place (subst (IsHis d o) is his)
    | inr before ↦ keep e x r before
  ]

  his_touch : (d : ℕ) (order : OrderRow) (before : OrderRow) (o : Option OrderRow) → o ≡ Some before → before.customer ≡ order.customer → Has (credited_touch p d o).reads (part.Customer p.warehouse d order.customer) × Has (credited_touch p d o).writes (part.Customer p.warehouse d order.customer)
  his_touch d order before None e c = cc
  his_touch d order before (Some r) e c =
      let is : r ≡ before = cc in
      let same : part.Customer p.warehouse d r.customer ≡ part.Customer p.warehouse d order.customer = ap (λ n. part.Customer p.warehouse d n) (ap (λ (z : OrderRow). z.customer) is ∙ c) in
      (inl same, inl same)

  -- the customer of an order that a delivery sees is touched
  his_read : (d o : ℕ) (order : OrderRow) → IsHis d o order → Has (credited_touch p d (order_row rows p.warehouse d o)).reads (part.Customer p.warehouse d order.customer)
  his_read d o order his = (his_touch d order his.0 (order_row rows p.warehouse d o) his.1 his.2).0

  his_written : (d o : ℕ) (order : OrderRow) → IsHis d o order → Has (credited_touch p d (order_row rows p.warehouse d o)).writes (part.Customer p.warehouse d order.customer)
  his_written d o order his = (his_touch d order his.0 (order_row rows p.warehouse d o) his.1 his.2).1

  -- ---- one order: its changes keep the customers, and are placed
  module _ (number moment : ℕ) (gs : List Granule) where
    -- changes that stay within what is touched
    record AreBounded (changes : Changes) : Type 0 where
      keep : KeepCustomers changes
      placed : ArePlaced number gs changes

    bounded_none : AreBounded empty
    bounded_none = record { keep = none_kept; placed = placed-none number gs }

    bounded-insert : (changes : Changes) (k : RowKey) (new : Option Row) → ((d o : ℕ) → order_key d o ≡ k → ⊥) → IsPlaced number gs k → AreBounded changes → AreBounded (insert changes k new)
    bounded-insert changes k new other is bounded = record { keep = keep-insert changes k new other bounded.keep; placed = placed-insert number gs changes k new is bounded.placed }

    module _ (d o : ℕ) (book : Has gs (part.Book p.warehouse d)) where
      bounded_line : (n : ℕ) (line : Option OrderLineRow) (changes : Changes) → AreBounded changes → AreBounded (line_dated moment (key.OrderLine p.warehouse d o n) line changes)
      bounded_line n None changes bounded = bounded
      bounded_line n (Some line) changes bounded = bounded-insert changes (key.OrderLine p.warehouse d o n) _ (λ e x s. cc) (in_granule number gs _ (part.Book p.warehouse d) refl book) bounded

      bounded_lines : (n : ℕ) (changes : Changes) → AreBounded changes → AreBounded (lines_dated rows p moment d o n changes)
      unfolding lines_dated
      bounded_lines zero changes bounded = bounded
      bounded_lines (suc n) changes bounded =
          let earlier = lines_dated rows p moment d o n changes in
          bounded_line (suc n) (order_line_row (after rows earlier) p.warehouse d o (suc n)) earlier (bounded_lines n changes bounded)

      bounded_carried : (order : OrderRow) (changes : Changes) → IsHis d o order → AreBounded changes → AreBounded (carried p d o order changes)
      unfolding carried
      bounded_carried order changes his bounded =
          let k = key.NewOrder p.warehouse d o in
          let first = bounded-insert changes k None (λ e x s. cc) (in_granule number gs k (part.Book p.warehouse d) refl book) bounded in
          record {
            keep = keep-order (insert changes k None) d o (record order { carrier = Some p.carrier }) (his.0, his.1, his.2) first.keep;
            placed = placed-insert number gs (insert changes k None) (order_key d o) _ (in_granule number gs (order_key d o) (part.Book p.warehouse d) refl book) first.placed;
          }

      -- the customer of the order is among the granules
      bounded_order : ((g : Granule) → Has (credited_touch p d (order_row rows p.warehouse d o)).writes g → Has gs g) → (changes : Changes) → AreBounded changes → IfOk (order_delivered rows p moment d o changes) AreBounded
      unfolding order_delivered
      bounded_order part_of changes bounded =
          let m = after rows changes in
          let P = λ (r : Result Changes RequestRefusal). IfOk r AreBounded in
          after-stage P (known (order_row m p.warehouse d o)) _ (λ why. tt) λ order e1.
          after-stage P (known (customer_row m p.warehouse d order.customer)) _ (λ why. tt) λ old e2.
          after-stage P (credited old (lines_amount m p d o order.line_count)) _ (λ why. tt) λ customer e3.
          let his = his_order changes bounded.keep d o order (known-there _ order e1) in
          let k = key.Customer p.warehouse d order.customer in
          bounded-insert (lines_dated rows p moment d o order.line_count (carried p d o order changes)) k _ (λ e x s. cc)
          (in_granule number gs k (part.Customer p.warehouse d order.customer) refl (part_of _ (his_written d o order his)))
          (bounded_lines order.line_count _ (bounded_carried order changes his bounded))

    bounded_oldest : (d : ℕ) (o : Option ℕ) → ((g : Granule) → Has (delivered_touch rows p d o).writes g → Has gs g) → (changes : Changes) → AreBounded changes → IfOk (oldest_delivered rows p moment d o changes) AreBounded
    bounded_oldest d None part_of changes bounded = bounded
    bounded_oldest d (Some o) part_of changes bounded = bounded_order d o (part_of (part.Book p.warehouse d) (inl refl)) (λ g h. part_of g (inr h)) changes bounded

    bounded_districts : (ds : List ℕ) → ((g : Granule) → Has (joined_all (map (district_touch rows p) ds)).writes g → Has gs g) → (changes : Changes) → AreBounded changes → IfOk (districts_delivered rows p moment ds changes) AreBounded
    unfolding districts_delivered
    bounded_districts [] part_of changes bounded = bounded
    bounded_districts (d ∷ ds) part_of changes bounded =
        let here = (district_touch rows p d).writes in
        let rest = (joined_all (map (district_touch rows p) ds)).writes in
        after-stage (λ (r : Result Changes RequestRefusal). IfOk r AreBounded) (oldest_delivered rows p moment d (oldest rows p.warehouse d) changes) _ (λ why. tt) λ more e.
        bounded_districts ds (λ g h. part_of g (Has-behind here rest g h)) more
        (subst (λ (r : Result Changes RequestRefusal). IfOk r AreBounded) e (bounded_oldest d (oldest rows p.warehouse d) (λ g h. part_of g (Has-append here rest g h)) changes bounded))

-- ---- the same
module _ (p : Delivery) (s t : Rows) (d o : ℕ) (gs : List Granule) (agree : Agree s t gs) (book : Has gs (part.Book p.warehouse d)) where
  same_amount : (n : ℕ) → lines_amount t p d o n ≡ lines_amount s p d o n
  unfolding lines_amount
  same_amount zero = refl
  same_amount (suc n) = ap₂ (λ (a : ℕ) (line : Option OrderLineRow). a + amount_of line) (same_amount n) (same_order_line s t gs agree p.warehouse d o (suc n) book)

  same_lines : (moment n : ℕ) (changes : Changes) → lines_dated t p moment d o n changes ≡ lines_dated s p moment d o n changes
  unfolding lines_dated
  same_lines moment zero changes = refl
  same_lines moment (suc n) changes =
      let k = key.OrderLine p.warehouse d o (suc n) in
      let earlier = lines_dated s p moment d o n changes in
      ap (λ (c : Changes). line_dated moment k (order_line_row (after t c) p.warehouse d o (suc n)) c) (same_lines moment n changes)
      ∙ ap (λ (line : Option OrderLineRow). line_dated moment k line earlier) (same_order_line (after s earlier) (after t earlier) gs (agree-after s t earlier gs agree) p.warehouse d o (suc n) book)

abbrev delivered_by : Delivery → Rows → ℕ → Result Delivered RequestRefusal
delivered_by p rows moment = districts_delivered rows p moment ten empty >>= λ changes. Ok (record { reply = record { orders = map (oldest rows p.warehouse) ten }; changes = changes })

module _ (s t : Rows) (p : Delivery) where
  same_order_delivered : (moment d o : ℕ) (changes : Changes) → KeepCustomers s p changes → Agree s t (delivered_touch s p d (Some o)).reads → order_delivered t p moment d o changes ≡ order_delivered s p moment d o changes
  unfolding order_delivered
  same_order_delivered moment d o changes keep agree =
      let gs = (delivered_touch s p d (Some o)).reads in
      let later = agree-after s t changes gs agree in
      let m = after s changes in
      let n = after t changes in
      same-stage _ _ _ _ (ap known (same_order m n gs later p.warehouse d o (inl refl))) λ order e1.
      same-stage _ _ _ _ (ap known (same_customer m n gs later p.warehouse d order.customer (inr (his_read s p d o order (his_order s p changes keep d o order (known-there _ order e1)))))) λ old e2.
      same-stage _ _ _ _ (ap (credited old) (same_amount p m n d o gs later (inl refl) order.line_count)) λ customer e3.
      ap (λ (c : Changes). Ok (insert c (key.Customer p.warehouse d order.customer) (Some (row.Customer customer)))) (same_lines p s t d o gs agree (inl refl) moment order.line_count (carried p d o order changes))

  same_oldest_delivered : (moment d : ℕ) (o : Option ℕ) (changes : Changes) → KeepCustomers s p changes → Agree s t (delivered_touch s p d o).reads → oldest_delivered t p moment d o changes ≡ oldest_delivered s p moment d o changes
  same_oldest_delivered moment d None changes keep agree = refl
  same_oldest_delivered moment d (Some o) changes keep agree = same_order_delivered moment d o changes keep agree

  has_book : (d : ℕ) (o : Option ℕ) → Has (delivered_touch s p d o).reads (part.Book p.warehouse d)
  has_book d None = inl refl
  has_book d (Some o) = inl refl

  same_district_oldest : (d : ℕ) → Agree s t (district_touch s p d).reads → oldest t p.warehouse d ≡ oldest s p.warehouse d
  same_district_oldest d agree = same_oldest s t (district_touch s p d).reads agree p.warehouse d (has_book d (oldest s p.warehouse d))

  abbrev all_touch : List ℕ → Footprint Granule
  all_touch ds = joined_all (map (district_touch s p) ds)

  of_first : (d : ℕ) (ds : List ℕ) → Agree s t (all_touch (d ∷ ds)).reads → Agree s t (district_touch s p d).reads
  of_first d ds agree = agree-part s t (all_touch (d ∷ ds)).reads (district_touch s p d).reads (λ g h. Has-append (district_touch s p d).reads (all_touch ds).reads g h) agree

  of_rest : (d : ℕ) (ds : List ℕ) → Agree s t (all_touch (d ∷ ds)).reads → Agree s t (all_touch ds).reads
  of_rest d ds agree = agree-part s t (all_touch (d ∷ ds)).reads (all_touch ds).reads (λ g h. Has-behind (district_touch s p d).reads (all_touch ds).reads g h) agree

  -- the districts in turn, on the rows as the earlier ones leave them
  same_districts : (moment : ℕ) (gs : List Granule) (ds : List ℕ) → ((g : Granule) → Has (all_touch ds).writes g → Has gs g) → (changes : Changes) → AreBounded s p 0 moment gs changes → Agree s t (all_touch ds).reads
      → districts_delivered t p moment ds changes ≡ districts_delivered s p moment ds changes
  unfolding districts_delivered
  same_districts moment gs [] part_of changes bounded agree = refl
  same_districts moment gs (d ∷ ds) part_of changes bounded agree =
      let first = of_first d ds agree in
      let o = oldest s p.warehouse d in
      let here = (district_touch s p d).writes in
      let rest = (all_touch ds).writes in
      same-stage _ _ _ _ (ap (λ (o : Option ℕ). oldest_delivered t p moment d o changes) (same_district_oldest d first) ∙ same_oldest_delivered moment d o changes bounded.keep first) λ more e.
      same_districts moment gs ds (λ g h. part_of g (Has-behind here rest g h)) more
      (subst (λ (r : Result Changes RequestRefusal). IfOk r (AreBounded s p 0 moment gs)) e (bounded_oldest s p 0 moment gs d o (λ g h. part_of g (Has-append here rest g h)) changes bounded)) (of_rest d ds agree)

  same_orders : (ds : List ℕ) → Agree s t (all_touch ds).reads → map (oldest t p.warehouse) ds ≡ map (oldest s p.warehouse) ds
  same_orders [] agree = refl
  same_orders (d ∷ ds) agree = ap₂ (λ (o : Option ℕ) (os : List (Option ℕ)). o ∷ os) (same_district_oldest d (of_first d ds agree)) (same_orders ds (of_rest d ds agree))

  same_credited : (d : ℕ) (o : Option ℕ) → Agree s t (delivered_touch s p d o).reads → delivered_touch t p d o ≡ delivered_touch s p d o
  same_credited d None agree = refl
  same_credited d (Some o) agree = ap (λ (order : Option OrderRow). joined (writing (part.Book p.warehouse d)) (credited_touch p d order)) (same_order s t (delivered_touch s p d (Some o)).reads agree p.warehouse d o (inl refl))

  same_all_touch : (ds : List ℕ) → Agree s t (all_touch ds).reads → joined_all (map (district_touch t p) ds) ≡ all_touch ds
  same_all_touch [] agree = refl
  same_all_touch (d ∷ ds) agree =
      let first = of_first d ds agree in
      ap₂ (λ (e f : Footprint Granule). joined e f) (ap (delivered_touch t p d) (same_district_oldest d first) ∙ same_credited d (oldest s p.warehouse d) first) (same_all_touch ds (of_rest d ds agree))

  same_touched : (card : Option WarehouseCard) → Agree s t (touch_by (λ card. all_touch ten) (known card)).reads → touch_by (λ card. joined_all (map (district_touch t p) ten)) (known card) ≡ touch_by (λ card. all_touch ten) (known card)
  same_touched None agree = refl
  same_touched (Some card) agree = same_all_touch ten agree

  same_delivered : (moment : ℕ) (card : Option WarehouseCard) → Agree s t (touch_by (λ card. all_touch ten) (known card)).reads → (known card >>= λ card. delivered_by p t moment) ≡ (known card >>= λ card. delivered_by p s moment)
  same_delivered moment None agree = refl
  same_delivered moment (Some card) agree =
      same-stage _ _ _ _ (same_districts moment (all_touch ten).writes ten (λ g h. h) empty (bounded_none s p 0 moment (all_touch ten).writes) agree) λ changes e.
      ap (λ (os : List (Option ℕ)). Ok (record { reply = record { orders = os }; changes = changes })) (same_orders ten agree)

placed_delivery : (rows : Rows) (p : Delivery) (number moment : ℕ) (card : Option WarehouseCard)
    → ArePlaced number (touch_by (λ card. joined_all (map (district_touch rows p) ten)) (known card)).writes (delivery_outcome (known card >>= λ card. delivered_by p rows moment)).changes
placed_delivery rows p number moment None = placed-none number []
placed_delivery rows p number moment (Some card) =
    let gs = (joined_all (map (district_touch rows p) ten)).writes in
    after-stage (λ (r : Result Delivered RequestRefusal). ArePlaced number gs (delivery_outcome r).changes) (districts_delivered rows p moment ten empty) _ (λ why. placed-none number gs) λ changes e.
    (subst (λ (r : Result Changes RequestRefusal). IfOk r (AreBounded rows p number moment gs)) e
    (bounded_districts rows p number moment gs ten (λ g h. h) empty (bounded_none rows p number moment gs))).placed

pub same_delivery_touch : (cards : Cards) (s t : Rows) (p : Delivery) → Agree s t (delivery_touch (database cards s) p).reads → delivery_touch (database cards t) p ≡ delivery_touch (database cards s) p
unfolding delivery_touch
same_delivery_touch cards s t p agree = same_touched s t p (warehouse_card cards p.warehouse) agree

pub same_delivery : (cards : Cards) (s t : Rows) (p : Delivery) (moment : ℕ) → Agree s t (delivery_touch (database cards s) p).reads → delivery (database cards t) p moment ≡ delivery (database cards s) p moment
unfolding delivery delivery_touch
same_delivery cards s t p moment agree = same_delivered s t p moment (warehouse_card cards p.warehouse) agree

pub delivery_placed : (db : Database) (p : Delivery) (number moment : ℕ) → ArePlaced number (delivery_touch db p).writes (delivery_outcome (delivery db p moment)).changes
unfolding delivery delivery_touch
delivery_placed db p number moment = placed_delivery db.rows p number moment (warehouse_card db.cards p.warehouse)
