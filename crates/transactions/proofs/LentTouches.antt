-- When the touches of the transactions, and of their parts, are within a view.
use Rattle.std.proofs.Common.{◌≡◌, ◌≤◌, ◌<◌, ◌+◌, ◌-◌, ◌&&◌, ℕ, zero, suc, Bool, true, false, List, [], ◌∷◌, map, drop, get_or, Option, Some, Result, Ok, Err, refl, sym, ap, ap₂, subst, ◌∙◌, add-one, arith}
use Rattle.std.proofs.Math.Seq.{drop-cons}
use Rattle.std.specs.List.{list_all}
use Rattle.std.specs.Result.{IsErrAnd}
use Rattle.serializability.specs.Footprints.{joined, joined_all, reading, writing}
use Rattle.requests.specs.declared.request.Delivery.{Delivery}
use Rattle.requests.specs.declared.request.NewOrder.{NewOrder}
use Rattle.requests.specs.declared.request.OrderStatus.{OrderStatus}
use Rattle.requests.specs.declared.request.Payment.{Payment}
use Rattle.requests.specs.declared.request.StockLevel.{StockLevel}
use Rattle.tpcc_rows.specs.Limits.{ten}
use Rattle.tpcc_rows.specs.RowMap.{Rows}
use Rattle.tpcc_rows.specs.Rows.{district_next_row, order_line_row, order_row}
use Rattle.tpcc_rows.specs.declared.granule.Granule.{Granule}
use Rattle.tpcc_rows.specs.declared.granule.Granule.TheVariants as part
use Rattle.tpcc_rows.specs.declared.row.OrderLineRow.{OrderLineRow}
use Rattle.tpcc_model.specs.Database.{Database}
use Rattle.tpcc_model.specs.Touches.{asked_touch, counted_touch, credited_touch, district_touch, line_touch, lines_touch, delivered_touch, ordered_touch, orders_touch, paid_touch, placed_touch, recent_touch}
use Rattle.worker_rows.specs.Views.{View, covers, may_read}
use Rattle.transactions.specs.Faults.{EndsWithin, IsFaultUnless}
use Rattle.transactions.specs.declared.fault.Fault.{Fault}
use Rattle.transactions.specs.declared.fault.Fault.TheVariants as fault
use Rattle.transactions.proofs.Covering.{covers-joined, covers-joined_all, covers-map}

and-true : (b : Bool) → (b && true) ≡ b
and-true true = refl
and-true false = refl

pub covers_reading : (view : View) (g : Granule) → covers view (reading g) ≡ may_read view g
covers_reading view g = and-true (may_read view g && true) ∙ and-true (may_read view g)

pub covers_placed : (view : View) (p : NewOrder)
    → covers view (placed_touch p) ≡ (covers view (writing (part.DistrictNext p.warehouse p.district)) && (covers view (writing (part.Book p.warehouse p.district)) && list_all (λ line. covers view (ordered_touch line)) p.lines))
covers_placed view p =
    let next = writing (part.DistrictNext p.warehouse p.district) in
    let book = writing (part.Book p.warehouse p.district) in
    covers-joined view next (joined book (joined_all (map ordered_touch p.lines)))
    ∙ ap (λ b. covers view next && b) (covers-joined view book (joined_all (map ordered_touch p.lines)) ∙ ap (λ b. covers view book && b) (covers-map view ordered_touch p.lines))

pub covers_paid : (view : View) (p : Payment) (c : ℕ)
    → covers view (paid_touch p c) ≡ (covers view (writing (part.Warehouse p.warehouse)) && (covers view (writing (part.DistrictYtd p.warehouse p.district)) && covers view (writing (part.Customer p.customer_warehouse p.customer_district c))))
covers_paid view p c =
    let warehouse = writing (part.Warehouse p.warehouse) in
    let district = writing (part.DistrictYtd p.warehouse p.district) in
    let customer = writing (part.Customer p.customer_warehouse p.customer_district c) in
    covers-joined_all view (warehouse ∷ district ∷ customer ∷ [])
    ∙ ap (λ b. covers view warehouse && (covers view district && b)) (and-true (covers view customer))

pub covers_asked : (view : View) (p : OrderStatus) (c : ℕ) → covers view (asked_touch p c) ≡ (may_read view (part.Customer p.warehouse p.district c) && may_read view (part.Book p.warehouse p.district))
covers_asked view p c =
    let customer = reading (part.Customer p.warehouse p.district c) in
    let book = reading (part.Book p.warehouse p.district) in
    covers-joined view customer book
    ∙ ap₂ (λ a b. a && b) (covers_reading view (part.Customer p.warehouse p.district c)) (covers_reading view (part.Book p.warehouse p.district))

pub covers_oldest : (view : View) (rows : Rows) (p : Delivery) (d o : ℕ)
    → covers view (delivered_touch rows p d (Some o)) ≡ (covers view (writing (part.Book p.warehouse d)) && covers view (credited_touch p d (order_row rows p.warehouse d o)))
covers_oldest view rows p d o = covers-joined view (writing (part.Book p.warehouse d)) (credited_touch p d (order_row rows p.warehouse d o))

pub covers_book : (view : View) (p : Delivery) (d : ℕ) → covers view (reading (part.Book p.warehouse d)) ≡ may_read view (part.Book p.warehouse d)
covers_book view p d = covers_reading view (part.Book p.warehouse d)

pub covers_ten : (view : View) (rows : Rows) (p : Delivery) → covers view (joined_all (map (district_touch rows p) ten)) ≡ list_all (λ d. covers view (district_touch rows p d)) ten
covers_ten view rows p = covers-map view (district_touch rows p) ten

pub covers_counted : (view : View) (db : Database) (p : StockLevel)
    → covers view (counted_touch db p) ≡ (may_read view (part.DistrictNext p.warehouse p.district) && (may_read view (part.Book p.warehouse p.district) && covers view (recent_touch db p (district_next_row db.rows p.warehouse p.district))))
covers_counted view db p =
    let district = reading (part.DistrictNext p.warehouse p.district) in
    let book = reading (part.Book p.warehouse p.district) in
    let recent = recent_touch db p (district_next_row db.rows p.warehouse p.district) in
    covers-joined_all view (district ∷ book ∷ recent ∷ [])
    ∙ ap₂ (λ a b. a && b) (covers_reading view (part.DistrictNext p.warehouse p.district))
    (ap₂ (λ a b. a && b) (covers_reading view (part.Book p.warehouse p.district)) (and-true (covers view recent)))

-- ---- one district after the other
module _ (test : ℕ → Bool) (i d : ℕ) (ds : List ℕ) (is : ds ≡ ten) (below : i < 10) where
  at_place : list_all test (drop i ten) ≡ (test (get_or ds i d) && list_all test (drop (i + 1) ten))
  at_place = ap (list_all test) (drop-cons ten i d below)
      ∙ ap₂ (λ (e k : ℕ). test e && list_all test (drop k ten)) (ap (λ xs. get_or xs i d) (sym is)) (sym (add-one i))

  pub district_passes : (whole : Bool) → list_all test (drop i ten) ≡ whole → true ≡ test (get_or ds i d) → list_all test (drop (i + 1) ten) ≡ whole
  district_passes whole left may = ap (λ b. b && list_all test (drop (i + 1) ten)) may ∙ sym at_place ∙ left

-- ---- one line and one order after the other
both : (a b : Bool) → a ≡ true → b ≡ true → (a && b) ≡ true
both a b e h = ap₂ (λ x y. x && y) e h

not_first : (a b : Bool) → a ≡ false → (a && b) ≡ false
not_first a b e = ap (λ x. x && b) e

not_second : (a b : Bool) → b ≡ false → (a && b) ≡ false
not_second true b e = e
not_second false b e = refl

module _ (view : View) (db : Database) (p : StockLevel) where
  module _ (o n number : ℕ) (same : number ≡ n + 1) (line : Option OrderLineRow) (is : line ≡ order_line_row db.rows p.warehouse p.district o number) where
    lines-more : covers view (lines_touch db p o (n + 1)) ≡ (covers view (lines_touch db p o n) && covers view (line_touch db.cards p line))
    unfolding lines_touch
    lines-more =
        ap (λ k. covers view (lines_touch db p o k)) (add-one n)
        ∙ covers-joined view (lines_touch db p o n) (line_touch db.cards p (order_line_row db.rows p.warehouse p.district o (suc n)))
        ∙ ap (λ l. covers view (lines_touch db p o n) && covers view (line_touch db.cards p l)) (sym (is ∙ ap (order_line_row db.rows p.warehouse p.district o) (same ∙ add-one n)))

    pub line_covered : covers view (lines_touch db p o n) ≡ true → covers view (line_touch db.cards p line) ≡ true → covers view (lines_touch db p o (n + 1)) ≡ true
    line_covered so_far one = lines-more ∙ both _ _ so_far one

    line_uncovered : covers view (line_touch db.cards p line) ≡ false → covers view (lines_touch db p o (n + 1)) ≡ false
    line_uncovered one = lines-more ∙ not_second _ _ one

  lines_uncovered : (o m k : ℕ) → covers view (lines_touch db p o m) ≡ false → covers view (lines_touch db p o (k + m)) ≡ false
  unfolding lines_touch
  lines_uncovered o m zero strays = ap (λ n. covers view (lines_touch db p o n)) (let e : 0 + m ≡ m = omega arith in e) ∙ strays
  lines_uncovered o m (suc k) strays =
      ap (λ n. covers view (lines_touch db p o n)) (let e : suc k + m ≡ suc (k + m) = omega arith in e)
      ∙ covers-joined view (lines_touch db p o (k + m)) (line_touch db.cards p (order_line_row db.rows p.warehouse p.district o (suc (k + m))))
      ∙ not_first _ _ (lines_uncovered o m k strays)

  pub line_strays : (o n number : ℕ) → number ≡ n + 1 → (line : Option OrderLineRow) → line ≡ order_line_row db.rows p.warehouse p.district o number → n < 15 → covers view (line_touch db.cards p line) ≡ false → covers view (lines_touch db p o 15) ≡ false
  line_strays o n number same line is below one =
      ap (λ k. covers view (lines_touch db p o k)) (let e : 15 ≡ (14 - n) + (n + 1) = omega (arith, below) in e)
      ∙ lines_uncovered o (n + 1) (14 - n) (line_uncovered o n number same line is one)

  pub no_orders : (first n : ℕ) → n ≡ 0 → covers view (orders_touch db p first n) ≡ true
  unfolding orders_touch
  no_orders first n none = ap (λ k. covers view (orders_touch db p first k)) none

  module _ (first o number : ℕ) (same : number ≡ o) (from : first ≤ o) where
    orders-more : covers view (orders_touch db p first (o + 1 - first)) ≡ (covers view (orders_touch db p first (o - first)) && covers view (lines_touch db p number 15))
    unfolding orders_touch
    orders-more =
        ap (λ k. covers view (orders_touch db p first k)) (let e : o + 1 - first ≡ suc (o - first) = omega (arith, from) in e)
        ∙ covers-joined view (orders_touch db p first (o - first)) (lines_touch db p (first + (o - first)) 15)
        ∙ ap (λ k. covers view (orders_touch db p first (o - first)) && covers view (lines_touch db p k 15)) (let e : first + (o - first) ≡ number = omega (arith, from, same) in e)

    pub order_covered : covers view (orders_touch db p first (o - first)) ≡ true → covers view (lines_touch db p number 15) ≡ true → covers view (orders_touch db p first (o + 1 - first)) ≡ true
    order_covered so_far one = orders-more ∙ both _ _ so_far one

    order_uncovered : covers view (lines_touch db p number 15) ≡ false → covers view (orders_touch db p first (o + 1 - first)) ≡ false
    order_uncovered one = orders-more ∙ not_second _ _ one

  orders_uncovered : (first m k : ℕ) → covers view (orders_touch db p first m) ≡ false → covers view (orders_touch db p first (k + m)) ≡ false
  unfolding orders_touch
  orders_uncovered first m zero strays = ap (λ n. covers view (orders_touch db p first n)) (let e : 0 + m ≡ m = omega arith in e) ∙ strays
  orders_uncovered first m (suc k) strays =
      ap (λ n. covers view (orders_touch db p first n)) (let e : suc k + m ≡ suc (k + m) = omega arith in e)
      ∙ covers-joined view (orders_touch db p first (k + m)) (lines_touch db p (first + (k + m)) 15)
      ∙ not_first _ _ (orders_uncovered first m k strays)

  pub order_strays : (first o number next : ℕ) → number ≡ o → first ≤ o → o < next → covers view (lines_touch db p number 15) ≡ false → covers view (orders_touch db p first (next - first)) ≡ false
  order_strays first o number next same from below one =
      ap (λ k. covers view (orders_touch db p first k)) (let e : next - first ≡ (next - (o + 1)) + (o + 1 - first) = omega (arith, below, from) in e)
      ∙ orders_uncovered first (o + 1 - first) (next - (o + 1)) (order_uncovered first o number same from one)

-- a fault of one part, where the whole strays as the part does
pub ended_by : {A : Type 0} (stage whole : Bool) (f : Fault) (result : Result A Fault) → (stage ≡ false → whole ≡ false) → IsFaultUnless stage f → IsErrAnd result (λ g. g ≡ f) → EndsWithin whole result
ended_by stage whole f (Ok x) on is by = absurd by
ended_by stage whole (fault.Refused why) (Err g) on is by = absurd is
ended_by stage whole fault.Strayed (Err g) on is by = subst (IsFaultUnless whole) (sym by) (on is)
ended_by stage whole fault.Memory (Err g) on is by = subst (IsFaultUnless whole) (sym by) tt
