-- A new order keeps a database sound.
use Rattle.std.proofs.Common.{◌≡◌, ◌≤◌, ◌<◌, ◌+◌, ℕ, ℤ, pos, ◌+ℤ◌, true, false, ◌&&◌, ◌==◌, length, Option, Some, None, Ok, IfSome, inl, inr, refl, sym, ap, subst, subst₂, ◌∙◌, arith}
use Rattle.std.proofs.lemmas.Int.{ints}
use Rattle.std.proofs.lemmas.Bool.{cases_eq}
use Rattle.std.proofs.lemmas.Bool.Decides.{nat_tests}
use Rattle.std.specs.Option.{option_and_then}
use Rattle.std.specs.FinMap.{get, insert}
use Rattle.requests.specs.declared.request.NewOrder.{NewOrder}
use Rattle.tpcc_rows.specs.Changing.{after}
use Rattle.tpcc_rows.specs.Limits.{IsBetween}
use Rattle.tpcc_rows.specs.RowKinds.{as_warehouse}
use Rattle.tpcc_rows.specs.RowMap.{Rows}
use Rattle.tpcc_rows.specs.Totals.{total}
use Rattle.tpcc_rows.specs.declared.key.RowKey.{RowKey}
use Rattle.tpcc_rows.specs.declared.key.RowKey.TheVariants as key
use Rattle.tpcc_rows.specs.declared.row.Row.{Row}
use Rattle.tpcc_rows.specs.declared.row.Row.TheVariants as row
use Rattle.tpcc_rows.specs.declared.row.DistrictNextRow.{DistrictNextRow}
use Rattle.tpcc_rows.specs.declared.row.OrderRow.{OrderRow}
use Rattle.tpcc_rows.proofs.Changes.{after-empty, after-insert}
use Rattle.tpcc_rows.proofs.Keys.{row_key_cmp_total, exact_keys}
use Rattle.tpcc_rows.proofs.Singles as single
use Rattle.tpcc_rows.proofs.Totals.{no_share, total-new, total-same}
use Rattle.tpcc_model.specs.Conditions.{Condition1, IsConsistent, district_share, line_share, new_order_share, promised_share}
use Rattle.tpcc_model.specs.Database.{Database}
use Rattle.tpcc_model.specs.NewOrders.{PlacedOrder, new_order, opened, order_of}
use Rattle.tpcc_model.specs.Soundness.{IsEntry, IsSound}
use Rattle.tpcc_laws.specs.Laws.{IsKeptSound, KeepsHistory}
use Rattle.tpcc_laws.specs.Requests.{IsNewOrder}
use Rattle.tpcc_laws.proofs.Books.{IsBook, longer_book, none_by}
use Rattle.tpcc_laws.proofs.Conditions.{still_consistent}
use Rattle.tpcc_laws.proofs.Entries.{Each, OrdersKept, There, each-insert, each-moved, there-insert}
use Rattle.tpcc_laws.proofs.NewOrderFacts.{IsPlacedOrder, order_found}
use Rattle.tpcc_laws.proofs.NewOrderLines.{IsLined, counted, is_lined, lined}
use Rattle.tpcc_laws.proofs.NewOrderRuns.{book_of, consistent_of}

-- ---- shares to which a line adds nothing
no_promise : (v e : ℕ) (k : RowKey) (x : Row) → is_lined k ≡ true → promised_share v e k x ≡ pos 0
no_promise v e (key.Stock w i) x t = refl
no_promise v e (key.OrderLine w d o n) x t = refl
no_promise v e _ x t = cc

no_payment : (v : ℕ) (k : RowKey) (x : Row) → is_lined k ≡ true → district_share v k x ≡ pos 0
no_payment v (key.Stock w i) x t = refl
no_payment v (key.OrderLine w d o n) x t = refl
no_payment v _ x t = cc

no_new_order : (v e : ℕ) (k : RowKey) (x : Row) → is_lined k ≡ true → new_order_share v e k x ≡ pos 0
no_new_order v e (key.Stock w i) x t = refl
no_new_order v e (key.OrderLine w d o n) x t = refl
no_new_order v e _ x t = cc

-- ---- districts
same_district : (w d : ℕ) → (w == w && d == d) ≡ true
same_district w d = grind (arith, nat_tests)

pub other_district : (v w e d : ℕ) → (v ≡ w → e ≡ d → ⊥) → (w == v && d == e) ≡ false
other_district v w e d n = elim (cases_eq v w) [
  | inl a ↦ elim (cases_eq e d) [ inl b ↦ absurd (n a b) | inr b ↦ grind (arith, nat_tests) ]
  | inr a ↦ grind (arith, nat_tests)
]

after-opened : (rows : Rows) (p : NewOrder) (moment o : ℕ) (new : DistrictNextRow) → after rows (opened p moment o new).changes
    ≡ insert (insert (insert rows (key.DistrictNext p.warehouse p.district) (row.DistrictNext new)) (key.Order p.warehouse p.district o) (row.Order (order_of p moment))) (key.NewOrder p.warehouse p.district o) row.NewOrder
unfolding opened
after-opened rows p moment o new = simp (after-insert, after-empty)

module _ (db : Database) (p : NewOrder) (moment : ℕ) (made : PlacedOrder) (sound : IsSound db) (fits : IsNewOrder p) (timed : IsBetween 0 999999999999 moment) (f : IsPlacedOrder db p moment made) where
  abbrev rows : Rows
  rows = db.rows

  abbrev o : ℕ
  o = f.old.next_order

  abbrev dk : RowKey
  dk = key.DistrictNext p.warehouse p.district

  abbrev ok : RowKey
  ok = key.Order p.warehouse p.district o

  abbrev nk : RowKey
  nk = key.NewOrder p.warehouse p.district o

  abbrev new : DistrictNextRow
  new = record { next_order = o + 1 }

  abbrev order : OrderRow
  order = order_of p moment

  -- the rows after each of the three changes, and after the lines
  abbrev m1 : Rows
  m1 = insert rows dk (row.DistrictNext new)

  abbrev m2 : Rows
  m2 = insert m1 ok (row.Order order)

  abbrev m3 : Rows
  m3 = insert m2 nk row.NewOrder

  abbrev last : Rows
  last = after rows f.last.changes

  aside : (m : Rows) (k : RowKey) (x : Row) (q : RowKey) → (q ≡ k → ⊥) → get (insert m k x) q ≡ get m q
  aside m k x q n = single.apart row_key_cmp_total exact_keys m k x q n

  placed : (m : Rows) (k : RowKey) (x : Row) → get (insert m k x) k ≡ Some x
  placed m k x = single.here row_key_cmp_total exact_keys m k x

  quiet : (k : RowKey) → (k ≡ nk → ⊥) → (k ≡ ok → ⊥) → (k ≡ dk → ⊥) → get m3 k ≡ get rows k
  quiet k n m d = aside m2 nk row.NewOrder k n ∙ aside m1 ok (row.Order order) k m ∙ aside rows dk (row.DistrictNext new) k d

  low : 1 ≤ o
  low = (sound.entries dk (row.DistrictNext f.old) f.has_district).1.0

  book : IsBook rows p.warehouse p.district o
  book = book_of p.warehouse p.district rows o low (sound.districts p.warehouse p.district f.old f.has_district)

  no_order : get rows ok ≡ None
  no_order = none_by _ (λ x e. at x (sound.entries ok x e) e)
    where
      at : (x : Row) → IsEntry db.cards rows ok x → get rows ok ≡ Some x → ⊥
      at (row.Order r) i e = let below : o < o = book.orders_below o (r, e) in omega arith
      at _ i e = absurd i

  no_line : (i : ℕ) → get rows (key.OrderLine p.warehouse p.district o i) ≡ None
  no_line i = none_by _ (λ x e. at x (sound.entries (key.OrderLine p.warehouse p.district o i) x e))
    where
      at : (x : Row) → IsEntry db.cards rows (key.OrderLine p.warehouse p.district o i) x → ⊥
      at (row.OrderLine r) line = let below : o < o = book.orders_below o (line.order, line.has_order) in omega arith
      at _ line = absurd line

  has_order : get m3 ok ≡ Some (row.Order order)
  has_order = aside m2 nk row.NewOrder ok (λ e. cc) ∙ placed m1 ok (row.Order order)

  -- the orders and new orders of before
  old_order : (v e x : ℕ) → (key.Order v e x ≡ ok → ⊥) → get m3 (key.Order v e x) ≡ get rows (key.Order v e x)
  old_order v e x n = quiet (key.Order v e x) (λ s. cc) n (λ s. cc)

  old_new_order : (v e x : ℕ) → (key.NewOrder v e x ≡ nk → ⊥) → get m3 (key.NewOrder v e x) ≡ get rows (key.NewOrder v e x)
  old_new_order v e x n = quiet (key.NewOrder v e x) n (λ s. cc) (λ s. cc)

  kept : OrdersKept rows m3
  kept v e x r h = (r, old_order v e x (λ s. (let none : Some (row.Order r) ≡ None = sym h ∙ ap (get rows) s ∙ no_order in cc)) ∙ h, refl)

  order_entry : IsEntry db.cards m3 ok (row.Order order)
  unfolding order_of
  order_entry = let next = f.next in let high : o + 1 ≤ 9999999 = next.1 in let lines = fits.lines in let some : 5 ≤ length p.lines = lines.0 in record {
    number = (low, omega arith);
    district = f.district;
    customer = f.customer;
    entry = timed;
    carrier = tt;
    line_count = (omega arith, lines.1);
  }

  -- each row is as it should be
  each : Each db.cards m3 m3
  each =
      let i = sound.entries dk (row.DistrictNext f.old) f.has_district in
      each-insert db.cards m3 m2 nk row.NewOrder
      (each-insert db.cards m3 m1 ok (row.Order order)
      (each-insert db.cards m3 rows dk (row.DistrictNext new) (each-moved db.cards rows m3 rows kept sound.entries) (i.0, f.next)) order_entry) (order, has_order)

  there : There db.cards m3
  there = there-insert db.cards m2 nk row.NewOrder (there-insert db.cards m1 ok (row.Order order) (there-insert db.cards rows dk (row.DistrictNext new) sound.there))

  lines : IsLined db.cards m3 m3 last p.warehouse p.district (length p.lines)
  unfolding order_of
  lines =
      let at : after rows (opened p moment o new).changes ≡ m3 = after-opened rows p moment o new in
      let count = f.count in
      subst₂ (λ (z : Rows) (n : ℕ). IsLined db.cards m3 z last p.warehouse p.district n) at f.count
      (lined db.cards m3 rows p o order has_order 1 f.lines (opened p moment o new) f.last (omega arith) (omega (arith, count)) f.found
      (λ i from. ap (λ (z : Rows). get z (key.OrderLine p.warehouse p.district o i)) at ∙ quiet (key.OrderLine p.warehouse p.district o i) (λ s. cc) (λ s. cc) (λ s. cc) ∙ no_line i)
      (subst (Each db.cards m3) (sym at) each) (subst (There db.cards) (sym at) there) f.done)

  last_each : Each db.cards last last
  last_each = each-moved db.cards m3 last last (λ v e x r h. (r, lines.elsewhere (key.Order v e x) refl ∙ h, refl)) lines.entries

  -- ---- sums
  promised : (v e : ℕ) → total (promised_share v e) last ≡ total (promised_share v e) rows +ℤ counted (p.warehouse == v && p.district == e) (length p.lines)
  unfolding order_of
  promised v e =
      lines.shares (promised_share v e) (no_promise v e)
      ∙ total-same m2 nk (promised_share v e) row.NewOrder (no_share (promised_share v e nk) _ (λ x. refl))
      ∙ total-new m1 ok (promised_share v e) (row.Order order) (aside rows dk (row.DistrictNext new) ok (λ s. cc) ∙ no_order)
      ∙ ap (λ z. z +ℤ counted (p.warehouse == v && p.district == e) (length p.lines)) (total-same rows dk (promised_share v e) (row.DistrictNext new) (no_share (promised_share v e dk) _ (λ x. refl)))

  counted_lines : (v e : ℕ) → total (line_share v e) last ≡ total (line_share v e) rows +ℤ counted (p.warehouse == v && p.district == e) (length p.lines)
  counted_lines v e =
      lines.lines v e
      ∙ ap (λ z. z +ℤ counted (p.warehouse == v && p.district == e) (length p.lines))
      (total-same m2 nk (line_share v e) row.NewOrder (no_share (line_share v e nk) _ (λ x. refl))
      ∙ total-same m1 ok (line_share v e) (row.Order order) (no_share (line_share v e ok) _ (λ x. refl))
      ∙ total-same rows dk (line_share v e) (row.DistrictNext new) (no_share (line_share v e dk) _ (λ x. refl)))

  no_new_order_yet : get rows nk ≡ None
  no_new_order_yet = none_by _ (λ x e. at x (sound.entries nk x e))
    where
      at : (x : Row) → IsEntry db.cards rows nk x → ⊥
      at row.NewOrder i = let below : o < o = book.orders_below o i in omega arith
      at _ i = absurd i

  new_orders : (v e : ℕ) → total (new_order_share v e) last ≡ total (new_order_share v e) rows +ℤ counted (p.warehouse == v && p.district == e) 1
  new_orders v e =
      lines.shares (new_order_share v e) (no_new_order v e)
      ∙ total-new m2 nk (new_order_share v e) row.NewOrder (aside m1 ok (row.Order order) nk (λ s. cc) ∙ aside rows dk (row.DistrictNext new) nk (λ s. cc) ∙ no_new_order_yet)
      ∙ ap (λ z. z +ℤ counted (p.warehouse == v && p.district == e) 1)
      (total-same m1 ok (new_order_share v e) (row.Order order) (no_share (new_order_share v e ok) _ (λ x. refl))
      ∙ total-same rows dk (new_order_share v e) (row.DistrictNext new) (no_share (new_order_share v e dk) _ (λ x. refl)))

  payments : (v : ℕ) → total (district_share v) last ≡ total (district_share v) rows
  payments v =
      lines.shares (district_share v) (no_payment v)
      ∙ total-same m2 nk (district_share v) row.NewOrder (no_share (district_share v nk) _ (λ x. refl))
      ∙ total-same m1 ok (district_share v) (row.Order order) (no_share (district_share v ok) _ (λ x. refl))
      ∙ total-same rows dk (district_share v) (row.DistrictNext new) (no_share (district_share v dk) _ (λ x. refl))

  ytds : Condition1 last
  ytds v = subst₂ (λ (a : Option Row) (t : ℤ). IfSome (option_and_then as_warehouse a) (λ warehouse. warehouse.ytd ≡ t))
      (sym (lines.elsewhere (key.Warehouse v) refl ∙ quiet (key.Warehouse v) (λ s. cc) (λ s. cc) (λ s. cc))) (sym (payments v)) (sound.condition_1 v)

  -- ---- conditions 2 to 4
  own_district : IsConsistent last p.warehouse p.district (o + 1)
  own_district =
      let t = same_district p.warehouse p.district in
      let longer : IsBook last p.warehouse p.district (o + 1) = longer_book rows last p.warehouse p.district o (length p.lines) order (lines.elsewhere ok refl ∙ has_order) (lines.elsewhere nk refl ∙ placed m2 nk row.NewOrder)
      (λ x n. lines.elsewhere (key.Order p.warehouse p.district x) refl ∙ old_order p.warehouse p.district x (λ s. n cc))
      (λ x n. lines.elsewhere (key.NewOrder p.warehouse p.district x) refl ∙ old_new_order p.warehouse p.district x (λ s. n cc))
      (subst (λ z. total (promised_share p.warehouse p.district) last ≡ total (promised_share p.warehouse p.district) rows +ℤ counted z (length p.lines)) t (promised p.warehouse p.district))
      (subst (λ z. total (line_share p.warehouse p.district) last ≡ total (line_share p.warehouse p.district) rows +ℤ counted z (length p.lines)) t (counted_lines p.warehouse p.district)) book in
      consistent_of p.warehouse p.district last (o + 1) f.next.0 longer

  other_districts : (v e next : ℕ) → (v ≡ p.warehouse → e ≡ p.district → ⊥) → IsConsistent rows v e next → IsConsistent last v e next
  other_districts v e next far c =
      let t = other_district v p.warehouse e p.district far in
      let nothing_more : (z : ℤ) → z +ℤ pos 0 ≡ z = λ z. omega (arith, ints) in
      still_consistent rows last v e
      (λ x. lines.elsewhere (key.Order v e x) refl ∙ old_order v e x (λ s. (let a : v ≡ p.warehouse = cc in let b : e ≡ p.district = cc in far a b)))
      (λ x. lines.elsewhere (key.NewOrder v e x) refl ∙ old_new_order v e x (λ s. (let a : v ≡ p.warehouse = cc in let b : e ≡ p.district = cc in far a b)))
      next
      (subst (λ z. total (promised_share v e) last ≡ total (promised_share v e) rows +ℤ counted z (length p.lines)) t (promised v e) ∙ nothing_more _)
      (subst (λ z. total (line_share v e) last ≡ total (line_share v e) rows +ℤ counted z (length p.lines)) t (counted_lines v e) ∙ nothing_more _)
      (subst (λ z. total (new_order_share v e) last ≡ total (new_order_share v e) rows +ℤ counted z 1) t (new_orders v e) ∙ nothing_more _)
      c

  districts : (v e : ℕ) (r : DistrictNextRow) → get last (key.DistrictNext v e) ≡ Some (row.DistrictNext r) → IsConsistent last v e r.next_order
  districts v e r h =
      let now : get last (key.DistrictNext v e) ≡ get m1 (key.DistrictNext v e) = lines.elsewhere (key.DistrictNext v e) refl ∙ aside m2 nk row.NewOrder (key.DistrictNext v e) (λ s. cc) ∙ aside m1 ok (row.Order order) (key.DistrictNext v e) (λ s. cc) in
      elim (single.same_key row_key_cmp_total exact_keys (key.DistrictNext v e) dk) [
        | inl s ↦
            let both : Some (row.DistrictNext new) ≡ Some (row.DistrictNext r) = sym (placed rows dk (row.DistrictNext new)) ∙ ap (get m1) (sym s) ∙ sym now ∙ h in
            let same : new ≡ r = cc in
            let whole : ◌≡◌ {A = ℕ × ℕ × ℕ} (p.warehouse, p.district, o + 1) (v, e, r.next_order) = (let n : o + 1 ≡ r.next_order = ap (λ (z : DistrictNextRow). z.next_order) same in cc) in
            subst (λ (z : ℕ × ℕ × ℕ). IsConsistent last z.0 z.1 z.2) whole own_district
        | inr n ↦
            let was : get rows (key.DistrictNext v e) ≡ Some (row.DistrictNext r) = sym (now ∙ aside rows dk (row.DistrictNext new) (key.DistrictNext v e) n) ∙ h in
            other_districts v e r.next_order (λ a b. n cc) (sound.districts v e r was)
      ]

  -- ---- the history, which stays as it was
  history : (number : ℕ) → KeepsHistory rows last number
  history number n = inr (lines.elsewhere (key.History n) refl ∙ quiet (key.History n) (λ s. cc) (λ s. cc) (λ s. cc))

pub new_order_keeps : (db : Database) (p : NewOrder) (number moment : ℕ) (made : PlacedOrder) → IsSound db → IsNewOrder p → IsBetween 0 999999999999 moment → new_order db p moment ≡ Ok made → IsKeptSound db (after db.rows made.changes) number
new_order_keeps db p number moment made sound fits timed h =
    let f = order_found db p moment made sound.cards fits h in
    let m = after db.rows f.last.changes in
    subst (λ changes. IsKeptSound db (after db.rows changes) number) f.changes (record {
      sound = record {
        cards = sound.cards;
        there = (lines db p moment made sound fits timed f).there;
        entries = last_each db p moment made sound fits timed f;
        condition_1 = ytds db p moment made sound fits timed f;
        districts = districts db p moment made sound fits timed f;
      };
      history = history db p moment made sound fits timed f number;
    })
