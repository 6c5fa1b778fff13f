-- What the lines of a new order do to the rows.
use Rattle.std.proofs.Common.{◌≡◌, ◌≤◌, ◌+◌, ◌*◌, ℕ, ℤ, pos, negsuc, ◌+ℤ◌, ◌≤ℤ◌, Bool, true, false, if◌then◌else◌, ◌&&◌, ◌==◌, int_le, List, [], ◌∷◌, ◌++◌, length, Some, None, IsSome, Ok, refl, sym, ap, subst, ◌∙◌, arith}
use Rattle.std.proofs.lemmas.Int.{ints}
use Rattle.std.specs.List.{AllByRecursion}
use Rattle.std.specs.FinMap.{get, insert}
use Rattle.tpcc_rows.specs.declared.key.RowKey.{RowKey}
use Rattle.tpcc_rows.specs.declared.key.RowKey.TheVariants as key
use Rattle.tpcc_rows.specs.declared.row.Row.{Row}
use Rattle.tpcc_rows.specs.declared.row.Row.TheVariants as row
use Rattle.tpcc_rows.specs.declared.row.OrderRow.{OrderRow}
use Rattle.tpcc_rows.specs.declared.row.OrderLineRow.{OrderLineRow}
use Rattle.tpcc_rows.specs.declared.row.StockRow.{StockRow}
use Rattle.tpcc_rows.specs.Changing.{after}
use Rattle.tpcc_rows.specs.Limits.{IsBetween, IsStockQuantity, between, is_stock_quantity, stock_quantity_of}
use Rattle.tpcc_rows.specs.RowMap.{Rows}
use Rattle.tpcc_rows.specs.Rows.{stock_row}
use Rattle.tpcc_rows.specs.Texts.{IsText}
use Rattle.tpcc_rows.specs.Totals.{total}
use Rattle.tpcc_rows.proofs.Changes.{after-insert}
use Rattle.tpcc_rows.proofs.Keys.{row_key_cmp_total, exact_keys}
use Rattle.tpcc_rows.proofs.Singles.{and-left, and-right}
use Rattle.tpcc_rows.proofs.Singles as single
use Rattle.tpcc_rows.proofs.Totals.{no_share, total-new, total-same}
use Rattle.catalog.specs.CardMap.{Cards}
use Rattle.catalog.specs.Lookups.{stock_card}
use Rattle.catalog.specs.StockCards.{district_info}
use Rattle.requests.specs.declared.request.NewOrder.{NewOrder}
use Rattle.requests.specs.declared.request.OrderedLine.{OrderedLine}
use Rattle.tpcc_model.specs.Conditions.{line_share}
use Rattle.tpcc_model.specs.NewOrders.{LineCards, OrderSoFar, brand_of, left_quantity, line_amount, line_done, lines_done, order_line_of, ordered_stock, remote_orders}
use Rattle.tpcc_model.specs.Soundness.{IsOrderLine, IsStockRow}
use Rattle.tpcc_model.specs.Staging.{known, within}
use Rattle.tpcc_laws.proofs.Doing.{ok-by, ok_or-ok, passed, between-some}
use Rattle.tpcc_laws.proofs.Entries.{Each, There, each-insert, there-insert}

apart : (m : Rows) (k : RowKey) (x : Row) (q : RowKey) → (q ≡ k → ⊥) → get (insert m k x) q ≡ get m q
apart m k x q n = single.apart row_key_cmp_total exact_keys m k x q n

-- the kinds of keys that a line changes
abbrev pub is_lined : RowKey → Bool
is_lined (key.Stock w i) = true
is_lined (key.OrderLine w d o n) = true
is_lined _ = false

abbrev pub counted : Bool → ℕ → ℤ
counted b n = if b then pos n else pos 0

-- what so many lines of a district do to the rows m, where the orders are in p
pub record IsLined (cards : Cards) (p m n : Rows) (w d count : ℕ) : Type 0 where
  pub entries : Each cards p n
  pub there : There cards n
  pub elsewhere : (k : RowKey) → is_lined k ≡ false → get n k ≡ get m k
  pub shares : (f : RowKey → Row → ℤ) → ((k : RowKey) (x : Row) → is_lined k ≡ true → f k x ≡ pos 0) → total f n ≡ total f m
  pub lines : (v e : ℕ) → total (line_share v e) n ≡ total (line_share v e) m +ℤ counted (w == v && d == e) count

-- a line of the district whose cards were found, within the limits
pub record IsFound (cards : Cards) (d : ℕ) (line : LineCards) : Type 0 where
  pub stock : IsSome (stock_card cards line.ordered.supply line.ordered.item)
  pub info : IsText 24 (district_info line.stock d)
  pub quantity : IsBetween 1 10 line.ordered.quantity

-- ---- the new rows
stock_quantity-some : (z y : ℤ) → stock_quantity_of z ≡ Some y → IsStockQuantity y
stock_quantity-some z y h =
    let (test, same) = passed (is_stock_quantity z) z y h in
    let low = and-left (int_le (negsuc 9998) z) (int_le z (pos 9999)) test in
    let high = and-right (int_le (negsuc 9998) z) (int_le z (pos 9999)) test in
    subst IsStockQuantity same (let l : negsuc 9998 ≤ℤ z = grind (arith, ints) in l, let h : z ≤ℤ pos 9999 = grind (arith, ints) in h)

stock-ordered : (w : ℕ) (line : OrderedLine) (old new : StockRow) → ordered_stock w line old ≡ Ok new → IsStockRow new
unfolding ordered_stock
stock-ordered w line old new h =
    ok-by (within (stock_quantity_of (left_quantity old.quantity line.quantity))) _ _ h λ a ea ha.
    ok-by (within (between 0 1000000000 (old.ytd + line.quantity))) _ _ ha λ b eb hb.
    ok-by (within (between 0 1000000000 (old.order_count + 1))) _ _ hb λ c ec hc.
    ok-by (within (between 0 1000000000 (old.remote_count + remote_orders w line))) _ _ hc λ r er hr.
    let is : ◌≡◌ {A = StockRow} (record { quantity = a; ytd = b; order_count = c; remote_count = r }) new = cc in
    subst IsStockRow is (record {
      quantity = stock_quantity-some (left_quantity old.quantity line.quantity) a (ok_or-ok _ _ _ ea);
      ytd = (between-some 0 1000000000 (old.ytd + line.quantity) b (ok_or-ok _ _ _ eb)).1;
      order_count = (between-some 0 1000000000 (old.order_count + 1) c (ok_or-ok _ _ _ ec)).1;
      remote_count = (between-some 0 1000000000 (old.remote_count + remote_orders w line) r (ok_or-ok _ _ _ er)).1;
    })

-- what one line made
record IsLineDone (p : NewOrder) (o n : ℕ) (line : LineCards) (made more : OrderSoFar) : Type 0 where
  stock : StockRow
  amount : ℕ
  is_stock : IsStockRow stock
  is_amount : IsBetween 0 999999 amount
  changes : more.changes ≡ insert (insert made.changes (key.Stock line.ordered.supply line.ordered.item) (Some (row.Stock stock))) (key.OrderLine p.warehouse p.district o n) (Some (row.OrderLine (order_line_of p line amount)))

done : (p : NewOrder) (o n : ℕ) (line : LineCards) (old : StockRow) (made more : OrderSoFar) → line_done p o n line old made ≡ Ok more → IsLineDone p o n line made more
unfolding line_done line_amount
done p o n line old made more h =
    ok-by (ordered_stock p.warehouse line.ordered old) _ _ h λ stock es hs.
    ok-by (line_amount line) _ _ hs λ amount ea ha.
    let is : ◌≡◌ {A = OrderSoFar} (record {
      changes = insert (insert made.changes (key.Stock line.ordered.supply line.ordered.item) (Some (row.Stock stock))) (key.OrderLine p.warehouse p.district o n) (Some (row.OrderLine (order_line_of p line amount)));
      lines = made.lines ++ (record { stock = stock.quantity; brand = brand_of line; amount = amount }) ∷ [];
    }) more = cc in
    record {
      stock = stock;
      amount = amount;
      is_stock = stock-ordered p.warehouse line.ordered old stock es;
      is_amount = (between-some 0 999999 (line.ordered.quantity * line.item.price) amount (ok_or-ok _ _ _ ea)).1;
      changes = ap (λ (z : OrderSoFar). z.changes) (sym is);
    }

-- ---- one line
-- a stock row and a line put
module _ (cards : Cards) (p m : Rows) (w d o n supply item : ℕ) (stock : StockRow) (line : OrderLineRow) where
  abbrev stock_key : RowKey
  stock_key = key.Stock supply item

  abbrev line_key : RowKey
  line_key = key.OrderLine w d o n

  abbrev m1 : Rows
  m1 = insert m stock_key (row.Stock stock)

  abbrev pub with_line : Rows
  with_line = insert m1 line_key (row.OrderLine line)

  beside : (k l : RowKey) → is_lined k ≡ false → is_lined l ≡ true → k ≡ l → ⊥
  beside k l other own e = (let none : false ≡ true = sym other ∙ ap is_lined e ∙ own in cc)

  two_shares : (f : RowKey → Row → ℤ) → ((k : RowKey) (x : Row) → is_lined k ≡ true → f k x ≡ pos 0) → total f with_line ≡ total f m
  two_shares f none =
      total-same m1 line_key f (row.OrderLine line) (no_share (f line_key) _ (λ x. none line_key x refl) ∙ sym (none line_key (row.OrderLine line) refl))
      ∙ total-same m stock_key f (row.Stock stock) (no_share (f stock_key) _ (λ x. none stock_key x refl) ∙ sym (none stock_key (row.Stock stock) refl))

  still_none : (i : ℕ) → (i ≡ n → ⊥) → get m (key.OrderLine w d o i) ≡ None → get with_line (key.OrderLine w d o i) ≡ None
  still_none i h e =
      apart m1 line_key (row.OrderLine line) (key.OrderLine w d o i) (λ s. h cc)
      ∙ apart m stock_key (row.Stock stock) (key.OrderLine w d o i) (λ s. cc) ∙ e

  one_line : Each cards p m → There cards m → get m line_key ≡ None → IsSome (stock_card cards supply item) → IsStockRow stock → IsOrderLine cards p w d o n line → IsLined cards p m with_line w d 1
  one_line each there none card is_stock is_line = record {
    entries = each-insert cards p m1 line_key (row.OrderLine line) (each-insert cards p m stock_key (row.Stock stock) each (card, is_stock)) is_line;
    there = there-insert cards m1 line_key (row.OrderLine line) (there-insert cards m stock_key (row.Stock stock) there);
    elsewhere = λ k f. apart m1 line_key (row.OrderLine line) k (beside k line_key f refl) ∙ apart m stock_key (row.Stock stock) k (beside k stock_key f refl);
    shares = two_shares;
    lines = λ v e.
        total-new m1 line_key (line_share v e) (row.OrderLine line) (apart m stock_key (row.Stock stock) line_key (λ s. cc) ∙ none)
        ∙ ap (λ z. z +ℤ counted (w == v && d == e) 1) (total-same m stock_key (line_share v e) (row.Stock stock) (no_share (line_share v e stock_key) _ (λ x. refl)));
  }

none_more : (b : Bool) (t : ℤ) → t ≡ t +ℤ counted b 0
none_more true t = omega (arith, ints)
none_more false t = omega (arith, ints)

one_more : (b : Bool) (t u z : ℤ) (n : ℕ) → u ≡ t +ℤ counted b 1 → z ≡ u +ℤ counted b n → z ≡ t +ℤ counted b (n + 1)
one_more true t u z n e f = omega (arith, ints, e, f)
one_more false t u z n e f = omega (arith, ints, e, f)

none_done : (cards : Cards) (p m : Rows) (w d : ℕ) → Each cards p m → There cards m → IsLined cards p m m w d 0
none_done cards p m w d each there = record {
  entries = each;
  there = there;
  elsewhere = λ k f. refl;
  shares = λ f none. refl;
  lines = λ v e. none_more (w == v && d == e) _;
}

-- one line and then more
one_and_more : (cards : Cards) (p m n q : Rows) (w d count : ℕ) → IsLined cards p m n w d 1 → IsLined cards p n q w d count → IsLined cards p m q w d (count + 1)
one_and_more cards p m n q w d count a b = record {
  entries = b.entries;
  there = b.there;
  elsewhere = λ k f. b.elsewhere k f ∙ a.elsewhere k f;
  shares = λ f none. b.shares f none ∙ a.shares f none;
  lines = λ v e. one_more (w == v && d == e) _ _ _ count (a.lines v e) (b.lines v e);
}

-- ---- all lines of an order whose row is in q
module _ (cards : Cards) (q rows : Rows) (p : NewOrder) (o : ℕ) (order : OrderRow) (has : get q (key.Order p.warehouse p.district o) ≡ Some (row.Order order)) where
  line_is : (n : ℕ) (line : LineCards) (amount : ℕ) → IsBetween 1 order.line_count n → IsFound cards p.district line → IsBetween 0 999999 amount → IsOrderLine cards q p.warehouse p.district o n (order_line_of p line amount)
  unfolding order_line_of
  line_is n line amount number found small = (let quantity = found.quantity in let high : line.ordered.quantity ≤ 10 = quantity.1 in record {
    order = order;
    has_order = has;
    number = number;
    stock = found.stock;
    delivery = tt;
    quantity = (omega arith, omega arith);
    amount = small;
    district_info = found.info;
  })

  pub lined : (n : ℕ) (lines : List LineCards) (made last : OrderSoFar) → 1 ≤ n → n + length lines ≤ order.line_count + 1 → AllByRecursion (IsFound cards p.district) lines
      → ((i : ℕ) → n ≤ i → get (after rows made.changes) (key.OrderLine p.warehouse p.district o i) ≡ None) → Each cards q (after rows made.changes) → There cards (after rows made.changes) → lines_done rows p o n lines made ≡ Ok last
      → IsLined cards q (after rows made.changes) (after rows last.changes) p.warehouse p.district (length lines)
  lined n [] made last low few found none each there h =
      let e : made ≡ last = cc in
      subst (λ (z : OrderSoFar). IsLined cards q (after rows made.changes) (after rows z.changes) p.warehouse p.district 0) e (none_done cards q (after rows made.changes) p.warehouse p.district each there)
  lined n (line ∷ lines) made last low few found none each there h =
      ok-by (known (stock_row (after rows made.changes) line.ordered.supply line.ordered.item)) _ _ h λ old e1 h1.
      ok-by (line_done p o n line old made) _ _ h1 λ more e2 h2.
      let f = done p o n line old made more e2 in
      let m = after rows made.changes in
      let x = order_line_of p line f.amount in
      let supply = line.ordered.supply in
      let item = line.ordered.item in
      let next = with_line cards q m p.warehouse p.district o n supply item f.stock x in
      let is : after rows more.changes ≡ next =
      ap (after rows) f.changes
      ∙ after-insert rows _ (key.OrderLine p.warehouse p.district o n) (row.OrderLine x) ∙ ap (λ (z : Rows). insert z (key.OrderLine p.warehouse p.district o n) (row.OrderLine x)) (after-insert rows made.changes (key.Stock supply item) (row.Stock f.stock)) in
      let fits : n ≤ order.line_count = omega arith in
      let one : IsLined cards q m next p.warehouse p.district 1 =
      one_line cards q m p.warehouse p.district o n supply item f.stock x each there (none n (omega arith)) found.0.stock f.is_stock (line_is n line f.amount (low, fits) found.0 f.is_amount) in
      let first : IsLined cards q m (after rows more.changes) p.warehouse p.district 1 = subst (λ (z : Rows). IsLined cards q m z p.warehouse p.district 1) (sym is) one in
      let rest : IsLined cards q (after rows more.changes) (after rows last.changes) p.warehouse p.district (length lines) = lined (n + 1) lines more last (omega arith) (omega arith) found.1 (λ i le.
      let ne : i ≡ n → ⊥ = λ e. omega arith in
      let from : n ≤ i = omega arith in
      ap (λ (z : Rows). get z (key.OrderLine p.warehouse p.district o i)) is ∙ still_none cards q m p.warehouse p.district o n supply item f.stock x i ne (none i from)) first.entries first.there h2 in
      subst (IsLined cards q m (after rows last.changes) p.warehouse p.district) (omega arith) (one_and_more cards q m (after rows more.changes) (after rows last.changes) p.warehouse p.district (length lines) first rest)
