-- A district's delivery reads no key that another district's writes, nor one that it has written itself. So reading all districts first finds what
-- reading each on the rows that the earlier ones leave does.
use Rattle.std.proofs.Common.{◌≡◌, ◌≤◌, ◌<◌, ◌+◌, ℕ, zero, suc, List, [], ◌∷◌, ◌++◌, Option, Some, None, Result, Ok, Err, refl, sym, ap, ap₂, ◌∙◌, arith}
use Rattle.std.specs.FinMap.{get, insert, empty, get-empty}
use Rattle.std.specs.List.{range_with_len}
use Rattle.std.specs.Prelude.{option_and_then}
use Rattle.requests.specs.declared.request.Delivery.{Delivery}
use Rattle.requests.specs.declared.reply.RequestRefusal.{RequestRefusal}
use Rattle.tpcc_model.specs.Deliveries.{amount_of, carried, credited, districts_delivered, line_dated, lines_amount, lines_dated, oldest_delivered, order_delivered}
use Rattle.tpcc_model.specs.Staging.{◌>>=◌, for_each, known}
use Rattle.tpcc_rows.specs.Changing.{after}
use Rattle.tpcc_rows.specs.Limits.{ten}
use Rattle.tpcc_rows.specs.Picks.{oldest}
use Rattle.tpcc_rows.specs.RowKinds.{as_customer, as_order, as_order_line}
use Rattle.tpcc_rows.specs.RowMap.{Changes, Rows, row_key_cmp}
use Rattle.tpcc_rows.specs.Rows.{customer_row, order_line_row, order_row}
use Rattle.tpcc_rows.specs.declared.key.RowKey.{RowKey}
use Rattle.tpcc_rows.specs.declared.key.RowKey.TheVariants as key
use Rattle.tpcc_rows.specs.declared.row.Row.{Row}
use Rattle.tpcc_rows.specs.declared.row.Row.TheVariants as row
use Rattle.tpcc_rows.specs.declared.row.CustomerRow.{CustomerRow}
use Rattle.tpcc_rows.specs.declared.row.OrderLineRow.{OrderLineRow}
use Rattle.tpcc_rows.specs.declared.row.OrderRow.{OrderRow}
use Rattle.tpcc_rows.proofs.Changes.{chosen, get-after}
use Rattle.tpcc_rows.proofs.Keys.{exact_keys, row_key_cmp_total}
use Rattle.tpcc_rows.proofs.Singles.{apart}
use Rattle.transactions.specs.DeliveryParts.{FoundOrder, carried_as, credited_customer, dated_lines, found_district, found_oldest, found_order, found_with, line_written, lines_written, oldest_written, one_dated, order_written, orders_written}
use Rattle.transactions.specs.declared.delivery.DatedLine.{DatedLine}
use Rattle.tpcc_laws.proofs.Doing.{ok-by}

-- another key's change
elsewhere : (changes : Changes) (k : RowKey) (x : Option Row) (q : RowKey) → (q ≡ k → ⊥) → get (insert changes k x) q ≡ get changes q
elsewhere changes k x q other = apart row_key_cmp_total exact_keys changes k x q other

-- a row that isn't changed
unchanged : (rows : Rows) (changes : Changes) (q : RowKey) → get changes q ≡ None → get (after rows changes) q ≡ get rows q
unchanged rows changes q none = get-after rows changes q ∙ ap (λ o. chosen o (get rows q)) none

-- ---- changes that leave a district's orders, lines and customers
pub record IsFree (w d : ℕ) (changes : Changes) : Type 0 where
  pub orders : (o : ℕ) → get changes (key.Order w d o) ≡ None
  pub customers : (c : ℕ) → get changes (key.Customer w d c) ≡ None
  pub lines : (o n : ℕ) → get changes (key.OrderLine w d o n) ≡ None

pub free-empty : (w d : ℕ) → IsFree w d empty
free-empty w d = record {
  orders = λ o. get-empty row_key_cmp (key.Order w d o);
  customers = λ c. get-empty row_key_cmp (key.Customer w d c);
  lines = λ o n. get-empty row_key_cmp (key.OrderLine w d o n);
}

-- ---- the lines of one order
module _ (rows : Rows) (p : Delivery) (moment d o : ℕ) where
  one_untouched : (k : RowKey) (line : Option OrderLineRow) (changes : Changes) (q : RowKey) → (q ≡ k → ⊥) → get (line_dated moment k line changes) q ≡ get changes q
  one_untouched k None changes q other = refl
  one_untouched k (Some line) changes q other = elsewhere changes k _ q other

  -- the lines after these are left
  lines_untouched : (n m : ℕ) → n < m → (changes : Changes) → get (lines_dated rows p moment d o n changes) (key.OrderLine p.warehouse d o m) ≡ get changes (key.OrderLine p.warehouse d o m)
  unfolding lines_dated
  lines_untouched zero m below changes = refl
  lines_untouched (suc n) m below changes =
      let other : key.OrderLine p.warehouse d o m ≡ key.OrderLine p.warehouse d o (suc n) → ⊥ = λ same. let e : m ≡ suc n = cc in absurd (omega arith) in
      one_untouched (key.OrderLine p.warehouse d o (suc n)) _ (lines_dated rows p moment d o n changes) (key.OrderLine p.warehouse d o m) other
      ∙ lines_untouched n m (omega arith) changes

  lines_append : (w : ℕ) (xs ys : List DatedLine) (changes : Changes) → lines_written w d o (xs ++ ys) changes ≡ lines_written w d o ys (lines_written w d o xs changes)
  lines_append w [] ys changes = refl
  lines_append w (x ∷ xs) ys changes = lines_append w xs ys (line_written w d o x changes)

  one_line : (w n : ℕ) (line : Option OrderLineRow) (changes : Changes) → line_dated moment (key.OrderLine w d o n) line changes ≡ lines_written w d o (one_dated moment n line) changes
  one_line w n None changes = refl
  one_line w n (Some line) changes = refl

  -- dating each line on the rows that the earlier ones leave writes the lines that were found
  lines_as_found : (n : ℕ) (changes : Changes) → ((m : ℕ) → get changes (key.OrderLine p.warehouse d o m) ≡ None)
      → lines_dated rows p moment d o n changes ≡ lines_written p.warehouse d o (dated_lines rows p moment d o n) changes
  unfolding lines_dated dated_lines
  lines_as_found zero changes free = refl
  lines_as_found (suc n) changes free =
      let k = key.OrderLine p.warehouse d o (suc n) in
      let earlier = lines_dated rows p moment d o n changes in
      let found = order_line_row rows p.warehouse d o (suc n) in
      let same : order_line_row (after rows earlier) p.warehouse d o (suc n) ≡ found =
      ap (option_and_then as_order_line) (unchanged rows earlier k (lines_untouched n (suc n) (omega arith) changes ∙ free (suc n))) in
      ap (λ (line : Option OrderLineRow). line_dated moment k line earlier) same
      ∙ one_line p.warehouse (suc n) found earlier
      ∙ ap (lines_written p.warehouse d o (one_dated moment (suc n) found)) (lines_as_found n changes free)
      ∙ sym (lines_append p.warehouse (dated_lines rows p moment d o n) (one_dated moment (suc n) found) changes)

-- ---- one order
module _ (rows : Rows) (p : Delivery) (moment d o : ℕ) (changes : Changes) (free : IsFree p.warehouse d changes) where
  same_order : order_row (after rows changes) p.warehouse d o ≡ order_row rows p.warehouse d o
  same_order = ap (option_and_then as_order) (unchanged rows changes (key.Order p.warehouse d o) (free.orders o))

  same_customer : (c : ℕ) → customer_row (after rows changes) p.warehouse d c ≡ customer_row rows p.warehouse d c
  same_customer c = ap (option_and_then as_customer) (unchanged rows changes (key.Customer p.warehouse d c) (free.customers c))

  same_amount : (n : ℕ) → lines_amount (after rows changes) p d o n ≡ lines_amount rows p d o n
  unfolding lines_amount
  same_amount zero = refl
  same_amount (suc n) =
      ap₂ (λ a b. a + amount_of b) (same_amount n) (ap (option_and_then as_order_line) (unchanged rows changes (key.OrderLine p.warehouse d o (suc n)) (free.lines o (suc n))))

  -- what is written of a found order is what the definition writes
  written_as_found : (order : OrderRow) (customer : CustomerRow)
      → insert (lines_dated rows p moment d o order.line_count (carried p d o order changes)) (key.Customer p.warehouse d order.customer) (Some (row.Customer customer))
      ≡ order_written p.warehouse (found_with rows p moment d o order customer) changes
  unfolding order_written carried carried_as
  written_as_found order customer =
      let new = insert changes (key.NewOrder p.warehouse d o) None in
      let line : ℕ → RowKey = λ n. key.OrderLine p.warehouse d o n in
      let left : (n : ℕ) → get (carried p d o order changes) (line n) ≡ None = λ n.
      elsewhere new (key.Order p.warehouse d o) _ (line n) (λ same. cc) ∙ elsewhere changes (key.NewOrder p.warehouse d o) None (line n) (λ same. cc) ∙ free.lines o n in
      ap (λ c. insert c (key.Customer p.warehouse d order.customer) (Some (row.Customer customer))) (lines_as_found rows p moment d o order.line_count (carried p d o order changes) left)

  credited_as_found : (order : OrderRow) (made : Result CustomerRow RequestRefusal)
      → (made >>= λ customer. Ok (insert (lines_dated rows p moment d o order.line_count (carried p d o order changes)) (key.Customer p.warehouse d order.customer) (Some (row.Customer customer))))
      ≡ ((made >>= λ customer. Ok (found_with rows p moment d o order customer)) >>= λ found. Ok (order_written p.warehouse found changes))
  credited_as_found order (Ok customer) = ap Ok (written_as_found order customer)
  credited_as_found order (Err why) = refl

  customer_as_found : (order : OrderRow) (old : Option CustomerRow) (amount : ℕ)
      → (known old >>= λ was. credited was amount >>= λ customer. Ok (insert (lines_dated rows p moment d o order.line_count (carried p d o order changes)) (key.Customer p.warehouse d order.customer) (Some (row.Customer customer))))
      ≡ (((known old >>= λ was. credited was amount) >>= λ customer. Ok (found_with rows p moment d o order customer)) >>= λ found. Ok (order_written p.warehouse found changes))
  customer_as_found order None amount = refl
  customer_as_found order (Some old) amount = credited_as_found order (credited old amount)

  found_as : (found : Option OrderRow)
      → (known found >>= λ (order : OrderRow). known (customer_row (after rows changes) p.warehouse d order.customer) >>= λ was. credited was (lines_amount (after rows changes) p d o order.line_count)
      >>= λ customer. Ok (insert (lines_dated rows p moment d o order.line_count (carried p d o order changes)) (key.Customer p.warehouse d order.customer) (Some (row.Customer customer))))
      ≡ ((known found >>= λ (order : OrderRow). (known (customer_row rows p.warehouse d order.customer) >>= λ was. credited was (lines_amount rows p d o order.line_count))
      >>= λ customer. Ok (found_with rows p moment d o order customer)) >>= λ found. Ok (order_written p.warehouse found changes))
  found_as None = refl
  found_as (Some order) =
      ap₂ (λ (old : Option CustomerRow) (amount : ℕ). known old >>= λ was. credited was amount
      >>= λ customer. Ok (insert (lines_dated rows p moment d o order.line_count (carried p d o order changes)) (key.Customer p.warehouse d order.customer) (Some (row.Customer customer))))
      (same_customer order.customer) (same_amount order.line_count)
      ∙ customer_as_found order (customer_row rows p.warehouse d order.customer) (lines_amount rows p d o order.line_count)

  pub order_as_found : order_delivered rows p moment d o changes ≡ (found_order rows p moment d o >>= λ found. Ok (order_written p.warehouse found changes))
  unfolding order_delivered found_order credited_customer
  order_as_found =
      ap (λ (found : Option OrderRow). known found >>= λ (order : OrderRow). known (customer_row (after rows changes) p.warehouse d order.customer) >>= λ was. credited was (lines_amount (after rows changes) p d o order.line_count)
      >>= λ customer. Ok (insert (lines_dated rows p moment d o order.line_count (carried p d o order changes)) (key.Customer p.warehouse d order.customer) (Some (row.Customer customer)))) same_order
      ∙ found_as (order_row rows p.warehouse d o)

-- ---- another district's keys
pub record IsOther (w d : ℕ) (q : RowKey) : Type 0 where
  pub new_order : (o : ℕ) → q ≡ key.NewOrder w d o → ⊥
  pub order : (o : ℕ) → q ≡ key.Order w d o → ⊥
  pub line : (o n : ℕ) → q ≡ key.OrderLine w d o n → ⊥
  pub customer : (c : ℕ) → q ≡ key.Customer w d c → ⊥

lines_leave : (w d o : ℕ) (lines : List DatedLine) (q : RowKey) (other : IsOther w d q) (changes : Changes) → get (lines_written w d o lines changes) q ≡ get changes q
lines_leave w d o [] q other changes = refl
lines_leave w d o (line ∷ lines) q other changes =
    lines_leave w d o lines q other (line_written w d o line changes) ∙ elsewhere changes (key.OrderLine w d o line.number) _ q (other.line o line.number)

order_leaves : (w : ℕ) (found : FoundOrder) (q : RowKey) (other : IsOther w found.district q) (changes : Changes) → get (order_written w found changes) q ≡ get changes q
unfolding order_written carried_as
order_leaves w found q other changes =
    let d = found.district in
    let o = found.order in
    let new = insert changes (key.NewOrder w d o) None in
    elsewhere _ (key.Customer w d found.row.customer) _ q (other.customer found.row.customer)
    ∙ lines_leave w d o found.lines q other (carried_as w d o found.row changes)
    ∙ elsewhere new (key.Order w d o) _ q (other.order o)
    ∙ elsewhere changes (key.NewOrder w d o) None q (other.new_order o)

module _ (w d e : ℕ) (apart : e ≡ d → ⊥) where
  other_order : (o : ℕ) → IsOther w d (key.Order w e o)
  other_order o = record { new_order = λ n same. cc; order = λ n same. apart cc; line = λ n m same. cc; customer = λ c same. cc }

  other_customer : (c : ℕ) → IsOther w d (key.Customer w e c)
  other_customer c = record { new_order = λ n same. cc; order = λ n same. cc; line = λ n m same. cc; customer = λ b same. apart cc }

  other_line : (o n : ℕ) → IsOther w d (key.OrderLine w e o n)
  other_line o n = record { new_order = λ m same. cc; order = λ m same. cc; line = λ b m same. apart cc; customer = λ c same. cc }

-- an order leaves the other districts
stays_free : (w e : ℕ) (found : FoundOrder) (apart : e ≡ found.district → ⊥) (changes : Changes) → IsFree w e changes → IsFree w e (order_written w found changes)
stays_free w e found apart changes free = record {
  orders = λ o. order_leaves w found (key.Order w e o) (other_order w found.district e apart o) changes ∙ free.orders o;
  customers = λ c. order_leaves w found (key.Customer w e c) (other_customer w found.district e apart c) changes ∙ free.customers c;
  lines = λ o n. order_leaves w found (key.OrderLine w e o n) (other_line w found.district e apart o n) changes ∙ free.lines o n;
}

-- ---- one district after the other
module _ (rows : Rows) (p : Delivery) (moment : ℕ) where
  in_place : (d o : ℕ) (found : FoundOrder) → found_order rows p moment d o ≡ Ok found → found.district ≡ d
  unfolding found_order
  in_place d o found is =
      ok-by (known (order_row rows p.warehouse d o)) _ _ is λ order at more.
      ok-by (credited_customer rows p d order.customer (lines_amount rows p d o order.line_count)) _ _ more λ customer made done.
      let same : found_with rows p moment d o order customer ≡ found = cc in
      sym (ap (λ (f : FoundOrder). f.district) same)

  put_in_front : (left : Result (List (Option FoundOrder)) RequestRefusal) (found : Option FoundOrder) (changes : Changes)
      → (left >>= λ more. Ok (orders_written p.warehouse more (oldest_written p.warehouse found changes))) ≡ ((left >>= λ more. Ok (found ∷ more)) >>= λ all. Ok (orders_written p.warehouse all changes))
  put_in_front (Ok more) found changes = refl
  put_in_front (Err why) found changes = refl

  -- the districts that are left, after a first one
  module _ (d : ℕ) (ds : List ℕ) (changes : Changes) (free : (e : ℕ) → d ≤ e → IsFree p.warehouse e changes)
      (others : (more : Changes) → ((e : ℕ) → d + 1 ≤ e → IsFree p.warehouse e more)
      → districts_delivered rows p moment ds more ≡ (for_each (found_district rows p moment) ds >>= λ found. Ok (orders_written p.warehouse found more))) where
    by_order : (o : ℕ) (made : Result FoundOrder RequestRefusal) → found_order rows p moment d o ≡ made
        → ((made >>= λ found. Ok (order_written p.warehouse found changes)) >>= λ more. districts_delivered rows p moment ds more)
        ≡ (((made >>= λ found. Ok (Some found)) >>= λ found. for_each (found_district rows p moment) ds >>= λ more. Ok (found ∷ more)) >>= λ all. Ok (orders_written p.warehouse all changes))
    by_order o (Err why) is = refl
    by_order o (Ok found) is =
        let place = in_place d o found is in
        others (order_written p.warehouse found changes)
        (λ e from. stays_free p.warehouse e found (λ same. absurd (omega (arith, from, same, place))) changes (free e (omega (arith, from))))
        ∙ put_in_front (for_each (found_district rows p moment) ds) (Some found) changes

    by_oldest : (o : Option ℕ)
        → (oldest_delivered rows p moment d o changes >>= λ more. districts_delivered rows p moment ds more)
        ≡ ((found_oldest rows p moment d o >>= λ found. for_each (found_district rows p moment) ds >>= λ more. Ok (found ∷ more)) >>= λ all. Ok (orders_written p.warehouse all changes))
    by_oldest None = others changes (λ e from. free e (omega (arith, from))) ∙ put_in_front (for_each (found_district rows p moment) ds) None changes
    by_oldest (Some o) =
        ap (λ (r : Result Changes RequestRefusal). r >>= λ more. districts_delivered rows p moment ds more) (order_as_found rows p moment d o changes (free d (omega arith)))
        ∙ by_order o (found_order rows p moment d o) refl

  as_found : (n d : ℕ) (changes : Changes) → ((e : ℕ) → d ≤ e → IsFree p.warehouse e changes)
      → districts_delivered rows p moment (range_with_len d n) changes ≡ (for_each (found_district rows p moment) (range_with_len d n) >>= λ found. Ok (orders_written p.warehouse found changes))
  unfolding districts_delivered
  as_found zero d changes free = refl
  as_found (suc n) d changes free = by_oldest d (range_with_len (d + 1) n) changes free (λ more stays. as_found n (d + 1) more stays) (oldest rows p.warehouse d)

  -- all that is found on the rows before the delivery is what the definition delivers in turn
  pub ten_as_found : districts_delivered rows p moment ten empty ≡ (for_each (found_district rows p moment) ten >>= λ found. Ok (orders_written p.warehouse found empty))
  ten_as_found = as_found 10 1 empty (λ e from. free-empty p.warehouse e)
