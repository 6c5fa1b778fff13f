-- A found order by its parts.
use Rattle.std.proofs.Common.{◌≡◌, ◌≤◌, ◌+◌, ℕ, zero, suc, List, [], ◌++◌, length, Option, Some, None, Result, Ok, Err, refl, sym, ap, ap₂, ◌∙◌, add-one, arith}
use Rattle.std.specs.List.{sum_by}
use Rattle.std.proofs.lemmas.List.{append-nil, length-append}
use Rattle.std.proofs.lemmas.List.Sums.{sum_by_push}
use Rattle.requests.specs.declared.request.Delivery.{Delivery}
use Rattle.requests.specs.declared.reply.RequestRefusal.{RequestRefusal}
use Rattle.requests.specs.declared.reply.RequestRefusal.TheVariants.{UnknownKey}
use Rattle.tpcc_model.specs.Deliveries.{amount_of, lines_amount}
use Rattle.tpcc_model.specs.Staging.{◌>>=◌, known}
use Rattle.tpcc_rows.specs.Rows.{order_line_row, order_row}
use Rattle.tpcc_rows.specs.RowMap.{Rows}
use Rattle.tpcc_rows.specs.declared.row.CustomerRow.{CustomerRow}
use Rattle.tpcc_rows.specs.declared.row.OrderLineRow.{OrderLineRow}
use Rattle.tpcc_rows.specs.declared.row.OrderRow.{OrderRow}
use Rattle.transactions.specs.DeliveryParts.{credited_customer, dated_lines, found_order, found_with, one_dated}
use Rattle.transactions.specs.declared.delivery.DatedLine.{DatedLine}

-- ---- the lines
abbrev pub sum_of : List DatedLine → ℕ
sum_of lines = sum_by (λ line. line.row.amount) lines

one_more : (moment n : ℕ) (lines : List DatedLine) (line : Option OrderLineRow) → sum_of (lines ++ one_dated moment n line) ≡ sum_of lines + amount_of line
one_more moment n lines None = ap sum_of (append-nil lines) ∙ (let e : sum_of lines ≡ sum_of lines + 0 = omega arith in e)
one_more moment n lines (Some line) = sum_by_push (λ (line : DatedLine). line.row.amount) lines _

-- what the dated lines come to is what the order's lines do
pub amounts-dated : (rows : Rows) (p : Delivery) (moment d o n : ℕ) → sum_of (dated_lines rows p moment d o n) ≡ lines_amount rows p d o n
unfolding dated_lines lines_amount
amounts-dated rows p moment d o zero = refl
amounts-dated rows p moment d o (suc n) =
    one_more moment (suc n) (dated_lines rows p moment d o n) (order_line_row rows p.warehouse d o (suc n))
    ∙ ap (λ sum. sum + amount_of (order_line_row rows p.warehouse d o (suc n))) (amounts-dated rows p moment d o n)

one_at_most : (moment n : ℕ) (lines : List DatedLine) (line : Option OrderLineRow) → length (lines ++ one_dated moment n line) ≤ length lines + 1
one_at_most moment n lines None = let e = length-append lines [] in omega (arith, e)
one_at_most moment n lines (Some line) = let e = length-append lines (one_dated moment n (Some line)) in omega (arith, e)

pub dated-few : (rows : Rows) (p : Delivery) (moment d o n : ℕ) → length (dated_lines rows p moment d o n) ≤ n
unfolding dated_lines
dated-few rows p moment d o zero = omega arith
dated-few rows p moment d o (suc n) =
    let more = one_at_most moment (suc n) (dated_lines rows p moment d o n) (order_line_row rows p.warehouse d o (suc n)) in
    let so_far = dated-few rows p moment d o n in
    omega (arith, more, so_far)

-- one line more
pub dated-more : (rows : Rows) (p : Delivery) (moment d o n number : ℕ) (before now : List DatedLine) (line : Option OrderLineRow) → number ≡ n + 1 → line ≡ order_line_row rows p.warehouse d o number → before ≡ dated_lines rows p moment d o n
    → now ≡ before ++ one_dated moment number line → now ≡ dated_lines rows p moment d o (n + 1)
unfolding dated_lines
dated-more rows p moment d o n number before now line same is so_far one =
    one
    ∙ ap₂ (λ (b : List DatedLine) (l : Option OrderLineRow). b ++ one_dated moment number l) so_far is
    ∙ ap (λ k. dated_lines rows p moment d o n ++ one_dated moment k (order_line_row rows p.warehouse d o k)) (same ∙ add-one n)
    ∙ sym (ap (dated_lines rows p moment d o) (add-one n))

-- ---- the order and its customer
module _ (rows : Rows) (p : Delivery) (moment d o : ℕ) where
  pub at_order : (order : OrderRow) → order_row rows p.warehouse d o ≡ Some order
      → found_order rows p moment d o ≡ (credited_customer rows p d order.customer (lines_amount rows p d o order.line_count) >>= λ customer. Ok (found_with rows p moment d o order customer))
  unfolding found_order
  at_order order at =
      ap (λ (found : Option OrderRow). known found >>= λ (order : OrderRow). credited_customer rows p d order.customer (lines_amount rows p d o order.line_count) >>= λ customer. Ok (found_with rows p moment d o order customer)) at

  pub unknown : order_row rows p.warehouse d o ≡ None → found_order rows p moment d o ≡ Err UnknownKey
  unfolding found_order
  unknown at =
      ap (λ (found : Option OrderRow). known found >>= λ (order : OrderRow). credited_customer rows p d order.customer (lines_amount rows p d o order.line_count) >>= λ customer. Ok (found_with rows p moment d o order customer)) at

  module _ (order : OrderRow) (lines : List DatedLine) (amount : ℕ) (at : order_row rows p.warehouse d o ≡ Some order) (dated : lines ≡ dated_lines rows p moment d o order.line_count) (sum : amount ≡ sum_of lines) where
    with_amount : found_order rows p moment d o ≡ (credited_customer rows p d order.customer amount >>= λ customer. Ok (found_with rows p moment d o order customer))
    with_amount =
        at_order order at
        ∙ ap (λ n. credited_customer rows p d order.customer n >>= λ customer. Ok (found_with rows p moment d o order customer)) (sym (sum ∙ ap sum_of dated ∙ amounts-dated rows p moment d o order.line_count))

    pub finds : (customer : CustomerRow) → credited_customer rows p d order.customer amount ≡ Ok customer → found_order rows p moment d o ≡ Ok (found_with rows p moment d o order customer)
    finds customer is = with_amount ∙ ap (λ (made : Result CustomerRow RequestRefusal). made >>= λ customer. Ok (found_with rows p moment d o order customer)) is

    pub refuses : (why : RequestRefusal) → credited_customer rows p d order.customer amount ≡ Err why → found_order rows p moment d o ≡ Err why
    refuses why is = with_amount ∙ ap (λ (made : Result CustomerRow RequestRefusal). made >>= λ customer. Ok (found_with rows p moment d o order customer)) is
