use Rattle.std.proofs.Common.{◌≡◌, ◌<◌, ◌+◌, ℕ, suc, List, ◌∷◌, drop, get_or, length, map, Some, ap, ap₂, sym, subst, ◌∙◌, add-one}
use Rattle.std.proofs.lemmas.List.{get_or-map, length-map}
use Rattle.std.proofs.Math.Seq.{drop-cons}
use Rattle.std.specs.FinMap.{insert}
use Rattle.requests.specs.declared.request.NewOrder.{NewOrder}
use Rattle.requests.specs.declared.reply.LineReply.{LineReply}
use Rattle.tpcc_model.specs.NewOrders.{order_line_of}
use Rattle.tpcc_rows.specs.RowMap.{Changes}
use Rattle.tpcc_rows.specs.declared.key.RowKey.TheVariants as key
use Rattle.tpcc_rows.specs.declared.row.Row.TheVariants as row
use Rattle.tpcc_rows.specs.declared.row.OrderLineRow.{OrderLineRow}
use Rattle.transactions.specs.NewOrderParts.{amount_of, line_cards_of, with_lines}
use Rattle.transactions.specs.declared.order_line.LineCards.{LineCards}
use Rattle.transactions.proofs.new_order.put_lines.Goals as goal

-- a line and the reply to it
same_amount : (replies : List LineReply) (lines : List LineCards) (i : ℕ) (reply : LineReply) (line : LineCards) → map (λ reply. reply.amount) replies ≡ map amount_of (map line_cards_of lines)
    → i < length lines → i < length replies → line ≡ get_or lines i line → (get_or replies i reply).amount ≡ amount_of (line_cards_of line)
same_amount replies lines i reply line amounts below below_replies is =
    let below_cards : i < length (map line_cards_of lines) = subst (λ n. i < n) (sym (length-map lines line_cards_of)) below in
    sym (get_or-map (λ (r : LineReply). r.amount) replies i reply 0 below_replies)
    ∙ ap (λ ns. get_or ns i 0) amounts
    ∙ get_or-map amount_of (map line_cards_of lines) i (line_cards_of line) 0 below_cards
    ∙ ap amount_of (get_or-map line_cards_of lines i line (line_cards_of line) below)
    ∙ ap (λ (l : LineCards). amount_of (line_cards_of l)) (sym is)

as_many : (replies : List LineReply) (lines : List LineCards) → map (λ reply. reply.amount) replies ≡ map amount_of (map line_cards_of lines) → length lines ≡ length replies
as_many replies lines amounts =
    sym (length-map lines line_cards_of) ∙ sym (length-map (map line_cards_of lines) amount_of) ∙ sym (ap length amounts) ∙ length-map replies (λ (r : LineReply). r.amount)

-- one line less to put
with_lines-drop : (p : NewOrder) (o n number : ℕ) → number ≡ n → (lines : List LineCards) (i : ℕ) (line : LineCards) → i < length lines → line ≡ get_or lines i line → (amount : ℕ) → amount ≡ amount_of (line_cards_of line)
    → (line_row : OrderLineRow) → line_row ≡ order_line_of p (line_cards_of line) amount → (changes : Changes)
    → with_lines p o (n + 1) (map line_cards_of (drop (i + 1) lines)) (insert changes (key.OrderLine p.warehouse p.district o number) (Some (row.OrderLine line_row))) ≡ with_lines p o n (map line_cards_of (drop i lines)) changes
with_lines-drop p o n number same lines i line below is amount its line_row row_is changes =
    let here : drop i lines ≡ line ∷ drop (suc i) lines = drop-cons lines i line below ∙ ap (λ (x : LineCards). x ∷ drop (suc i) lines) (sym is) in
    ap (λ k. with_lines p o (n + 1) (map line_cards_of (drop k lines)) (insert changes (key.OrderLine p.warehouse p.district o number) (Some (row.OrderLine line_row)))) (add-one i)
    ∙ ap (with_lines p o (n + 1) (map line_cards_of (drop (suc i) lines))) (ap₂ (λ (k : ℕ) (r : OrderLineRow). insert changes (key.OrderLine p.warehouse p.district o k) (Some (row.OrderLine r))) same (row_is ∙ ap (order_line_of p (line_cards_of line)) its))
    ∙ sym (ap (λ (ls : List LineCards). with_lines p o n (map line_cards_of ls) changes) here)

pub loop-index-preserved : goal.loop-index-preserved
loop-index-preserved g c =
    let below = c.loop-index-test.true in
    let below_replies = subst (λ n. c.loop-index.index < n) (as_many c.args.replies.now c.args.lines.now c.requires.amounts) below in
    let amount = same_amount c.args.replies.now c.args.lines.now c.loop-index.index c.index-replies-index.result c.index-lines-index.result c.requires.amounts below below_replies c.index-lines-index.is in (
      λ rows changes stood. (
          let (now, stands, leads) = c.loop-index.invariant.0 rows changes stood in
          (_, c.in_ok-put_new.ensures.made rows now stands, with_lines-drop _ _ _ _ c.line_number.ensures _ _ c.index-lines-index.result below c.index-lines-index.is _ amount _ c.order_line_of-line_row.ensures now ∙ leads)
          ),
      λ first keeps. c.in_ok-put_new.ensures.kept first (c.loop-index.invariant.1 first keeps),
    )
