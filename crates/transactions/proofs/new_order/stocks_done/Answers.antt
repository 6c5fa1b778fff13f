use Rattle.std.proofs.Common.{◌≡◌, ◌<◌, ◌+◌, ℕ, suc, List, ◌∷◌, drop, get_or, length, map, Option, Some, Ok, ap, sym, ◌∙◌, add-one}
use Rattle.std.proofs.Math.Seq.{drop-cons}
use Rattle.requests.specs.declared.request.NewOrder.{NewOrder}
use Rattle.tpcc_model.specs.NewOrders as model
use Rattle.tpcc_model.specs.Staging.{◌>>=◌, known}
use Rattle.tpcc_rows.specs.Changing.{after}
use Rattle.tpcc_rows.specs.RowMap.{Rows}
use Rattle.tpcc_rows.specs.Rows.{stock_row}
use Rattle.tpcc_rows.specs.declared.row.StockRow.{StockRow}
use Rattle.transactions.specs.NewOrderParts.{line_cards_of, stock_changes, stock_done, stocks_done}
use Rattle.transactions.specs.declared.new_order.NewStock.{NewStock}
use Rattle.transactions.specs.declared.order_line.LineCards.{LineCards}
use Rattle.transactions.proofs.new_order.stocks_done.Goals as goal

-- one line less to do
stocks_done-drop : (rows : Rows) (p : NewOrder) (lines : List LineCards) (i : ℕ) (line : LineCards) (old : StockRow) (order more : model.OrderSoFar) → i < length lines → line ≡ get_or lines i line
    → stock_row (after rows order.changes) line.ordered.now.supply line.ordered.now.item ≡ Some old → stock_done p (line_cards_of line) old order ≡ Ok more
    → stocks_done rows p (map line_cards_of (drop (i + 1) lines)) more ≡ stocks_done rows p (map line_cards_of (drop i lines)) order
stocks_done-drop rows p lines i line old order more below is stock done =
    let here : drop i lines ≡ line ∷ drop (suc i) lines = drop-cons lines i line below ∙ ap (λ (x : LineCards). x ∷ drop (suc i) lines) (sym is) in
    ap (λ k. stocks_done rows p (map line_cards_of (drop k lines)) more) (add-one i)
    ∙ sym (ap (λ (ls : List LineCards). stocks_done rows p (map line_cards_of ls) order) here
    ∙ ap (λ s. known s >>= λ row. stock_done p (line_cards_of line) row order >>= λ m. stocks_done rows p (map line_cards_of (drop (suc i) lines)) m) stock
    ∙ ap (λ r. r >>= λ m. stocks_done rows p (map line_cards_of (drop (suc i) lines)) m) done)

-- a stock that was found among these
seen : (rows : Rows) (looked_at stocks : List NewStock) (w i : ℕ) (found : Option StockRow) (old : StockRow) → looked_at ≡ stocks → found ≡ stock_row (after rows (stock_changes looked_at)) w i → found ≡ Some old
    → stock_row (after rows (stock_changes stocks)) w i ≡ Some old
seen rows looked_at stocks w i found old same is there = ap (λ (xs : List NewStock). stock_row (after rows (stock_changes xs)) w i) (sym same) ∙ sym is ∙ there

pub loop-line-preserved : goal.loop-line-preserved
loop-line-preserved g c = (
  stocks_done-drop _ _ _ _ c.line-item.result _ _ _ c.loop-line-test.true c.line-item.is (seen _ _ _ _ _ _ _ c.as_slice.ensures.value c.stock_now-row.ensures c.in_ok-old.ensures.ok_part)
      (sym c.in_ok-stock_done.ensures.answer) ∙ c.loop-line.invariant.0,
  c.in_ok-stock_done.ensures.one_stock ∙ ap (λ n. n + 1) c.loop-line.invariant.1,
  c.in_ok-stock_done.ensures.one_line ∙ ap (λ n. n + 1) c.loop-line.invariant.2,
)
