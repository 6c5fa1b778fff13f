use Rattle.std.proofs.Common.{◌≡◌, List, map, Result, Ok, Err, ap, sym, ◌∙◌}
use Rattle.std.specs.Result.{IsErrAnd}
use Rattle.requests.specs.declared.reply.RequestRefusal.{RequestRefusal}
use Rattle.requests.specs.declared.request.NewOrder.{NewOrder}
use Rattle.tpcc_model.specs.NewOrders as model
use Rattle.tpcc_rows.specs.RowMap.{Rows}
use Rattle.transactions.specs.NewOrderParts.{line_cards_of, so_far_of, stock_changes, stocks_done}
use Rattle.transactions.specs.Outcomes.{viewed}
use Rattle.transactions.specs.declared.order_line.LineCards.{LineCards}
use Rattle.transactions.proofs.PlacedOrders.{placed-amounts, placed-refused, placed-well}
use Rattle.transactions.proofs.new_order.placed.Goals as goal

-- what the stocks' stage answered
staged : (rows : Rows) (p : NewOrder) (given lines : List LineCards) (made : model.OrderSoFar) (answer : Result model.OrderSoFar RequestRefusal) → given ≡ lines → answer ≡ stocks_done rows p (map line_cards_of given) made
    → stocks_done rows p (map line_cards_of lines) made ≡ answer
staged rows p given lines made answer same is = ap (λ (ls : List LineCards). stocks_done rows p (map line_cards_of ls) made) (sym same) ∙ sym is

refusal_by : {A B : Type 0} (view : A → B) (result : Result A RequestRefusal) (why : RequestRefusal) → IsErrAnd result (λ e. e ≡ why) → viewed view result ≡ Err why
refusal_by view (Ok x) why by = absurd by
refusal_by view (Err e) why by = ap Err by

pub returns-in_err-stocks_done-clause-answer : goal.returns-in_err-stocks_done-clause-answer
returns-in_err-stocks_done-clause-answer g c =
    refusal_by _ _ _ c.from_residual.ensures.1
    ∙ sym (placed-refused _ c.args.p.now c.args.order c.args.moment c.args.next_row (map line_cards_of c.args.lines.items) (so_far_of (record { stocks = c.new.result; lines = c.new-2.result })) (ap stock_changes c.new.ensures) c.new-2.ensures _
    (staged _ _ _ _ _ _ c.deref.ensures.value c.in_err-stocks_done.ensures))

pub returns-clause-answer : goal.returns-clause-answer
returns-clause-answer g c =
    sym (placed-well _ c.args.p.now c.args.order c.args.moment c.args.next_row (map line_cards_of c.args.lines.items) (so_far_of (record { stocks = c.new.result; lines = c.new-2.result })) (ap stock_changes c.new.ensures) c.new-2.ensures _
    (staged _ _ _ _ _ _ c.deref.ensures.value c.in_ok-stocks_done.ensures))

pub returns-clause-placed : goal.returns-clause-placed
returns-clause-placed g c = record {
  few = c.requires.few;
  amounts =
      placed-amounts _ c.args.p.now c.args.order c.args.moment c.args.next_row (map line_cards_of c.args.lines.items) (so_far_of (record { stocks = c.new.result; lines = c.new-2.result })) (ap stock_changes c.new.ensures) c.new-2.ensures _
      (staged _ _ _ _ _ _ c.deref.ensures.value c.in_ok-stocks_done.ensures);
}
