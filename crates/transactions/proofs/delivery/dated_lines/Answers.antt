use Rattle.std.proofs.Common.{length, ap, arith}
use Rattle.transactions.specs.DeliveryParts.{dated_lines}
use Rattle.transactions.specs.Lending.{lent}
use Rattle.transactions.proofs.DeliveredOrders.{dated-few, dated-more}
use Rattle.transactions.proofs.delivery.dated_lines.Goals as goal

pub loop-index-init : goal.loop-index-init
unfolding dated_lines
loop-index-init g c = c.in_ok-lines.ensures.items

pub loop-index-preserved : goal.loop-index-preserved
loop-index-preserved g c =
    dated-more _ _ _ _ _ c.loop-index.index _ _ _ _ c.line_number-number.ensures (c.get-line.ensures _ _ _ _ c.order_lines-found.ensures) c.loop-index.invariant c.in_ok-add_dated.ensures

pub returns-clause-few : goal.returns-clause-few
returns-clause-few g c =
    let few = dated-few (lent (g.V.RowView.sees c.args.view.now)) c.args.p.now c.args.moment c.args.district c.args.order c.loop-index.index in
    let all = ap length c.loop-index.invariant in
    omega (arith, few, all)
