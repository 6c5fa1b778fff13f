use Rattle.transactions.specs.Lending.{lent}
use Rattle.transactions.proofs.DeliverySteps.{district_found, district_refused, ten_found}
use Rattle.transactions.proofs.FaultFacts.{faulted_by}
use Rattle.transactions.proofs.delivery.found_orders.Goals as goal

pub returns-in_err-delivered : goal.returns-in_err-delivered
returns-in_err-delivered g c =
    faulted_by _ _ _ c.in_err-delivered.field-0.0 c.from_residual-in_err-delivered.result
    (district_refused (lent (g.V.RowView.sees c.args.view.now)) c.args.p.now c.args.moment c.loop-index.index c.district-item.result c.all.result c.all.ensures c.loop-index-test.true c.args.orders.now c.requires
    c.index-orders-index.result c.loop-index.found.items c.loop-index.invariant)
    c.in_err-delivered.ensures c.from_residual-in_err-delivered.ensures.1

pub loop-index-preserved : goal.loop-index-preserved
loop-index-preserved g c =
    rw c.in_ok-push.ensures.items
    (district_found (lent (g.V.RowView.sees c.args.view.now)) c.args.p.now c.args.moment c.loop-index.index c.district-item.result c.all.result c.all.ensures c.loop-index-test.true c.args.orders.now c.requires
    c.index-orders-index.result c.loop-index.found.items c.loop-index.invariant c.in_ok-delivered.delivered c.in_ok-delivered.ensures)

pub returns : goal.returns
returns g c = ten_found (lent (g.V.RowView.sees c.args.view.now)) c.args.p.now c.args.moment c.loop-index.index c.loop-index-test.false c.loop-index.found.items c.loop-index.invariant
