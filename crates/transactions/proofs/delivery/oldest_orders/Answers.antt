use Rattle.std.proofs.Common.{◌+◌, ℕ, Option, None, get_or, ap, ◌∙◌, arith}
use Rattle.std.proofs.lemmas.List.{length-set}
use Rattle.std.proofs.lemmas.List.Edits.{fill_by_more}
use Rattle.std.proofs.lemmas.List.FromFn.{fill_by_all}
use Rattle.std.specs.Prelude.{slice_set}
use Rattle.tpcc_rows.specs.Picks.{oldest}
use Rattle.tpcc_model.specs.Touches.{district_touch}
use Rattle.worker_rows.specs.Views.{covers}
use Rattle.transactions.specs.Lending.{lent}
use Rattle.transactions.proofs.DeliverySteps.{district_at}
use Rattle.transactions.proofs.LentTouches.{district_passes}
use Rattle.transactions.proofs.delivery.oldest_orders.Goals as goal

pub loop-index-preserved : goal.loop-index-preserved
loop-index-preserved g c =
    let rows = lent (g.V.RowView.sees c.args.view.now) in
    let f = λ (k : ℕ). oldest rows c.args.p.now.warehouse (k + 1) in
    let here = c.in_ok-orders.ensures.order ∙ ap (oldest rows c.args.p.now.warehouse) (district_at c.all.result c.loop-index.index c.district-item.result c.all.ensures c.loop-index-test.true) in
    let long = c.loop-index.invariant.0 in
    let below = c.loop-index-test.true in (
      length-set c.loop-index.orders c.loop-index.index c.in_ok-orders.field-0 ∙ long,
      (λ k more. ap (λ (x : Option ℕ). get_or (slice_set c.loop-index.orders c.loop-index.index x) k None) here
          ∙ fill_by_more f c.loop-index.orders c.loop-index.index None (omega (arith, long, below)) c.loop-index.invariant.1 k more),
      district_passes (λ d. covers (g.V.RowView.sees c.args.view.now) (district_touch rows c.args.p.now d)) c.loop-index.index c.district-item.result c.all.result c.all.ensures below _ c.loop-index.invariant.2 c.in_ok-orders.ensures.strays,
    )

pub returns-clause-orders : goal.returns-clause-orders
returns-clause-orders g c = fill_by_all (λ k. oldest (lent (g.V.RowView.sees c.args.view.now)) c.args.p.now.warehouse (k + 1)) c.loop-index.orders 10 None c.loop-index.invariant.0 (λ k below. c.loop-index.invariant.1 k (let done = c.loop-index-test.false in omega (arith, below, done)))
