use Rattle.std.proofs.Common.{◌≡◌, ◌≤◌, ◌-◌, arith}
use Rattle.tpcc_model.specs.Database.{database}
use Rattle.tpcc_model.specs.StockLevels.{first_recent}
use Rattle.transactions.specs.Lending.{lent}
use Rattle.transactions.proofs.LentTouches.{ended_by, no_orders, order_covered, order_strays}
use Rattle.transactions.proofs.LowItemFacts.{none_held, orders_held}
use Rattle.transactions.proofs.stock_level.low_stock.Goals as goal

pub loop-order-init : goal.loop-order-init
loop-order-init g c =
    let next = c.number-next.ensures.value in
    let left = c.saturating_sub.ensures in
    let first = c.max-first.ensures in
    let none : c.max-first.result - first_recent c.args.district.now.next_order ≡ 0 = omega (arith, next, left, first) in
    (none_held _ _ _ _ none c.new-items.result c.new-items.ensures.empty, (let len = c.new-items.ensures.len in omega (arith, len)), no_orders (g.V.RowView.sees c.args.view.now) (database c.args.catalog.now (lent (g.V.RowView.sees c.args.view.now))) c.args.p.now _ _ none)

pub loop-order-preserved : goal.loop-order-preserved
loop-order-preserved g c =
    let next = c.number-next.ensures.value in
    let left = c.saturating_sub.ensures in
    let first = c.max-first.ensures in
    let low = c.loop-order.auto.order in
    let from : first_recent c.args.district.now.next_order ≤ c.loop-order.order = omega (arith, next, left, first, low) in
    let one = c.in_ok-hold_lines.ensures.len in
    let so_far = c.loop-order.invariant.1 in
    (orders_held _ _ _ _ _ c.order_id.ensures from c.hold_lines.new.items (c.in_ok-hold_lines.ensures.held _ c.loop-order.invariant.0), omega (arith, from, one, so_far), order_covered (g.V.RowView.sees c.args.view.now) (database c.args.catalog.now (lent (g.V.RowView.sees c.args.view.now))) c.args.p.now _ _ _ c.order_id.ensures from c.loop-order.invariant.2 c.in_ok-hold_lines.ensures.within)

pub returns-in_err-hold_lines-clause-within : goal.returns-in_err-hold_lines-clause-within
returns-in_err-hold_lines-clause-within g c =
    let next = c.number-next.ensures.value in
    let left = c.saturating_sub.ensures in
    let first = c.max-first.ensures in
    let low = c.loop-order.auto.order in
    let below = c.loop-order-test.true in
    let from : first_recent c.args.district.now.next_order ≤ c.loop-order.order = omega (arith, next, left, first, low) in
    ended_by _ _ c.in_err-hold_lines.field-0.0 c.from_residual.result
    (order_strays (g.V.RowView.sees c.args.view.now) (database c.args.catalog.now (lent (g.V.RowView.sees c.args.view.now))) c.args.p.now _ _ _ _ c.order_id.ensures from (omega (arith, next, below)))
    c.in_err-hold_lines.ensures.within c.from_residual.ensures.1
