use Rattle.std.proofs.Common.{◌≡◌, ◌≤◌, ◌-◌, arith}
use Rattle.tpcc_model.specs.StockLevels.{first_recent}
use Rattle.profiles.proofs.RecentTouches.{no_order, order_more}
use Rattle.profiles.proofs.stock_level.touch_recent.Goals as goal

pub loop-order-init : goal.loop-order-init
loop-order-init c =
    let next = c.number-next.ensures.value in
    let left = c.saturating_sub.ensures in
    let first = c.max-first.ensures in
    no_order _ _ _ _ _ (let none : c.max-first.result - first_recent c.args.district.now.next_order ≡ 0 = omega (arith, next, left, first) in none)

pub loop-order-preserved : goal.loop-order-preserved
loop-order-preserved c =
    let next = c.number-next.ensures.value in
    let left = c.saturating_sub.ensures in
    let first = c.max-first.ensures in
    let low = c.loop-order.auto.order in
    let from : first_recent c.args.district.now.next_order ≤ c.loop-order.order = omega (arith, next, left, first, low) in
    order_more _ _ _ _ _ _ c.order_id.ensures from _ _ c.loop-order.invariant c.in_ok-touch_lines.ensures
