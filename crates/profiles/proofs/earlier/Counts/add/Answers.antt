use Rattle.std.proofs.Common.{rules, ◌≡◌, ◌+◌, ℕ, length, get_or, ap, subst, ◌∙◌, arith}
use Rattle.tpcc_rows.specs.Limits.{IsBetween}
use Rattle.profiles.specs.Declarations.{deliveries_of}
use Rattle.profiles.proofs.Counts.{counted-delivery, counted-order, deliveries-most}
use Rattle.profiles.proofs.earlier.Counts.add.Goals as goal

pub returns-in-Delivery : goal.returns-in-Delivery
returns-in-Delivery c = λ earlier same counts.
    let p = c.in-Delivery.p in
    let at : c.from-warehouse.result ≡ p.warehouse = search rules in
    let range : IsBetween 1 100 p.warehouse = subst (IsBetween 1 100) c.number.ensures.value c.number.ensures.range in
    let few = deliveries-most p.warehouse earlier in
    let small = c.requires in
    let was : get_or c.args.self.now.deliveries c.from-warehouse.result 0 ≡ deliveries_of p.warehouse earlier = ap (λ (k : ℕ). get_or c.args.self.now.deliveries k 0) at ∙ counts.deliveries p.warehouse range in
    let more = c.saturating_add.ensures in
    let one : c.saturating_add.result ≡ deliveries_of p.warehouse earlier + 1 = omega (arith, more, was, few, small, same) in
    counted-delivery c.args.self.now.deliveries c.args.self.now.orders earlier p c.args.request.now c.from-warehouse.result c.saturating_add.result at c.in-Delivery.is (search rules) counts one

pub returns-in-NewOrder : goal.returns-in-NewOrder
returns-in-NewOrder c = λ earlier same counts.
    let p = c.in-NewOrder.p in
    let one : c.args.place + 1 ≡ length earlier + 1 = omega (arith, same) in
    counted-order c.args.self.now.deliveries c.args.self.now.orders earlier p c.args.request.now c.place_of.result (c.args.place + 1) c.place_of.ensures.value c.in-NewOrder.is (search rules) c.place_of.ensures.range counts one
