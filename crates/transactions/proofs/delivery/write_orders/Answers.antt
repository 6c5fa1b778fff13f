use Rattle.std.proofs.Common.{◌≡◌, rules, sym, ap, subst, ◌∙◌}
use Rattle.transactions.specs.DeliveryParts.{orders_of, orders_written}
use Rattle.transactions.proofs.DeliverySteps.{orders_end, orders_step}
use Rattle.transactions.proofs.delivery.write_orders.Goals as goal

pub loop-order-init : goal.loop-order-init
loop-order-init g c =
    let given : c.into_iter-order-iterator.result.rest.items ≡ c.args.delivered.items = search rules in
    record {
      made = λ rows changes stands. (changes, stands, ap (λ orders. orders_written c.args.warehouse (orders_of orders) changes) given);
      kept = λ first keeps. keeps;
    }

pub loop-order-preserved : goal.loop-order-preserved
loop-order-preserved g c = record {
  made = λ rows changes stands.
      let (now, at, leads) = c.loop-order.invariant.made rows changes stands in (
        _,
        c.in_ok-write_oldest.ensures.made rows now at,
        orders_step c.args.warehouse c.loop-order.order-iterator.rest.items c.next.new.self.rest.items c.in-Some.order now _ c.in-Some.ensures.steps.0 leads,
      );
  kept = λ first keeps. c.in_ok-write_oldest.ensures.kept first (c.loop-order.invariant.kept first keeps);
}

pub returns-clause-kept : goal.returns-clause-kept
returns-clause-kept g c = λ first keeps. c.loop-order.invariant.kept first keeps

pub returns-clause-made : goal.returns-clause-made
returns-clause-made g c = λ rows changes stands.
    let (now, at, leads) = c.loop-order.invariant.made rows changes stands in
    let none = sym c.loop-order.order-iterator.rest.ok.0 ∙ c.in-None.ensures.steps.0 in
    subst (λ made. g.W.RowWriter.Stands rows made c.loop-order.writer) (orders_end c.args.warehouse c.loop-order.order-iterator.rest.items now _ none leads) at
