use Rattle.std.proofs.Common.{◌≤◌, get_or, length, sym, ap, subst, ◌∙◌, arith}
use Rattle.std.proofs.lemmas.List.{length-set}
use Rattle.tables.specs.declared.last_orders.TheConstants.{NUMBERS}
use Rattle.tables.proofs.Linked.{linked-all, next-last, next-previous}
use Rattle.tables.proofs.last_orders.LastOrders.relink.Goals as goal

pub link-requires : goal.link-requires
link-requires c = c.loop-place.invariant.customers (omega arith)

pub loop-place-preserved : goal.loop-place-preserved
loop-place-preserved c =
    let es = c.args.orders.now in
    let i = c.loop-place.place in
    let e = c.index-orders-place.result in
    let kept = c.loop-place.self in
    let h = c.loop-place.invariant in
    let some = c.loop-place-test.true in
    let wide = h.customers (omega arith) in
    let small = c.link.ensures.small in
    record {
      orders = length-set kept.previous.items i c.link.result ∙ h.orders;
      customers = λ _. subst (λ xs. NUMBERS ≤ length xs) (sym c.link.ensures.after) (rw length-set wide);
      last = λ k few. ap (λ xs. get_or xs k 0) c.link.ensures.after ∙ next-last es i e some c.index-orders-place.is kept.last.items wide small h.last k few;
      previous = next-previous es i e some c.index-orders-place.is kept.previous.items c.link.result (omega arith) h.previous (c.link.ensures.value ∙ h.last e.1.customer small);
    }

pub returns : goal.returns
returns c =
    let h = c.loop-place.invariant in
    linked-all c.loop-place.self c.args.orders.now c.loop-place.place (omega arith) h.orders h.customers h.last h.previous
