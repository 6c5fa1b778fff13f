use Rattle.std.proofs.Common.{arith, length-append}
use Rattle.tables.proofs.Districts.{linked-more, linked-none}
use Rattle.tables.proofs.order_shelf.OrderShelf.new.Goals as goal

pub loop-preserved : goal.loop-preserved
loop-preserved c =
    rw c.in_ok-push.ensures.items
    (record { len = simp length-append (omega arith); linked = linked-more c.loop.last.items _ c.loop.counter c.loop.invariant.len c.loop.invariant.linked c.new-in-loop.ensures })

pub invariant_of-result : goal.invariant_of-result
invariant_of-result c = linked-none _ c.loop.last.items c.in_ok-orders.ensures (omega arith) (λ p d few. c.loop.invariant.linked p d (omega arith))
