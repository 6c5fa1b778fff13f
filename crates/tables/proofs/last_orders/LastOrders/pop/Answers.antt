use Rattle.std.proofs.Common.{ap, set, ◌∙◌, arith}
use Rattle.tables.proofs.Linked.{linked-pop}
use Rattle.tables.proofs.last_orders.LastOrders.pop.Goals as goal

pub returns-then-place-len : goal.returns-then-place-len
returns-then-place-len c = λ rank os h.
    linked-pop c.args.self.now _ os (rank, c.args.customer) c.in-Some.before h (omega arith) c.in-Some.ensures.items
    (ap (λ k. set c.args.self.now.last.items k c.in-Some.before) (c.from-place.ensures ∙ c.number.ensures.value))
