use Rattle.tables.proofs.Districts.{elsewhere-either, linked-set}
use Rattle.tables.proofs.order_shelf.OrderShelf.swap.Goals as goal

pub invariant_of-self : goal.invariant_of-self
invariant_of-self c =
    linked-set c.self.inside.orders c.self.inside.last.items c.args.rank c.place_of-n.result c.self.invariant c.place_of-n.ensures.value c.place_of-n.ensures.below _ _
    (elsewhere-either _ _ c.args.rank c.args.row.now c.swap.result c.swap.ensures.after) c.swap.ensures.kept
