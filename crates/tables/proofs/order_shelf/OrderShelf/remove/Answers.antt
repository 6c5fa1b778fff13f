use Rattle.std.proofs.Common.{None}
use Rattle.tables.proofs.Districts.{elsewhere-changed, linked-set}
use Rattle.tables.proofs.order_shelf.OrderShelf.remove.Goals as goal

pub invariant_of-self : goal.invariant_of-self
invariant_of-self c =
    linked-set c.self.inside.orders c.self.inside.last.items c.args.rank c.place_of-n.result c.self.invariant c.place_of-n.ensures.value c.place_of-n.ensures.below _ _
    (elsewhere-changed _ _ c.args.rank None c.remove.ensures.after) c.remove.ensures.kept
