use Rattle.std.proofs.Common.{Some}
use Rattle.std.proofs.lemmas.Result.{on_ok_weaker, on_err_weaker}
use Rattle.tables.proofs.Districts.{elsewhere-changed, elsewhere-same, linked-set}
use Rattle.tables.proofs.Shelved.{either}
use Rattle.tables.proofs.order_shelf.OrderShelf.put.Goals as goal

pub invariant_of-self : goal.invariant_of-self
invariant_of-self c =
    linked-set c.self.inside.orders c.self.inside.last.items c.args.rank c.place_of-n.result c.self.invariant c.place_of-n.ensures.value c.place_of-n.ensures.below _ _
    (either c.put.result
    (on_ok_weaker c.put.result (λ e. elsewhere-changed _ _ c.args.rank (Some c.args.row) e) c.put.ensures.ok)
    (on_err_weaker c.put.result (λ e. elsewhere-same _ _ c.args.rank e) c.put.ensures.err))
    c.put.ensures.kept
