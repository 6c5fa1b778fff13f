use Rattle.std.proofs.Common.{length, sym, subst}
use Rattle.std.proofs.lemmas.Result.{on_ok_weaker, on_err_weaker}
use Rattle.tables.specs.LastOrders.{HasPlaces, orders_of}
use Rattle.tables.proofs.Districts.{places-kept, places-put}
use Rattle.tables.proofs.Shelved.{either}
use Rattle.tables.proofs.order_shelf.put_among.Goals as goal

pub relink-requires : goal.relink-requires
relink-requires c =
    let one = c.in_ok-lengthen.ensures.ok in
    let kept = c.args.last.now in
    let longer = c.lengthen.new.self in
    let m = c.args.orders.now in
    let k = c.args.rank in
    subst (λ es. HasPlaces longer (length es)) (sym c.slice_at.ensures)
    (either c.put-was.result
    (on_ok_weaker c.put-was.result (λ e. subst (λ u. HasPlaces longer (length (orders_of u k))) (sym e) (places-put m k kept c.requires.kept longer c.args.row one)) c.put-was.ensures.ok)
    (on_err_weaker c.put-was.result (λ e. subst (λ u. HasPlaces longer (length (orders_of u k))) (sym e) (places-kept m k kept c.requires.kept longer one)) c.put-was.ensures.err))
