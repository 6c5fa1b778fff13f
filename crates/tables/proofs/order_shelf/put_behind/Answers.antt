use Rattle.std.proofs.Common.{sym, ap, subst, ◌∙◌}
use Rattle.tables.specs.LastOrders.{AreLinked, orders_of, owners}
use Rattle.tables.proofs.Districts.{none-there, owners-behind}
use Rattle.tables.proofs.Tables.{on_err}
use Rattle.tables.proofs.order_shelf.put_behind.Goals as goal

pub returns-in_err-push-clause-new : goal.returns-in_err-push-clause-new
returns-in_err-push-clause-new c = on_err c.from_residual.result (none-there c.args.orders.now c.args.rank _ c.requires.behind)

pub returns-in-Ok-clause-kept : goal.returns-in-Ok-clause-kept
returns-in-Ok-clause-kept c =
    subst (λ os. AreLinked c.push.new.self os)
    (sym (ap (λ m. owners (orders_of m c.args.rank)) c.in-Ok.ensures.ok ∙ owners-behind c.args.orders.now c.args.rank c.args.row c.requires.behind))
    (c.in_ok-push.ensures.ok (owners (orders_of c.args.orders.now c.args.rank)) c.requires.kept)
