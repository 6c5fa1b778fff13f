use Rattle.std.proofs.Common.{ap, ◌++◌, ◌∷◌, [], ◌∙◌, get_or, arith}
use Rattle.std.proofs.lemmas.List.{get_or_default}
use Rattle.tables.proofs.Linked.{linked-push}
use Rattle.tables.proofs.last_orders.LastOrders.push.Goals as goal

pub returns-clause-ok : goal.returns-clause-ok
returns-clause-ok c = λ os h.
    let enough = c.in_ok-make_places.ensures.enough in
    let small = c.link.ensures.small in
    let place = c.from.ensures ∙ c.number.ensures.value in
    linked-push c.args.self.now _ os (c.args.rank, c.args.customer) c.make_places.new.last.items h c.in_ok-make_places.ensures.same enough small c.link.ensures.after
    (
    c.in_ok-push.ensures.items
    ∙ ap (λ n. c.args.self.now.previous.items ++ n ∷ [])
    (
    c.index-before.ensures
    ∙ ap (λ k. get_or c.make_places.new.last.items k c.index-before.result.now) place
    ∙ get_or_default c.make_places.new.last.items c.args.customer c.index-before.result.now 0 (omega (arith, enough, small))
    ))
