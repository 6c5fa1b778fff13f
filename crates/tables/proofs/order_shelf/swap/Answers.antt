use Rattle.std.proofs.Common.{length, sym, ap, subst, ◌∙◌}
use Rattle.std.specs.FinMap as map
use Rattle.tables.specs.LastOrders.{AreLinked, HasPlaces, orders_of, owners}
use Rattle.tables.proofs.Districts.{owners-same, places-replaced, what-was}
use Rattle.tables.proofs.order_shelf.swap.Goals as goal

pub relink-requires : goal.relink-requires
relink-requires c =
    let done = c.if-not-swap.ensures in
    subst (λ es. HasPlaces c.args.last.now (length es)) (sym (c.slice_at.ensures ∙ ap (λ m. orders_of m c.args.rank) done.after))
    (places-replaced c.args.orders.now c.args.rank c.args.last.now c.requires c.args.row.now (sym done.found))

pub returns-else-number-clause-kept : goal.returns-else-number-clause-kept
returns-else-number-clause-kept c =
    let done = c.if-not-swap.ensures in
    let m = c.args.orders.now in
    let k = c.args.rank in
    let new = c.args.row.now in
    let old = c.swap.new.row in
    let got = what-was (map.get m k) new old (sym done.found) done.row in
    let same = sym c.number.ensures.value ∙ c.if-number.false ∙ c.number-2.ensures.value in
    subst (λ os. AreLinked c.args.last.now os) (sym (ap (λ u. owners (orders_of u k)) done.after ∙ owners-same m k new old got same)) c.requires
