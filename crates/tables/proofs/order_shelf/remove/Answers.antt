use Rattle.std.proofs.Common.{Ok, ◌-◌, length, sym, ap, subst, ◌∙◌}
use Rattle.std.specs.FinMap as map
use Rattle.std.specs.Ordering.{nat_cmp}
use Rattle.tpcc_rows.specs.Places.{IsPlaceOf}
use Rattle.tables.specs.LastOrders.{AreLinked, HasPlaces, orders_of, owners}
use Rattle.tables.proofs.Districts.{nothing-removed, owners-last, places-removed}
use Rattle.tables.proofs.order_shelf.remove.Goals.{then-is_last, else-is_last}
use Rattle.tables.proofs.order_shelf.remove.Goals as goal

pub returns-in_err-was-clause-kept : goal.returns-in_err-was-clause-kept
returns-in_err-was-clause-kept c =
    subst (λ m. AreLinked c.args.last.now (owners (orders_of m c.args.rank))) (sym (c.remove.ensures.after ∙ nothing-removed c.args.orders.now c.args.rank (sym c.in_err-was.ensures.value))) c.requires

pub relink-requires : goal.relink-requires
relink-requires c =
    subst (λ es. HasPlaces c.args.last.now (length es)) (sym (c.slice_at-else-is_last.ensures ∙ ap (λ m. orders_of m c.args.rank) c.remove.ensures.after))
    (places-removed c.args.orders.now c.args.rank c.args.last.now c.requires)

pub returns-clause-kept : goal.returns-clause-kept
returns-clause-kept c = elim c.if-is_last.branch [
  | then-is_last w ↦
      let m = c.args.orders.now in
      let k = c.args.rank in
      let was = c.in_ok-was.was' in
      let there = subst (λ es. IsPlaceOf nat_cmp k es (Ok (length es - 1))) c.slice_at.ensures (c.is_last-is_last.ensures w.if-is_last.true) in
      let before = subst (λ os. AreLinked c.args.last.now os) (owners-last m k was there (sym c.in_ok-was.ensures.value)) c.requires in
      subst (λ u. AreLinked c.if-is_last.last (owners (orders_of u k))) (sym c.remove.ensures.after)
      (subst (λ kept. AreLinked kept (owners (orders_of (map.remove m k) k))) (sym w.last-is) (w.pop.ensures k (owners (orders_of (map.remove m k) k)) before))
  | else-is_last w ↦
      subst (λ kept. AreLinked kept (owners (orders_of c.remove.new.self c.args.rank))) (sym w.last-is)
      (subst (λ es. AreLinked w.relink.new.self (owners es)) w.slice_at-else-is_last.ensures w.relink.ensures)
]
