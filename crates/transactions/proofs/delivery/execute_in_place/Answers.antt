use Rattle.std.proofs.Common.{refl, sym}
use Rattle.std.specs.FinMap.{empty}
use Rattle.tpcc_rows.proofs.Changes.{after-empty}
use Rattle.transactions.specs.DeliveryParts.{orders_of, orders_written}
use Rattle.transactions.proofs.DeliverySteps.{outcome_is}
use Rattle.transactions.proofs.InPlace.{keeps_itself}
use Rattle.transactions.proofs.delivery.execute_in_place.Goals as goal

pub returns-in_err-write-clause-kept : goal.returns-in_err-write-clause-kept
returns-in_err-write-clause-kept c = c.in_err-write.ensures.kept c.args.store.now (keeps_itself c.args.store.now)

pub returns-clause-answer : goal.returns-clause-answer
returns-clause-answer c =
    let rows = c.args.store.now.rows in
    let made = c.in_ok-reply.delivered in
    let changes = orders_written made.warehouse (orders_of made.orders.items) empty in (
      changes,
      (c.in_ok-reply.ensures.0, outcome_is _ _ _ _ c.in_ok-reply.ensures.1 refl),
      c.in_ok-write.ensures.made rows empty (sym (after-empty rows)),
    )

pub returns-clause-kept : goal.returns-clause-kept
returns-clause-kept c = c.in_ok-write.ensures.kept c.args.store.now (keeps_itself c.args.store.now)
