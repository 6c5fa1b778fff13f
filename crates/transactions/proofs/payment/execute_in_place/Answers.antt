use Rattle.std.proofs.Common.{refl}
use Rattle.tpcc_model.specs.Payments.{payment_changes}
use Rattle.transactions.specs.PaymentParts.{paid_of}
use Rattle.transactions.proofs.InPlace.{keeps_same, unchanged}
use Rattle.transactions.proofs.DecidedOutcomes.{paid_outcome}
use Rattle.transactions.proofs.payment.execute_in_place.Goals as goal

pub returns-in_err-write-clause-kept : goal.returns-in_err-write-clause-kept
returns-in_err-write-clause-kept c = c.in_err-write.ensures.kept c.args.store.now (keeps_same c.prefetch_list.ensures)

pub returns-clause-answer : goal.returns-clause-answer
returns-clause-answer c =
    let paid = paid_of c.in_ok-rows.rows in
    let changes = payment_changes c.args.p.now c.args.number paid in (
      changes,
      (c.in_ok-rows.ensures.0, paid_outcome c.args.p.now c.args.number _ paid _ changes c.in_ok-rows.ensures.1 c.payment_reply-reply.ensures refl),
      c.in_ok-write.ensures.made c.args.store.now.rows (unchanged c.prefetch_list.ensures),
    )

pub returns-clause-kept : goal.returns-clause-kept
returns-clause-kept c = c.in_ok-write.ensures.kept c.args.store.now (keeps_same c.prefetch_list.ensures)
