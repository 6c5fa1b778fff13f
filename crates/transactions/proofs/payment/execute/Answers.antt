use Rattle.std.specs.FinMap.{empty}
use Rattle.transactions.specs.PaymentParts.{paid_of}
use Rattle.transactions.proofs.DecidedOutcomes.{paid_outcome}
use Rattle.transactions.proofs.payment.execute.Goals as goal

pub returns : goal.returns
returns g c = (
  c.in_ok-rows.ensures.0,
  paid_outcome c.args.p.now c.args.number _ (paid_of c.in_ok-rows.rows) _ _ c.in_ok-rows.ensures.1 c.payment_reply-reply.ensures (c.in_ok-write.ensures.made empty c.in_ok-changes.ensures),
)
