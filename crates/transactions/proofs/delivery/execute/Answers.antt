use Rattle.std.specs.FinMap.{empty}
use Rattle.transactions.specs.Lending.{lent}
use Rattle.transactions.proofs.DeliverySteps.{outcome_is}
use Rattle.transactions.proofs.delivery.execute.Goals as goal

pub returns : goal.returns
returns g c = (
  c.in_ok-reply.ensures.0,
  outcome_is _ _ _ _ c.in_ok-reply.ensures.1 (c.in_ok-write.ensures.made (lent (g.V.RowView.sees c.args.view.now)) empty c.in_ok-changes.ensures),
)
