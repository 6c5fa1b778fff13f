use Rattle.transactions.specs.DeliveryParts.{carried_as}
use Rattle.transactions.proofs.delivery.write_carried.Goals as goal

pub returns-clause-made : goal.returns-clause-made
unfolding carried_as
returns-clause-made g c = λ rows changes stands. c.put.ensures.made rows _ (c.in_ok-remove.ensures.made rows changes stands)
