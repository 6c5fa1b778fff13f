use Rattle.std.specs.FinMap.{empty}
use Rattle.transactions.proofs.DecidedOutcomes.{placed_outcome}
use Rattle.transactions.proofs.new_order.execute.Goals as goal

pub returns : goal.returns
returns g c = (
  c.in_ok-placed.ensures.answer.0,
  placed_outcome _ c.in_ok-placed.placed _ c.in_ok-placed.ensures.answer.1 (c.in_ok-write.ensures.made empty empty c.in_ok-changes.ensures),
)
