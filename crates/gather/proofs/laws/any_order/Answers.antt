use Rattle.gather.proofs.Deltas.{order_is_free}
use Rattle.gather.proofs.laws.any_order.Goals as goal

pub returns : goal.returns
returns c = order_is_free
