use Rattle.executor.proofs.Levels.{requests_swap}
use Rattle.executor.proofs.laws.swap.Goals as goal

pub returns : goal.returns
returns c = requests_swap c.framed_machine.ensures
