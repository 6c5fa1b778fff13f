use Rattle.executor.proofs.Levels.{strays_are_in_turn}
use Rattle.executor.proofs.laws.strays_in_turn.Goals as goal

pub returns : goal.returns
returns c = strays_are_in_turn c.framed_machine.ensures
