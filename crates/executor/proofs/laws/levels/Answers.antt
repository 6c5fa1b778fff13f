use Rattle.executor.proofs.Levels.{levels_are_serial}
use Rattle.executor.proofs.laws.levels.Goals as goal

pub returns : goal.returns
returns c = levels_are_serial c.framed_machine.ensures
