use Rattle.executor.proofs.Levels.{declared_levels_are_serial}
use Rattle.executor.proofs.laws.declared_levels.Goals as goal

pub returns : goal.returns
returns c = declared_levels_are_serial c.levels.ensures
