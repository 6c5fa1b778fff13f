use Rattle.executor.proofs.Levels.{meet_only_above}
use Rattle.executor.proofs.laws.levels_rise.Goals as goal

pub returns : goal.returns
returns c = meet_only_above
