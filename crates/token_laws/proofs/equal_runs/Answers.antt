use Rattle.token_laws.proofs.Runs.{equal_runs}
use Rattle.token_laws.proofs.equal_runs.Goals as goal

pub returns : goal.returns
returns c = equal_runs
