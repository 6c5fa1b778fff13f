use Rattle.runner.proofs.TwoRuns.{two_runs_agree}
use Rattle.runner.proofs.laws.two_runs.Goals as goal

pub returns : goal.returns
returns c = two_runs_agree
