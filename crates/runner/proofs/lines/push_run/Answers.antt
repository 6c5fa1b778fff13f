use Rattle.std.proofs.Common.{rules}
use Rattle.runner.specs.FaultText.{fault_text}
use Rattle.runner.proofs.lines.push_run.Goals as goal

pub returns-clause-text : goal.returns-clause-text
unfolding fault_text
returns-clause-text c = search rules
