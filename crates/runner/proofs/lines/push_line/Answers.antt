use Rattle.std.proofs.Common.{rules, append_assoc}
use Rattle.runner.proofs.lines.push_line.Goals as goal

pub returns-clause-text : goal.returns-clause-text
returns-clause-text c = search (rules, append_assoc)
