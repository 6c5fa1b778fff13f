use Rattle.tpcc_laws.proofs.Keeping.{step_keeps}
use Rattle.transactions.proofs.laws.keeps.Goals as goal

pub returns : goal.returns
returns c = step_keeps
