use Rattle.executor.proofs.SerialChains.{chains_are_serial}
use Rattle.executor.proofs.laws.chain.Goals as goal

pub returns : goal.returns
returns c = chains_are_serial
