use Rattle.tpcc_laws.proofs.Framing.{step_frames}
use Rattle.transactions.proofs.laws.frame.Goals as goal

pub returns : goal.returns
returns c = step_frames
