use Rattle.tpcc_laws.proofs.Framed.{framed}
use Rattle.tpcc_laws.proofs.Framing.{step_frames}
use Rattle.tpcc_laws.proofs.Keeping.{step_keeps}
use Rattle.transactions.proofs.laws.framed_machine.Goals as goal

pub returns : goal.returns
returns c = framed step_keeps step_frames
