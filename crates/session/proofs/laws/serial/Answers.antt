use Rattle.session.proofs.SerialSessions.{sessions_are_serial}
use Rattle.session.proofs.laws.serial.Goals as goal

pub returns : goal.returns
returns c = sessions_are_serial
