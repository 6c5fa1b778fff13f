use Rattle.tickets.proofs.Sound.{once_law}
use Rattle.tickets.proofs.laws.once.Goals as goal

pub returns : goal.returns
returns c = once_law
