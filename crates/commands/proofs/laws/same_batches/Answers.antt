use Rattle.commands.proofs.LawLemmas.{batches_are_heard}
use Rattle.commands.proofs.laws.same_batches.Goals as goal

pub returns : goal.returns
returns c = batches_are_heard
