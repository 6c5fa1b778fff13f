use Rattle.resuming_laws.proofs.Resuming.{goes_on}
use Rattle.resuming_laws.proofs.stored_runs_go_on.Goals as goal

pub returns : goal.returns
returns c = goes_on c.sound_states.ensures.after c.image_read_back.ensures
