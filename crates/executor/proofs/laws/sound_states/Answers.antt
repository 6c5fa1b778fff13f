use Rattle.executor.proofs.SoundStates.{batches_keep, opening_is_sound}
use Rattle.executor.proofs.laws.sound_states.Goals as goal

pub returns-clause-opening : goal.returns-clause-opening
returns-clause-opening c = opening_is_sound

pub returns-clause-after : goal.returns-clause-after
returns-clause-after c = batches_keep c.keeps.ensures
