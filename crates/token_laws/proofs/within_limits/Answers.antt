use Rattle.token_laws.proofs.Sound.{sound_is_writable}
use Rattle.token_laws.proofs.StepReplies.{step_replies}
use Rattle.token_laws.proofs.within_limits.Goals as goal

pub returns-clause-databases : goal.returns-clause-databases
returns-clause-databases c = sound_is_writable

pub returns-clause-replies : goal.returns-clause-replies
returns-clause-replies c = step_replies
