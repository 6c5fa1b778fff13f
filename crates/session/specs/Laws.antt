-- Laws of sessions.
use Rattle.std.specs.Prelude.{◌≡◌, ℕ, List, []}
use Rattle.commands.specs.declared.command.Heard.{Heard}
use Rattle.executor.specs.Chains.{Chain}
use Rattle.executor.specs.States.{IsSoundState}
use Rattle.session.specs.Answers.{AnswersAll}
use Rattle.session.specs.SessionHeadline.{AreAnswered}

-- the headline holds of whatever was heard and answered, from a chain with only a sound state on
abbrev pub SessionsAreSerial : Type 0
SessionsAreSerial = (commands : List Heard) (old new : Chain) (text : List ℕ) → old.earlier ≡ [] → IsSoundState old.cards old.present
    → AnswersAll commands old new text → AreAnswered commands old new text
