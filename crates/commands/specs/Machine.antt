-- The states and transitions of a reader of records, as in `csv`.
use Rattle.std.specs.Prelude.{◌≡◌}
use Rattle.commands.specs.declared.machine.Action.{Action}
use Rattle.commands.specs.declared.machine.Action.TheVariants as action
use Rattle.commands.specs.declared.machine.State.{State}
use Rattle.commands.specs.declared.machine.State.TheVariants as state
use Rattle.csv.specs.declared.parser.Action as Its
use Rattle.csv.specs.declared.parser.Action.TheVariants as act
use Rattle.csv.specs.declared.parser.State as Where
use Rattle.csv.specs.declared.parser.State.TheVariants as at

abbrev pub state_of : State → Where.State
state_of state.StartRecord = at.StartRecord
state_of state.StartField = at.StartField
state_of state.InField = at.InField
state_of state.InQuoted = at.InQuoted
state_of state.AfterQuote = at.AfterQuote
state_of state.AfterReturn = at.AfterCr

abbrev pub action_of : Action → Its.Action
action_of action.Skip = act.Skip
action_of action.Copy = act.Copy
action_of action.EndField = act.EndField
action_of action.EndRecord = act.EndRecord

-- the state and action for a byte
abbrev pub Leads : State → Action → Where.State × Its.Action → Type 0
Leads s a its = (state_of s ≡ its.0) × (action_of a ≡ its.1)
