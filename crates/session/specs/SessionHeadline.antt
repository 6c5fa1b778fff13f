-- The headline of a session. For every consistent database, list of commands, and number of workers, the states that a session can go
-- back to and the present one are those that one thread leaves after the batches that are kept, with their tables, next numbers and
-- tokens; each answer, with replies, path and token, is that of these states; and before the first command and after every one the
-- database is sound, and TPC-C's consistency conditions 1 to 4 hold. A fault in the place of a command is reported, and changes nothing.
use Rattle.std.specs.Prelude.{◌≡◌, ℕ, ◌+◌, ◌≤◌, Bool, true, false, List, [], ◌∷◌, ◌++◌, length, map, Some, slice_get, take}
use Rattle.catalog.specs.CardMap.{Cards}
use Rattle.commands.specs.declared.command.Command.TheVariants as command
use Rattle.commands.specs.declared.command.Control.TheVariants as control
use Rattle.commands.specs.declared.command.Heard.{Heard}
use Rattle.commands.specs.declared.command.Heard.TheVariants as heard
use Rattle.executor.specs.Headline.{MeetsConditions}
use Rattle.executor.specs.Kept.{Kept, none_kept, serial_chain, up_to, with_batch, with_committed}
use Rattle.executor.specs.Chains.{Chain}
use Rattle.session.specs.Answers.{Answers}
use Rattle.tpcc_model.specs.Database.{database}
use Rattle.tpcc_model.specs.Serial.{State}
use Rattle.tpcc_model.specs.Soundness.{IsSound}

-- a command that was answered, or a fault in its place: whether it was refused, and the text
pub record Turn : Type 0 where
  pub heard : Heard
  pub refused : Bool
  pub text : List ℕ

-- ---- the batches that are kept
-- a batch that was executed is appended, a commit moves the oldest one to those that are committed, and a roll-back keeps the batches
-- up to its number; what is only told changes nothing, and so does what was refused, and a fault
abbrev pub kept_by : State → Heard → Bool → Kept → Kept
kept_by start h true kept = kept
kept_by start (heard.Command (command.Batch batch)) false kept = with_batch batch kept
kept_by start (heard.Command (command.Control control.Commit)) false kept = with_committed kept
kept_by start (heard.Command (command.Control (control.RollbackTo sequence))) false kept = up_to start.sequence sequence kept
kept_by start (heard.Command (command.Control control.State)) false kept = kept
kept_by start (heard.Command (command.Control control.At)) false kept = kept
kept_by start (heard.Command (command.Control control.Image)) false kept = kept
kept_by start (heard.Fault f) false kept = kept

abbrev pub kept_on : State → List Turn → Kept → Kept
kept_on start [] kept = kept
kept_on start (turn ∷ turns) kept = kept_on start turns (kept_by start turn.heard turn.refused kept)

-- by these turns, the first of which met this state
abbrev pub kept : State → List Turn → Kept
kept start turns = kept_on start turns none_kept

-- the chain that one thread makes of them
abbrev pub chain_after : Cards → State → List Turn → Chain
chain_after cards start turns = serial_chain cards start (kept start turns)

-- ---- the headline
-- of these turns, the first of which met a chain with only this state, and which led to this chain
pub record SessionHeadline (cards : Cards) (start : State) (turns : List Turn) (chain : Chain) : Type 0 where
  -- the last committed state and those behind it are the ones that one thread leaves
  pub states_as_serial : chain ≡ chain_after cards start turns
  -- each answer is that of such states, as they were before its command and after it
  pub answers_as_serial : (count : ℕ) (turn : Turn) → slice_get turns count ≡ Some turn
      → Answers turn.heard (chain_after cards start (take count turns)) (chain_after cards start (take (count + 1) turns)) turn.text
  -- before the first command and after each of them the database is sound, and the conditions hold
  pub sound : (count : ℕ) → count ≤ length turns → IsSound (database cards (chain_after cards start (take count turns)).present.rows)
  pub conditions : (count : ℕ) → count ≤ length turns → MeetsConditions (chain_after cards start (take count turns)).present.rows

-- ---- commands and texts
abbrev pub heard_in : List Turn → List Heard
heard_in turns = map (λ turn. turn.heard) turns

-- the answers, one behind the other
abbrev pub text_of : List Turn → List ℕ
text_of [] = []
text_of (turn ∷ turns) = turn.text ++ text_of turns

-- these commands were answered by this text, in turns of which the headline holds
pub record AreAnswered (commands : List Heard) (old new : Chain) (text : List ℕ) : Type 0 where
  pub turns : List Turn
  pub commands_are : heard_in turns ≡ commands
  pub text_is : text_of turns ≡ text
  pub headline : SessionHeadline old.cards old.present turns new
