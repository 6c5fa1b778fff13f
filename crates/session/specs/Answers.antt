-- What commands do to an executor's chain, and the text that answers them.
use Rattle.std.specs.Prelude.{◌≡◌, ◌⊎◌, ℕ, List, [], ◌∷◌, ◌++◌, None, Some, map, slice_get}
use Rattle.commands.specs.declared.command.Command.{Command}
use Rattle.commands.specs.declared.command.Command.TheVariants as command
use Rattle.commands.specs.declared.command.Control.TheVariants as control
use Rattle.commands.specs.declared.command.Heard.{Heard}
use Rattle.commands.specs.declared.command.Heard.TheVariants as heard
use Rattle.executor.specs.Executions.{IsRefusedFor, refusal_for}
use Rattle.executor.specs.Chains.{HasNone, IsReturned, Chain, committed, extended, states}
use Rattle.executor.specs.Stamps.{stamp_of}
use Rattle.executor.specs.States.{IsSoundState}
use Rattle.executor.specs.declared.refusal.Refusal.{Refusal}
use Rattle.executor.specs.declared.refusal.Refusal.TheVariants as refusal
use Rattle.requests.specs.declared.request.Batch.{Batch}
use Rattle.rollback.specs.declared.points.TheConstants.{POINTS}
use Rattle.runner.specs.StampText.{at_text}
use Rattle.runner.specs.Text.{batch_text}
use Rattle.session.specs.AnswerText.{commit_text, fault_text, image_answer, refused_text, rollback_text, state_text}

-- ---- one command
-- it is refused, for a reason that is one here, and the chain is left as it was
abbrev pub Refuses : (Refusal → Type 0) → Chain → Chain → List ℕ → Type 0
Refuses IsReason old new text = (e : Refusal) × IsReason e × (new ≡ old) × (text ≡ refused_text e)

-- the batch is executed, and its text is that of one thread; or it is refused, for memory where nothing else is against it
abbrev pub AnswersBatch : Batch → Chain → Chain → List ℕ → Type 0
AnswersBatch batch old new text =
    ((refusal_for POINTS old batch ≡ None) × (new ≡ extended old batch) × (text ≡ batch_text old.cards old.present batch))
    ⊎ Refuses (IsRefusedFor (refusal_for POINTS old batch)) old new text

-- the oldest uncommitted batch is committed; there may be none
abbrev pub AnswersCommit : Chain → Chain → List ℕ → Type 0
AnswersCommit old new text =
    ((sequence : ℕ) × (slice_get (map (λ state. state.sequence) (states old)) 1 ≡ Some sequence) × (new ≡ committed old) × (text ≡ commit_text sequence))
    ⊎ ((old.earlier ≡ []) × Refuses (λ e. e ≡ refusal.NoSuchPoint) old new text)

-- the state with this number is the present one again; there may be none
abbrev pub AnswersRollback : ℕ → Chain → Chain → List ℕ → Type 0
AnswersRollback sequence old new text =
    (IsReturned sequence old new × (text ≡ rollback_text new.present))
    ⊎ (HasNone sequence old × Refuses (λ e. e ≡ refusal.NoSuchPoint) old new text)

-- the image of the present state is written, if there is memory for it
abbrev pub AnswersImage : Chain → Chain → List ℕ → Type 0
AnswersImage old new text =
    ((new ≡ old) × (text ≡ image_answer old.cards old.present))
    ⊎ Refuses (λ e. e ≡ refusal.Memory) old new text

-- a command, the chain before and after it, and its answer
abbrev pub AnswersCommand : Command → Chain → Chain → List ℕ → Type 0
AnswersCommand (command.Batch batch) old new text = AnswersBatch batch old new text
AnswersCommand (command.Control control.Commit) old new text = AnswersCommit old new text
AnswersCommand (command.Control (control.RollbackTo sequence)) old new text = AnswersRollback sequence old new text
AnswersCommand (command.Control control.State) old new text = (new ≡ old) × (text ≡ state_text old.present)
AnswersCommand (command.Control control.Image) old new text = AnswersImage old new text
AnswersCommand (command.Control control.At) old new text = (new ≡ old) × (text ≡ at_text (stamp_of old.present))

-- the same of a command or a fault: a fault is answered, and leaves the chain as it was
abbrev pub Answers : Heard → Chain → Chain → List ℕ → Type 0
Answers (heard.Command c) old new text = AnswersCommand c old new text
Answers (heard.Fault f) old new text = (new ≡ old) × (text ≡ fault_text f)

-- ---- commands, one after the other
-- and the faults among them, each on the chain that those before it left, whose present state stays sound
abbrev pub AnswersAll : List Heard → Chain → Chain → List ℕ → Type 0
AnswersAll [] old new text = (new ≡ old) × (text ≡ [])
AnswersAll (h ∷ commands) old new text =
    (between : Chain) × (first rest : List ℕ) × Answers h old between first × IsSoundState between.cards between.present
    × AnswersAll commands between new rest × (text ≡ first ++ rest)
