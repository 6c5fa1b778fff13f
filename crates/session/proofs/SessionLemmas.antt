-- Sessions, and one command more.
use Rattle.std.proofs.Common.{◌≡◌, ◌∙◌, ℕ, List, [], ◌∷◌, ◌++◌, Option, Some, None, inl, inr, refl, sym, ap, subst, append_assoc, append-nil}
use Rattle.std.specs.Prelude.{IfOk, IfSome, Result, Ok, Err, Vec}
use Rattle.std.specs.Io.KnownBytes.{Appends}
use Rattle.commands.specs.Commands.{Gives, Hearing, IsOver, StopsBy}
use Rattle.commands.specs.declared.command.Heard.{Heard}
use Rattle.executor.specs.Executions.{refusal_for}
use Rattle.executor.specs.Chains.{Chain, extended}
use Rattle.executor.specs.States.{IsSoundState}
use Rattle.records.proofs.IoLemmas.{appends_twice}
use Rattle.records.specs.Io.{AppendsFront}
use Rattle.records.specs.declared.fault.ReadError.{ReadError}
use Rattle.requests.specs.Batches.{clean, fault}
use Rattle.requests.specs.declared.request.Batch.{Batch}
use Rattle.rollback.specs.declared.points.TheConstants.{POINTS}
use Rattle.runner.specs.Runs.{Taken}
use Rattle.runner.specs.Text.{batch_text}
use Rattle.runner.proofs.RunLemmas.{then_kept}
use Rattle.runner.specs.declared.fault.RunFault.{RunFault}
use Rattle.runner.specs.declared.fault.RunFault.TheVariants as run_fault
use Rattle.session.specs.Answers.{Answers, AnswersAll, AnswersBatch}
use Rattle.session.specs.SessionHeadline.{AreAnswered}
use Rattle.session.specs.Sessions.{LeavesAnswer, LeavesSession, Served}
use Rattle.session.proofs.SerialSessions.{sessions_are_serial}
use Rattle.memory_refusal.specs.declared.Memory.{Memory}

-- ---- commands given
-- these were given of all, and the others are left
abbrev pub HasGiven : Option Hearing → List Heard → Option Hearing → Type 0
HasGiven None done left = Unit {0}
HasGiven (Some all) done None = ⊥
HasGiven (Some all) done (Some left) = all ≡ (done ++ left.0, left.1)

pub given-none : (all left : Option Hearing) → left ≡ all → HasGiven all [] left
given-none None left same = tt
given-none (Some all) None same = cc
given-none (Some all) (Some left) same = cc

pub given-more : (all old new : Option Hearing) (done : List Heard) (c : Heard) → HasGiven all done old → Gives c old new → HasGiven all (done ++ c ∷ []) new
given-more None old new done c h gives = tt
given-more (Some all) None new done c h gives = absurd h
given-more (Some all) (Some old) None done c h gives = absurd gives
given-more (Some all) (Some old) (Some new) done c h gives =
    h ∙ ap (λ (r : Hearing). (done ++ r.0, r.1)) gives ∙ ap (λ (cs : List Heard). (cs, new.1)) (sym (append_assoc done (c ∷ []) new.0))

-- ---- commands answered
pub answers-more : (done : List Heard) (c : Heard) (first mid last : Chain) (text more : List ℕ) → AnswersAll done first mid text → Answers c mid last more → IsSoundState last.cards last.present → AnswersAll (done ++ c ∷ []) first last (text ++ more)
answers-more [] c first mid last text more all one sound =
    (last, more, [], subst (λ (l : Chain). Answers c l last more) all.0 one, sound, (refl, refl), ap (λ (t : List ℕ). t ++ more) all.1 ∙ sym (append-nil more))
answers-more (d ∷ done) c first mid last text more (between, front, rest, answered, kept, all, parts) one sound =
    (between, front, rest ++ more, answered, kept, answers-more done c between mid last rest more all one sound, ap (λ (t : List ℕ). t ++ more) parts ∙ append_assoc front rest more)

-- a beginning of one text more
pub front_more : (old mid new : Taken) (text more : List ℕ) → Appends old mid text → AppendsFront mid new more → AppendsFront old new (text ++ more)
front_more old mid new text more written (front, rest, parts, took) =
    (text ++ front, rest, ap (λ (t : List ℕ). text ++ t) parts ∙ sym (append_assoc text front rest), appends_twice old mid new text front written took)

-- ---- a session that ends
module _ (chain mid : Chain) (done : List Heard) (text : List ℕ) (old now : Taken)
    (alone : chain.earlier ≡ []) (sound : IsSoundState chain.cards chain.present) (answered : AnswersAll done chain mid text) (written : Appends old now text) where
  are_answered : (commands : List Heard) → commands ≡ done → AreAnswered commands chain mid text
  are_answered commands same = subst (λ (cs : List Heard). AreAnswered cs chain mid text) (sym same) (sessions_are_serial done chain mid text alone sound answered)

  -- where the text ends
  pub served : (all left : Option Hearing) → HasGiven all done left → IsOver left → IfSome all (λ hearing. Served chain hearing old now)
  served None left given over = tt
  served (Some all) None given over = absurd given
  served (Some all) (Some left) given over =
      let is : all ≡ (done, clean) = given ∙ ap (λ (r : Hearing). (done ++ r.0, r.1)) over ∙ ap (λ (cs : List Heard). (cs, clean)) (append-nil done) in
      (ap (λ (r : Hearing). r.1) is, (mid, text, are_answered all.0 (ap (λ (r : Hearing). r.0) is), written))

  -- where no further command is read
  pub unread : (e : ReadError) (all left : Option Hearing) → HasGiven all done left → StopsBy e left → IfSome all (λ hearing. LeavesSession (run_fault.Read e) chain hearing old now)
  unread e None left given stops = tt
  unread e (Some all) None given stops = absurd given
  unread e (Some all) (Some left) given (inl memory) = inr (inl memory, (done, left.0, ap (λ (r : Hearing). r.0) given, (mid, text, are_answered done refl, written)))
  unread e (Some all) (Some left) given (inr (inl read)) = inr (inr read, (done, left.0, ap (λ (r : Hearing). r.0) given, (mid, text, are_answered done refl, written)))
  unread e (Some all) (Some left) given (inr (inr stop)) =
      let is : all ≡ (done, fault e) = given ∙ ap (λ (r : Hearing). (done ++ r.0, r.1)) stop ∙ ap (λ (cs : List Heard). (cs, fault e)) (append-nil done) in
      inl (ap (λ (r : Hearing). r.1) is, (mid, text, are_answered all.0 (ap (λ (r : Hearing). r.0) is), written))

  -- where the next command isn't answered
  pub unanswered : (e : RunFault) (c : Heard) (new : Taken) (all before left : Option Hearing) → HasGiven all done before → Gives c before left → LeavesAnswer e c mid now new
      → IfSome all (λ hearing. LeavesSession e chain hearing old new)
  unanswered e c new None before left given gives leaves = tt
  unanswered e c new (Some all) None left given gives leaves = absurd given
  unanswered e c new (Some all) (Some before) None given gives leaves = absurd gives
  unanswered run_fault.Memory c new (Some all) (Some before) (Some left) given gives leaves =
      (done, before.0, ap (λ (r : Hearing). r.0) given, (mid, text, are_answered done refl, then_kept old now new text written leaves))
  unanswered run_fault.Write c new (Some all) (Some before) (Some left) given gives (last, more, one, still, front) = (
    done ++ c ∷ [],
    left.0,
    ap (λ (r : Hearing). r.0) (given-more (Some all) (Some before) (Some left) done c given gives),
    last,
    text ++ more,
    sessions_are_serial (done ++ c ∷ []) chain last (text ++ more) alone sound (answers-more done c chain mid last text more answered one still),
    front_more old now new text more written front,
  )
  unanswered (run_fault.Read e) c new (Some all) (Some before) (Some left) given gives leaves = absurd leaves
  unanswered (run_fault.Load e) c new (Some all) (Some before) (Some left) given gives leaves = absurd leaves
  unanswered (run_fault.Exec e) c new (Some all) (Some before) (Some left) given gives leaves = absurd leaves

-- ---- a batch that was executed
pub executed : {A : Type 0} (r : Result (Vec ℕ A) Memory) (batch : Batch) (old new : Chain) (whole : List ℕ) → refusal_for POINTS old batch ≡ None → new ≡ extended old batch
    → whole ≡ batch_text old.cards old.present batch → IfOk r (λ text. text.items ≡ whole) → IfOk r (λ text. AnswersBatch batch old new text.items)
executed (Ok text) batch old new whole admitted chain is same = inl (admitted, chain, same ∙ is)
executed (Err e) batch old new whole admitted chain is same = tt
