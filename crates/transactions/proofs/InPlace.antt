-- What is executed in place.
use Rattle.std.proofs.Common.{◌≡◌, ℕ, true, false, Result, Ok, Err, refl, sym, ap, subst, ◌∙◌}
use Rattle.std.specs.FinMap.{empty}
use Rattle.catalog.specs.CardMap.{Cards}
use Rattle.requests.specs.Kinds.{kind_of}
use Rattle.requests.specs.declared.reply.Reply.{Reply}
use Rattle.requests.specs.declared.reply.Reply.TheVariants as reply
use Rattle.requests.specs.declared.reply.RequestRefusal.{RequestRefusal}
use Rattle.requests.specs.declared.request.Request.{Request}
use Rattle.rollback.specs.Pointed.{Pointed}
use Rattle.tpcc_rows.specs.Changing.{after}
use Rattle.tpcc_rows.specs.RowMap.{Changes, Rows}
use Rattle.tpcc_rows.proofs.Changes.{after-empty}
use Rattle.tpcc_model.specs.Database.{Database, database}
use Rattle.tpcc_model.specs.Steps.{StepOutcome, step}
use Rattle.tpcc_model.specs.Touches.{touch}
use Rattle.worker_rows.specs.Views.{View, covers}
use Rattle.worker_rows.specs.Writers.{KeepsPoints}
use Rattle.worker_rows.proofs.AllCovered.{covers_whole}
use Rattle.transactions.specs.InPlace.{AnswersInPlace, whole}
use Rattle.transactions.specs.OnViews.{ExecutesOn}
use Rattle.transactions.specs.Outcomes.{Executes, concluded}
use Rattle.transactions.specs.declared.fault.Fault.{Fault}
use Rattle.transactions.specs.declared.fault.Fault.TheVariants as fault
use Rattle.transactions.proofs.Within.{executes_within}

-- what is answered by an answer, and then applied, is answered in place
pub applied_answer : (Answers : Result (Reply × Changes) Fault → Type 0) (answer : Result (Reply × Changes) Fault) (before now : Rows) (result : Result Reply Fault) → Answers answer → AnswersInPlace (λ given. given ≡ answer) before now result
    → AnswersInPlace Answers before now result
applied_answer Answers answer before now (Ok reply) so h = (h.0, subst Answers (sym h.1) so, h.2)
applied_answer Answers answer before now (Err (fault.Refused why)) so h = (subst Answers (sym h.0) so, h.1)
applied_answer Answers answer before now (Err fault.Strayed) so h = (subst Answers (sym h.0) so, h.1)
applied_answer Answers answer before now (Err fault.Memory) so h = tt

-- a store to which nothing is written keeps its points
pub keeps_itself : (store : Pointed) → KeepsPoints store store
keeps_itself store = record { points = refl; clean = λ n clean. (clean, refl) }

-- and so does one that is the same in the end
pub keeps_same : {before now : Pointed} → now ≡ before → KeepsPoints before now
keeps_same {before} same = subst (KeepsPoints before) (sym same) (keeps_itself before)

-- it stands for its rows and no changes
pub unchanged : {before now : Pointed} → now ≡ before → now.rows ≡ after before.rows empty
unchanged {before} same = ap (λ (store : Pointed). store.rows) same ∙ sym (after-empty before.rows)

module _ (view : View) (cards : Cards) (q : Request) (number moment : ℕ) where
  abbrev db : Database
  db = database cards view.rows

  abbrev outcome : StepOutcome
  outcome = step db q number moment

  -- the code's answer to the request on the rows of the view
  abbrev pub Answered : Result (Reply × Changes) Fault → Type 0
  Answered answer = ExecutesOn (λ d. touch d q) (λ d. step d q number moment) cards view (concluded (kind_of q) answer)

  on_all : (answer : Result (Reply × Changes) Fault) → Answered answer → Executes (covers view (touch db q)) outcome (concluded (kind_of q) answer)
  on_all answer = executes_within view cards q number moment (concluded (kind_of q) answer)

  -- a reply is that of the step, whose touch is within the view, and so are the rows
  pub record IsReplied (r : Reply) (now : Rows) : Type 0 where
    pub within : covers view (touch db q) ≡ true
    pub reply : r ≡ outcome.reply
    pub rows : now ≡ after view.rows outcome.changes

  pub answered : (now : Rows) (r : Reply) → AnswersInPlace Answered view.rows now (Ok r) → IsReplied r now
  answered now r h =
      let is = on_all (Ok (r, h.0)) h.1 in
      record { within = is.0; reply = is.1.reply; rows = h.2 ∙ ap (after view.rows) is.1.changes }

  pub refused : (now : Rows) (why : RequestRefusal) (f : Fault) → f ≡ fault.Refused why → AnswersInPlace Answered view.rows now (Err f) → IsReplied (reply.Refused (kind_of q) why) now
  refused now why f is h =
      let here = subst (λ (g : Fault). AnswersInPlace Answered view.rows now (Err g)) is h in
      let same = on_all (Err (fault.Refused why)) here.0 in
      record { within = same.0; reply = same.1.reply; rows = here.1 ∙ sym (after-empty view.rows) ∙ ap (after view.rows) same.1.changes }

  pub strayed : (now : Rows) (f : Fault) → f ≡ fault.Strayed → AnswersInPlace Answered view.rows now (Err f) → (covers view (touch db q) ≡ false) × (now ≡ view.rows)
  strayed now f is h =
      let here = subst (λ (g : Fault). AnswersInPlace Answered view.rows now (Err g)) is h in
      (on_all (Err fault.Strayed) here.0, here.1)

-- on all rows nothing strays
pub none_strays : (cards : Cards) (rows : Rows) (q : Request) (number moment : ℕ) (now : Rows) (f : Fault) → f ≡ fault.Strayed → AnswersInPlace (Answered (whole rows) cards q number moment) rows now (Err f) → ⊥
none_strays cards rows q number moment now f is h =
    let no : true ≡ false = sym (covers_whole rows (touch (database cards rows) q)) ∙ (strayed (whole rows) cards q number moment now f is h).0 in cc
