-- What the code's types stand for.
use Rattle.std.specs.Prelude.{◌≡◌, Bool, true, false, Result, Ok, Err, MatchResult}
use Rattle.std.specs.FinMap as map
use Rattle.requests.specs.declared.reply.Reply.{Reply}
use Rattle.requests.specs.declared.reply.Reply.TheVariants as reply
use Rattle.requests.specs.declared.reply.RequestRefusal.{RequestRefusal}
use Rattle.requests.specs.declared.request.RequestKind.{RequestKind}
use Rattle.tpcc_model.specs.Steps.{StepOutcome}
use Rattle.tpcc_rows.specs.RowMap.{Changes}
use Rattle.transactions.specs.declared.fault.Fault.{Fault}
use Rattle.transactions.specs.declared.fault.Fault.TheVariants as fault
use Rattle.transactions.specs.declared.stop.Stop.{Stop}
use Rattle.transactions.specs.declared.stop.Stop.TheVariants as stop

-- the pair is the outcome
pub record IsOutcome (outcome : StepOutcome) (pair : Reply × Changes) : Type 0 where
  pub reply : pair.0 ≡ outcome.reply
  pub changes : pair.1 ≡ outcome.changes

-- it strays where the touch isn't within the view; memory may be refused at any time
abbrev pub IsErrorWithin : Bool → Stop → Type 0
IsErrorWithin within stop.Strayed = within ≡ false
IsErrorWithin within stop.Memory = Unit {0}

-- the outcome where the touch is within the view
abbrev pub Executes : Bool → StepOutcome → Result (Reply × Changes) Stop → Type 0
Executes within outcome result = MatchResult result (λ pair. (within ≡ true) × IsOutcome outcome pair) (IsErrorWithin within)

-- an answer to a request of a kind: what is refused gets a reply, and changes nothing
abbrev pub concluded : RequestKind → Result (Reply × Changes) Fault → Result (Reply × Changes) Stop
concluded k (Ok outcome) = Ok outcome
concluded k (Err (fault.Refused why)) = Ok (reply.Refused k why, map.empty)
concluded k (Err fault.Strayed) = Err stop.Strayed
concluded k (Err fault.Memory) = Err stop.Memory

-- an answer of the code, as the definitions have it
abbrev pub viewed : {A B : Type 0} → (A → B) → Result A RequestRefusal → Result B RequestRefusal
viewed view (Ok x) = Ok (view x)
viewed view (Err why) = Err why
