-- A refusal of the definition, as the code hands it on.
use Rattle.std.proofs.Common.{◌≡◌, Result, Ok, Err, subst, sym}
use Rattle.std.specs.Result.{IsErrAnd}
use Rattle.requests.specs.declared.reply.RequestRefusal.{RequestRefusal}
use Rattle.transactions.specs.declared.fault.Fault.{Fault}
use Rattle.transactions.specs.declared.fault.Fault.TheVariants as fault
use Rattle.transactions.specs.Faults.{AnswersBy, IsFaultOf, IsRefused}

pub refused_by : {A B : Type 0} (view : A → B) (definition : Result B RequestRefusal) (result : Result A Fault) (why : RequestRefusal) → definition ≡ Err why → IsErrAnd result (IsRefused why) → AnswersBy view definition result
refused_by view definition (Ok x) why is by = absurd by
refused_by view definition (Err fault) why is by = subst (IsFaultOf definition) (sym by) is

-- a fault of one stage, where the whole is refused as the stage is
pub faulted_by : {A B C : Type 0} (view : A → C) (stage : Result B RequestRefusal) (whole : Result C RequestRefusal) (f : Fault) (result : Result A Fault) → ((why : RequestRefusal) → stage ≡ Err why → whole ≡ Err why) → IsFaultOf stage f → IsErrAnd result (λ g. g ≡ f) → AnswersBy view whole result
faulted_by view stage whole f (Ok x) on is by = absurd by
faulted_by view stage whole (fault.Refused why) (Err g) on is by = subst (IsFaultOf whole) (sym by) (on why is)
faulted_by view stage whole fault.Strayed (Err g) on is by = absurd is
faulted_by view stage whole fault.Memory (Err g) on is by = subst (IsFaultOf whole) (sym by) tt
