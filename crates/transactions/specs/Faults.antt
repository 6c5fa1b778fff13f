-- What a fault stands for.
use Rattle.std.specs.Prelude.{◌≡◌, Bool, true, false, Result, Ok, Err, MatchResult}
use Rattle.requests.specs.declared.reply.RequestRefusal.{RequestRefusal}
use Rattle.transactions.specs.declared.fault.Fault.{Fault}
use Rattle.transactions.specs.declared.fault.Fault.TheVariants as fault

abbrev pub IsRefused : RequestRefusal → Fault → Type 0
IsRefused why f = f ≡ fault.Refused why

abbrev pub IsStrayed : {A : Type 0} → A → Fault → Type 0
IsStrayed strayed f = f ≡ fault.Strayed

abbrev pub IsMemory : {A : Type 0} → A → Fault → Type 0
IsMemory refused f = f ≡ fault.Memory

-- a refusal is the definition's; memory may be refused at any time, and nothing strays
abbrev pub IsFaultOf : {A : Type 0} → Result A RequestRefusal → Fault → Type 0
IsFaultOf definition (fault.Refused why) = definition ≡ Err why
IsFaultOf definition fault.Strayed = ⊥
IsFaultOf definition fault.Memory = Unit {0}

-- the code's answer, seen by the view, is the definition's, where memory isn't refused
abbrev pub AnswersBy : {A B : Type 0} → (A → B) → Result B RequestRefusal → Result A Fault → Type 0
AnswersBy view definition result = MatchResult result (λ x. definition ≡ Ok (view x)) (IsFaultOf definition)

-- the same where the touch is within the view, and where it isn't, the code strays
abbrev pub IsFaultWithin : {A : Type 0} → Bool → Result A RequestRefusal → Fault → Type 0
IsFaultWithin within definition (fault.Refused why) = (within ≡ true) × (definition ≡ Err why)
IsFaultWithin within definition fault.Strayed = within ≡ false
IsFaultWithin within definition fault.Memory = Unit {0}

abbrev pub AnswersWithin : {A B : Type 0} → (A → B) → Bool → Result B RequestRefusal → Result A Fault → Type 0
AnswersWithin view within definition result = MatchResult result (λ x. (within ≡ true) × (definition ≡ Ok (view x))) (IsFaultWithin within definition)

-- a part of the code ends well, or strays where its touch isn't within the view
abbrev pub IsFaultUnless : Bool → Fault → Type 0
IsFaultUnless within (fault.Refused why) = ⊥
IsFaultUnless within fault.Strayed = within ≡ false
IsFaultUnless within fault.Memory = Unit {0}

abbrev pub EndsWithin : {A : Type 0} → Bool → Result A Fault → Type 0
EndsWithin within result = MatchResult result (λ x. within ≡ true) (IsFaultUnless within)
