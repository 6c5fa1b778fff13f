-- How a step is composed: stage by stage, up to the first refusal.
use Rattle.std.specs.Prelude.{List, [], ◌∷◌, Option, Result, Ok, Err}
use Rattle.std.specs.Option.{ok_or}
use Rattle.requests.specs.declared.reply.RequestRefusal.{RequestRefusal}
use Rattle.requests.specs.declared.reply.RequestRefusal.TheVariants.{UnknownKey, LimitReached}

infixl 10 ◌>>=◌
abbrev pub ◌>>=◌ : {A B : Type 0} → Result A RequestRefusal → (A → Result B RequestRefusal) → Result B RequestRefusal
Ok x >>= f = f x
Err e >>= f = Err e

-- what must exist, else the key is unknown
abbrev pub known : {A : Type 0} → Option A → Result A RequestRefusal
known o = ok_or o UnknownKey

-- what must be within its limits
abbrev pub within : {A : Type 0} → Option A → Result A RequestRefusal
within o = ok_or o LimitReached

-- a stage for each of a list, up to the first refusal
abbrev pub for_each : {A B : Type 0} → (A → Result B RequestRefusal) → List A → Result (List B) RequestRefusal
for_each stage [] = Ok []
for_each stage (x ∷ xs) = do
  y ← stage x
  ys ← for_each stage xs
  Ok (y ∷ ys)
