-- Stages of a step that are the same, and what holds however they end.
use Rattle.std.proofs.Common.{◌≡◌, List, [], ◌∷◌, map, Result, Ok, Err, IfOk, refl, ap, ap₂, ◌∙◌}
use Rattle.requests.specs.declared.reply.RequestRefusal.{RequestRefusal}
use Rattle.tpcc_model.specs.Staging.{◌>>=◌, for_each}

module _ {A B : Type 0} where
  -- the same stage, and the same after each value that it ends with
  pub same-stage : (x y : Result A RequestRefusal) (f g : A → Result B RequestRefusal) → x ≡ y → ((a : A) → y ≡ Ok a → f a ≡ g a) → (x >>= f) ≡ (y >>= g)
  same-stage x y f g e each = ap (λ r. r >>= f) e ∙ at y each
    where
      at : (r : Result A RequestRefusal) → ((a : A) → r ≡ Ok a → f a ≡ g a) → (r >>= f) ≡ (r >>= g)
      at (Ok a) h = h a refl
      at (Err why) h = refl

  -- what holds of each refusal and of what comes after the stage
  pub after-stage : (P : Result B RequestRefusal → Type 0) (x : Result A RequestRefusal) (f : A → Result B RequestRefusal) → ((why : RequestRefusal) → P (Err why)) → ((a : A) → x ≡ Ok a → P (f a)) → P (x >>= f)
  after-stage P (Ok a) f refused done = done a refl
  after-stage P (Err why) f refused done = refused why

  -- a column that each stage hands on
  pub for_each-hands_on : {C : Type 0} (stage : A → Result B RequestRefusal) (given : A → C) (made : B → C) → ((x : A) → IfOk (stage x) (λ y. made y ≡ given x)) → (xs : List A) → IfOk (for_each stage xs) (λ ys. map made ys ≡ map given xs)
  for_each-hands_on stage given made each [] = refl
  for_each-hands_on stage given made each (x ∷ xs) = at (stage x) (each x) (for_each stage xs) (for_each-hands_on stage given made each xs)
    where
      at : (r : Result B RequestRefusal) → IfOk r (λ y. made y ≡ given x) → (q : Result (List B) RequestRefusal) → IfOk q (λ ys. map made ys ≡ map given xs) → IfOk (r >>= λ y. q >>= λ ys. Ok (y ∷ ys)) (λ ys. map made ys ≡ map given (x ∷ xs))
      at (Ok y) h (Ok ys) k = ap₂ (λ c cs. c ∷ cs) h k
      at (Ok y) h (Err why) k = tt
      at (Err why) h q k = tt
