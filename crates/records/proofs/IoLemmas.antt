-- Runs of pushes.
use Rattle.std.proofs.Common.{◌≡◌, ◌∙◌, ℕ, List, ◌++◌, take, drop, Option, Some, None, sym, ap, append_assoc}
use Rattle.std.proofs.lemmas.List.{take-append-drop}
use Rattle.std.specs.Io.KnownBytes.{Appends}

-- known bytes that grew twice
pub appends_twice : (old mid new : Option (List ℕ)) (front more : List ℕ) → Appends old mid front → Appends mid new more → Appends old new (front ++ more)
appends_twice None mid new front more a b = tt
appends_twice (Some xs) None new front more a b = absurd a
appends_twice (Some xs) (Some ys) None front more a b = b
appends_twice (Some xs) (Some ys) (Some zs) front more a b = b ∙ rw a (append_assoc xs front more)

-- one push of a run
pub push_more : (old mid new : Option (List ℕ)) (text front rest : List ℕ) (n : ℕ) → text ≡ front ++ rest → Appends old mid front → Appends mid new (take n rest)
    → (x : List ℕ) × (text ≡ x ++ drop n rest) × Appends old new x
push_more old mid new text front rest n e a b =
    (front ++ take n rest, e ∙ ap (λ (t : List ℕ). front ++ t) (sym (take-append-drop n rest)) ∙ sym (append_assoc front (take n rest) (drop n rest)), appends_twice old mid new front (take n rest) a b)
