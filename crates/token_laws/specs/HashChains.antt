-- Hash chains: tokens of which each hashes the one before; and what equal tokens say of the batches before.
use Rattle.std.specs.Prelude.{◌≡◌, ◌⊎◌, ℕ, List, [], ◌∷◌, Option, None, zip, IsSomeAnd}
use Rattle.std.specs.List.{AllByRecursion}
use Rattle.std.specs.Option.{option_or}
use Rattle.token_laws.specs.Covered.{Covered, token}
use Rattle.token_laws.specs.CoveredLimits.{IsWithinLimits}
use Rattle.token_laws.specs.Collisions.{IsCollision, collision}
use Rattle.token_laws.specs.EqualTokens.{AreSame}

-- the newest first: each one's previous token is the next one's token
abbrev pub AreLinked : Covered → List Covered → Type 0
AreLinked newest [] = Unit {0}
AreLinked newest (earlier ∷ others) = (newest.prior ≡ token earlier) × AreLinked earlier others

-- the newest of them, and those before it, the newest first
pub record IsHashChain (newest : Covered) (earlier : List Covered) : Type 0 where
  pub limits : AllByRecursion IsWithinLimits (newest ∷ earlier)
  pub linked : AreLinked newest earlier

-- as far back as both go, what tokens cover is the same
abbrev pub AreSameSince : List Covered → List Covered → Type 0
AreSameSince xs ys = AllByRecursion (λ (pair : Covered × Covered). AreSame pair.0 pair.1) (zip xs ys)

-- the first that is found going back
unfoldable pub collision_since : List Covered → List Covered → Option (List ℕ × List ℕ)
collision_since [] ys = None
collision_since (x ∷ xs) [] = None
collision_since (x ∷ xs) (y ∷ ys) = option_or (collision x y) (collision_since xs ys)

-- where the newest tokens of two hash chains are equal, all that the tokens of both cover is the same, as far back as both go,
-- or the search gives two different texts with one SHA-256
abbrev pub EqualHashChains : Type 0
EqualHashChains = (a b : Covered) (before_a before_b : List Covered) → IsHashChain a before_a → IsHashChain b before_b → token a ≡ token b
    → AreSameSince (a ∷ before_a) (b ∷ before_b) ⊎ IsSomeAnd (collision_since (a ∷ before_a) (b ∷ before_b)) IsCollision
