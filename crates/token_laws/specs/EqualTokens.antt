-- What equal tokens say.
use Rattle.std.specs.Prelude.{◌≡◌, ◌⊎◌, [], IsSomeAnd}
use Rattle.token_laws.specs.Covered.{Covered, token}
use Rattle.token_laws.specs.CoveredLimits.{IsWithinLimits}
use Rattle.token_laws.specs.Collisions.{IsCollision, collision}

-- one batch number, token before, database and replies; and where there are replies, one number of the first
pub record AreSame (a b : Covered) : Type 0 where
  pub sequence : a.sequence ≡ b.sequence
  pub prior : a.prior ≡ b.prior
  pub database : a.database ≡ b.database
  pub replies : a.replies ≡ b.replies
  pub first : (a.replies ≡ []) ⊎ (a.first ≡ b.first)

-- what equal tokens cover is the same, or the search gives two different texts with one SHA-256
abbrev pub EqualTokens : Type 0
EqualTokens = (a b : Covered) → IsWithinLimits a → IsWithinLimits b → token a ≡ token b → AreSame a b ⊎ IsSomeAnd (collision a b) IsCollision
