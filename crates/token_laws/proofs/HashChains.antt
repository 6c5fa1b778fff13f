-- Hash chains whose newest tokens are equal are the same as far back as both go, or a collision is found going back.
use Rattle.std.proofs.Common.{◌≡◌, ◌⊎◌, inl, inr, ℕ, List, [], ◌∷◌, Option, Some, None, refl, sym, ◌∙◌}
use Rattle.std.specs.Option.{option_or}
use Rattle.std.specs.Prelude.{IsSomeAnd}
use Rattle.token_laws.specs.Collisions.{IsCollision, collision}
use Rattle.token_laws.specs.Covered.{Covered, token}
use Rattle.token_laws.specs.CoveredLimits.{IsWithinLimits}
use Rattle.token_laws.specs.EqualTokens.{AreSame}
use Rattle.token_laws.specs.HashChains.{AreSameSince, EqualHashChains, collision_since}
use Rattle.token_laws.proofs.EqualTokens.{none_is_same, some_collides}

-- what is found for the newest comes first; where nothing is, they are the same, and so are their tokens before
newest_first : (a b : Covered) (o later : Option (List ℕ × List ℕ)) (Earlier : Type 0) → collision a b ≡ o → IsWithinLimits a → IsWithinLimits b → token a ≡ token b
    → (a.prior ≡ b.prior → Earlier ⊎ IsSomeAnd later IsCollision) → (AreSame a b × Earlier) ⊎ IsSomeAnd (option_or o later) IsCollision
newest_first a b (Some pair) later Earlier is p q equal back = inr (some_collides a b p q pair is)
newest_first a b None later Earlier is p q equal back =
    let same = none_is_same a b p q equal is in
    elim (back same.prior) [
      | inl earlier ↦ inl (same, earlier)
      | inr found ↦ inr found
    ]

pub equal_hash_chains : EqualHashChains
unfolding collision_since
equal_hash_chains a b [] ys h g equal = newest_first a b (collision a b) None (Unit {0}) refl h.limits.0 g.limits.0 equal (λ prior. inl tt)
equal_hash_chains a b (x ∷ xs) [] h g equal = newest_first a b (collision a b) None (Unit {0}) refl h.limits.0 g.limits.0 equal (λ prior. inl tt)
equal_hash_chains a b (x ∷ xs) (y ∷ ys) h g equal =
    newest_first a b (collision a b) (collision_since (x ∷ xs) (y ∷ ys)) (AreSameSince (x ∷ xs) (y ∷ ys)) refl h.limits.0 g.limits.0 equal (λ prior.
    equal_hash_chains x y xs ys (record { limits = h.limits.1; linked = h.linked.1 }) (record { limits = g.limits.1; linked = g.linked.1 }) (sym h.linked.0 ∙ prior ∙ g.linked.0))
