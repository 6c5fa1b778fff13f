-- Changes of a store that keep its clean leaves.
use Rattle.rollback.specs.Pointed.{KeepsCleanLeaves, Pointed}
use Rattle.std.proofs.Common.{◌∙◌}

-- of two changes one after the other
pub kept_twice : (old between new : Pointed) → KeepsCleanLeaves old between → KeepsCleanLeaves between new → KeepsCleanLeaves old new
kept_twice old between new first second = λ n clean. let late = second n clean in let early = first n late.0 in (early.0, late.1 ∙ early.1)
