use Rattle.std.proofs.Common.{◌≡◌, ℕ, ◌<◌, false, ◌∷◌, []}
use Rattle.sha2.specs.Sha256.{sha256}
use Rattle.tpcc_model.specs.Roots.{leaf_hash}
use Rattle.rollback.specs.Marks.{is_dirty}
use Rattle.merkle.proofs.leaves.filled_leaves.Given as goal

-- of the leaves before this one those with rows are in the set
abbrev pub invariant-loop-n : goal.invariant-loop-n
invariant-loop-n l = (k : ℕ) → k < l.n → is_dirty l.filled k ≡ false → leaf_hash l.store.rows k ≡ sha256 (0 ∷ [])
