-- The greatest of numbers, 0 where there are none.
use Rattle.std.proofs.Common.{◌≡◌, ℕ, max, Option, Some, None, unwrap_or, refl, arith}
use Rattle.tpcc_rows.specs.Picks.{larger_of}

pub or_zero-larger : (a b : Option ℕ) → unwrap_or (larger_of a b) 0 ≡ max (unwrap_or a 0) (unwrap_or b 0)
or_zero-larger None None = refl
or_zero-larger None (Some y) = omega arith
or_zero-larger (Some x) None = omega arith
or_zero-larger (Some x) (Some y) = refl
