-- Sets of leaves, a bit each.
use Rattle.std.specs.Prelude.{◌≡◌, ℕ, Bool, false, ◌||◌, eqb, List}
use Rattle.std.specs.List.{list_any}
use Rattle.std.specs.FinMap as map
use Rattle.tpcc_rows.specs.Leaves.{leaf}
use Rattle.tpcc_rows.specs.RowMap.{Changes}
use Rattle.bit_sets.specs.BitSets.{has_bit}

-- whether the leaf is one of them
abbrev pub is_dirty : List ℕ → ℕ → Bool
is_dirty leaves n = has_bit leaves n

abbrev pub AreClean : List ℕ → Type 0
AreClean leaves = (n : ℕ) → is_dirty leaves n ≡ false

-- the new leaves are the old ones and this one
abbrev pub HasAlso : List ℕ → ℕ → List ℕ → Type 0
HasAlso old leaf new = (n : ℕ) → is_dirty new n ≡ (eqb n leaf || is_dirty old n)

-- whether one of the changes is on the leaf
abbrev pub changes_leaf : Changes → ℕ → Bool
changes_leaf changes n = list_any (λ change. eqb n (leaf change.0)) (map.entries changes)

-- the new leaves are the old ones and those of the changes
abbrev pub HasAlsoThose : List ℕ → Changes → List ℕ → Type 0
HasAlsoThose old changes new = (n : ℕ) → is_dirty new n ≡ (changes_leaf changes n || is_dirty old n)
