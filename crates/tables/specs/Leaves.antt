-- The leaves of ranks, in groups of sixteen consecutive ones.
use Rattle.std.specs.Prelude.{ℕ, ◌/◌, ◌%◌}
use Rattle.tables.specs.Keys.{key_of}
use Rattle.tpcc_rows.specs.Leaves.{leaf}

-- the leaf of a rank: its key's
abbrev pub leaf_of : ℕ → ℕ
leaf_of r = leaf (key_of r)

-- its group
abbrev pub group_of : ℕ → ℕ
group_of r = leaf_of r / 16

-- its place in the group
abbrev pub in_group : ℕ → ℕ
in_group r = leaf_of r % 16
