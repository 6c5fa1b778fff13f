-- The ranks of rows, by leaf.
use Rattle.std.specs.Prelude.{◌≡◌, ℕ, ⊤, true, is_some, All, drop, List, [], ◌∷◌, Option}
use Rattle.std.specs.FinMap as map
use Rattle.row_tables.specs.Stored.{IsRank}
use Rattle.rollback.specs.Pointed.{Pointed}
use Rattle.tables.specs.ByRank.{ByRank}
use Rattle.tpcc_rows.specs.Ranks.{IsNumbered, rank}
use Rattle.tpcc_rows.specs.RowMap.{Rows}
use Rattle.tpcc_rows.specs.declared.key.RowKey.{RowKey}
use Rattle.tpcc_rows.specs.declared.row.Row.{Row}

-- the key's rank is among these
pub record IsListed (ranks : ByRank ⊤) (key : RowKey) : Type 0 where
  pub numbered : IsNumbered key
  pub there : is_some (map.get ranks (rank key)) ≡ true

-- the rank of each key that gets a row is among these
abbrev pub AreNewListed : ByRank ⊤ → List (RowKey × Option Row) → Type 0
AreNewListed ranks [] = ⊤
AreNewListed ranks (change ∷ changes) = (is_some change.1 ≡ true → IsListed ranks change.0) × AreNewListed ranks changes

-- the rank of each key with a row is among these
pub record AreListed (ranks : ByRank ⊤) (rows : Rows) : Type 0 where
  pub listed : (key : RowKey) → is_some (map.get rows key) ≡ true → IsListed ranks key

-- these are ranks of keys
abbrev pub AreRanks : ByRank ⊤ → Type 0
AreRanks ranks = (r : ℕ) → is_some (map.get ranks r) ≡ true → IsRank r

-- a store without its oldest point
abbrev pub without_oldest : Pointed → Pointed
without_oldest store = record store { points = drop 1 store.points }

-- these are ranks of keys, among them those of all keys that have a row, or had one at a point
pub record AreLeaves (ranks : ByRank ⊤) (store : Pointed) : Type 0 where
  pub keys : AreRanks ranks
  pub present : AreListed ranks store.rows
  pub before : All (AreListed ranks) store.points
