-- Rows by key.
use Rattle.std.specs.Prelude.{◌≡◌, ℕ, true, map as each, Some}
use Rattle.std.specs.FinMap as map
use Rattle.tables.specs.Keys.{key_of}
use Rattle.tpcc_rows.specs.Ranks.{IsNumbered, rank}
use Rattle.tpcc_rows.specs.declared.key.RowKey.{RowKey}
use Rattle.tpcc_rows.specs.declared.row.Row.{Row}
use Rattle.tpcc_rows.specs.RowKinds.{fits}
use Rattle.tpcc_rows.specs.RowMap.{Rows}
use Rattle.row_tables.specs.RankRows.{RankRows}

-- the rows by key
unfoldable pub keyed : RankRows → Rows
keyed m = map.from_entries (each (λ e. (key_of e.0, e.1)) (map.entries m))

-- the rank of a key whose numbers are within their limits
pub record IsRank (r : ℕ) : Type 0 where
  pub key : RowKey
  pub numbered : IsNumbered key
  pub ranked : rank key ≡ r

-- the rank of a key of the row's kind
pub record IsKept (r : ℕ) (x : Row) : Type 0 where
  pub is_rank : IsRank r
  pub fit : fits is_rank.key x ≡ true

-- each row is of its rank's kind
pub record AreKept (m : RankRows) : Type 0 where
  pub kept : (r : ℕ) (x : Row) → map.get m r ≡ Some x → IsKept r x

-- and there are so many of them
pub record IsCounted (m : RankRows) (count : ℕ) : Type 0 where
  pub are_kept : AreKept m
  pub counted : count ≡ map.len m
