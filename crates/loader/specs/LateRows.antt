-- Rows that come late, and those that don't.
use Rattle.std.specs.Prelude.{◌≡◌, ◌++◌, List, None, is_some, true}
use Rattle.std.specs.BTreeSet.{BTreeSet, contains}
use Rattle.std.specs.FinMap as map
use Rattle.std.specs.List.{list_all}
use Rattle.tpcc_rows.specs.Changing.{AreRows, with_each}
use Rattle.tpcc_rows.specs.RowKinds.{fits}
use Rattle.tpcc_rows.specs.RowMap.{Rows, row_key_cmp}
use Rattle.tpcc_rows.specs.declared.key.RowKey.{RowKey}
use Rattle.tpcc_rows.specs.declared.row.Row.{Row}

-- rows in a list, in any order: the last row of a key counts
abbrev pub listed : List (RowKey × Row) → Rows
listed rows = with_each rows map.empty

-- each row is of its key's kind, and these are the keys
pub record AreListed (rows : List (RowKey × Row)) (keys : BTreeSet RowKey) : Type 0 where
  pub fit : list_all (λ row. fits row.0 row.1) rows ≡ true
  pub all : (k : RowKey) → contains row_key_cmp keys k ≡ is_some (map.get (listed rows) k)

-- the late rows and the others; of a key that has both, the late one counts
unfoldable pub over : Rows → Rows → Rows
over late rows = map.from_entries (map.entries late ++ map.entries rows)

-- no key has a row in both
abbrev pub AreApart : Rows → Rows → Type 0
AreApart late rows = (k : RowKey) → is_some (map.get late k) ≡ true → map.get rows k ≡ None

-- and each of the others is of its key's kind
pub record AreGathered (late rows : Rows) : Type 0 where
  pub apart : AreApart late rows
  pub fit : AreRows rows
