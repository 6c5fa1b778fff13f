-- Rows in tables, and rows aside.
use Rattle.std.specs.Prelude.{◌≡◌, ◌≤◌, ◌+◌, ℕ, List, ◌++◌, true, is_some, None, length, refl}
use Rattle.std.specs.Coded.{Coded, code_by, coded×, coded_ℕ}
use Rattle.std.specs.FinMap as map
use Rattle.tpcc_rows.specs.declared.key.RowKey.{RowKey}
use Rattle.tpcc_rows.specs.declared.row.Row.{Row}
use Rattle.tpcc_rows.specs.Changing.{AreRows}
use Rattle.tpcc_rows.specs.Places.{are_in_order}
use Rattle.tpcc_rows.specs.RowMap.{Rows, row_key_cmp, rows_code}

-- rows, and for how many more there is room aside
pub record Roomy : Type 0 where
  pub rows : Rows
  pub room : ℕ

abbrev pub roomy_code : Coded Roomy
roomy_code = code_by (Rows × ℕ) (coded× rows_code coded_ℕ) (λ s. (s.rows, s.room)) (λ p. record { rows = p.0; room = p.1 }) (λ _. refl)

-- rows in the order of their keys, and room for so many more
pub record IsHeld (rows : List (RowKey × Row)) (capacity room : ℕ) : Type 0 where
  pub order : are_in_order row_key_cmp rows ≡ true
  pub enough : length rows + room ≤ capacity

-- the rows of both
unfoldable pub both : Rows → Rows → Rows
both aside rows = map.from_entries (map.entries aside ++ map.entries rows)

-- no key has a row in both, those aside are of their keys' kinds, and there are as many as in both together
pub record IsBeside (aside rows : Rows) : Type 0 where
  pub kinds : AreRows aside
  pub apart : (key : RowKey) → is_some (map.get aside key) ≡ true → map.get rows key ≡ None
  pub counted : map.len aside + map.len rows ≡ map.len (both aside rows)
