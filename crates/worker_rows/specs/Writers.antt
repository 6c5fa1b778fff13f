-- What a store stands for to which changes are written.
use Rattle.std.specs.Prelude.{◌≡◌, OnOk, Option, Result}
use Rattle.std.specs.FinMap as map
use Rattle.rollback.specs.Pointed.{KeepsCleanLeaves, Pointed}
use Rattle.tpcc_rows.specs.Changing.{after}
use Rattle.tpcc_rows.specs.RowMap.{Changes, Rows}
use Rattle.tpcc_rows.specs.declared.key.RowKey.{RowKey}
use Rattle.tpcc_rows.specs.declared.row.Row.{Row}

-- the rows are these after the changes
abbrev pub HasRowsAfter : Rows → Changes → Pointed → Type 0
HasRowsAfter rows changes store = store.rows ≡ after rows changes

-- whatever changes it stood for, it stands for them and the key's, unless it was refused
abbrev pub IsWritten : {W A E : Type 0} → (Rows → Changes → W → Type 0) → RowKey → Option Row → Result A E → W → W → Type 0
IsWritten Stands key change result old new = (rows : Rows) (changes : Changes) → Stands rows changes old → OnOk result (Stands rows (map.insert changes key change) new)

-- the points are those of before, and the leaves that were clean and still are have their rows
pub record KeepsPoints (old new : Pointed) : Type 0 where
  pub points : new.points ≡ old.points
  pub clean : KeepsCleanLeaves old new
