-- The rows of a leaf as slots: one for each rank, filled where its key has a row.
use Rattle.std.specs.Prelude.{ℕ, ⊤, List, map as each, Option, option_map, option_and_then}
use Rattle.std.specs.FinMap as map
use Rattle.std.specs.List.{filter_map}
pub use Rattle.row_tables.specs.Parts.{lent}
use Rattle.row_store.specs.declared.leaf_page.LeafPage.{LeafPage}
use Rattle.tables.specs.Keys.{key_at}
use Rattle.tpcc_rows.specs.RowMap.{Rows}
use Rattle.tpcc_rows.specs.declared.key.RowKey.{RowKey}
use Rattle.tpcc_rows.specs.declared.row.Row.{Row}

-- the key and row of a rank, if there is one
abbrev pub slot : Rows → ℕ × ⊤ → Option (RowKey × Row)
slot rows e = option_and_then (λ key. option_map (λ row. (key, row)) (map.get rows key)) (key_at e.0)

abbrev pub slots : LeafPage → List (Option (RowKey × Row))
slots page = each (slot page.tables.now.rows) page.ranks.now

-- the keys and rows of the slots that are filled
abbrev pub filled : List (Option (RowKey × Row)) → List (RowKey × Row)
filled ss = filter_map (λ s. s) ss
