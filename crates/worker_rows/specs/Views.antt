-- Views: rows, and what of them may be read and written.
use Rattle.std.specs.Prelude.{Bool, true, ◌&&◌, is_none, Option, Some, None}
use Rattle.std.specs.List.{list_all, list_any}
use Rattle.std.specs.Option.{option_map_or}
use Rattle.serializability.specs.Footprints.{Footprint}
use Rattle.tpcc_rows.specs.Granules.{granule, same_granule}
use Rattle.tpcc_rows.specs.RowMap.{Rows}
use Rattle.tpcc_rows.specs.declared.granule.Granule.{Granule}
use Rattle.tpcc_rows.specs.declared.key.RowKey.{RowKey}

-- the rows of a database, and the footprint within which they may be read and written; without one, all may
pub record View : Type 0 where
  pub rows : Rows
  pub bounds : Option (Footprint Granule)

abbrev pub may_read : View → Granule → Bool
may_read view g = option_map_or (λ bounds. list_any (same_granule g) bounds.reads) view.bounds true

abbrev pub may_write : View → Granule → Bool
may_write view g = option_map_or (λ bounds. list_any (same_granule g) bounds.writes) view.bounds true

-- a row of HISTORY has no granule, and may be read without bounds alone
abbrev pub readable_at : View → Option Granule → Bool
readable_at view None = is_none view.bounds
readable_at view (Some g) = may_read view g

-- whether the row of a key may be read
abbrev pub readable : View → RowKey → Bool
readable view key = readable_at view (granule key)

-- a touch is within the view: what it reads may be read, and what it writes may be written
abbrev pub covers : View → Footprint Granule → Bool
covers view touch = list_all (may_read view) touch.reads && list_all (may_write view) touch.writes
