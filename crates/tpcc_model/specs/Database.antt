-- A database: cards, with the columns that never change, and rows, with those that do.
use Rattle.catalog.specs.CardMap.{Cards}
use Rattle.tpcc_rows.specs.RowMap.{Rows}

pub record Database : Type 0 where
  pub cards : Cards
  pub rows : Rows

-- the database of these cards and rows
abbrev pub database : Cards → Rows → Database
database cards rows = record { cards = cards; rows = rows }
