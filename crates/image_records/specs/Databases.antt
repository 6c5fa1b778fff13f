-- Look-ups in a database.
use Rattle.std.specs.Prelude.{Bool, is_some}
use Rattle.std.specs.FinMap as map
use Rattle.catalog.specs.CardMap.{Cards}
use Rattle.catalog.specs.declared.card.CardKey.{CardKey}
use Rattle.rollback.specs.Pointed.{Pointed}
use Rattle.tpcc_model.specs.Database.{Database, database}
use Rattle.tpcc_rows.specs.RowMap.{Rows}
use Rattle.tpcc_rows.specs.declared.key.RowKey.{RowKey}

-- the database of a catalog and a store
abbrev pub loaded : Cards × Pointed → Database
loaded parts = database parts.0 parts.1.rows

abbrev pub has_card : Cards → CardKey → Bool
has_card cards k = is_some (map.get cards k)

abbrev pub has_row : Rows → RowKey → Bool
has_row rows k = is_some (map.get rows k)
