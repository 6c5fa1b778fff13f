-- Cards and rows, filled record by record.
use Rattle.std.specs.Prelude.{Bool}
use Rattle.std.specs.FinMap as map
use Rattle.catalog.specs.declared.card.Card.TheVariants as card
use Rattle.catalog.specs.declared.card.CardKey.TheVariants as card_key
use Rattle.tpcc_model.specs.Database.{Database, database}
use Rattle.tpcc_rows.specs.declared.key.RowKey.TheVariants as key
use Rattle.tpcc_rows.specs.declared.row.Row.TheVariants as row
use Rattle.image_records.specs.Databases.{has_card, has_row}
use Rattle.image_records.specs.declared.image_record.ImageRecord.{ImageRecord}
use Rattle.image_records.specs.declared.image_record.ImageRecord.TheVariants as said

abbrev pub no_tables : Database
no_tables = database map.empty map.empty

-- whether the key of a record is taken
abbrev pub is_taken : Database → ImageRecord → Bool
is_taken db (said.Warehouse c r) = has_card db.cards (card_key.Warehouse c.warehouse)
is_taken db (said.District c) = has_card db.cards (card_key.District c.warehouse c.district)
is_taken db (said.DistrictYtd w d r) = has_row db.rows (key.DistrictYtd w d)
is_taken db (said.DistrictNext w d r) = has_row db.rows (key.DistrictNext w d)
is_taken db (said.WholeDistrict c ytd next) = has_card db.cards (card_key.District c.warehouse c.district)
is_taken db (said.Customer c r) = has_card db.cards (card_key.Customer c.warehouse c.district c.customer)
is_taken db (said.Item c) = has_card db.cards (card_key.Item c.item)
is_taken db (said.Stock c r) = has_card db.cards (card_key.Stock c.warehouse c.item)
is_taken db (said.Order w d o r) = has_row db.rows (key.Order w d o)
is_taken db (said.NewOrder w d o) = has_row db.rows (key.NewOrder w d o)
is_taken db (said.OrderLine w d o number r) = has_row db.rows (key.OrderLine w d o number)
is_taken db (said.History number r) = has_row db.rows (key.History number)

-- the database with a record added
abbrev pub with_record : Database → ImageRecord → Database
with_record db (said.Warehouse c r) = record {
  cards = map.insert db.cards (card_key.Warehouse c.warehouse) (card.Warehouse c);
  rows = map.insert db.rows (key.Warehouse c.warehouse) (row.Warehouse r);
}
with_record db (said.District c) = record db { cards = map.insert db.cards (card_key.District c.warehouse c.district) (card.District c) }
with_record db (said.DistrictYtd w d r) = record db { rows = map.insert db.rows (key.DistrictYtd w d) (row.DistrictYtd r) }
with_record db (said.DistrictNext w d r) = record db { rows = map.insert db.rows (key.DistrictNext w d) (row.DistrictNext r) }
with_record db (said.WholeDistrict c ytd next) = record {
  cards = map.insert db.cards (card_key.District c.warehouse c.district) (card.District c);
  rows = map.insert
      (map.insert db.rows (key.DistrictYtd c.warehouse c.district) (row.DistrictYtd ytd))
      (key.DistrictNext c.warehouse c.district) (row.DistrictNext next);
}
with_record db (said.Customer c r) = record {
  cards = map.insert db.cards (card_key.Customer c.warehouse c.district c.customer) (card.Customer c);
  rows = map.insert db.rows (key.Customer c.warehouse c.district c.customer) (row.Customer r);
}
with_record db (said.Item c) = record db { cards = map.insert db.cards (card_key.Item c.item) (card.Item c) }
with_record db (said.Stock c r) = record {
  cards = map.insert db.cards (card_key.Stock c.warehouse c.item) (card.Stock c);
  rows = map.insert db.rows (key.Stock c.warehouse c.item) (row.Stock r);
}
with_record db (said.Order w d o r) = record db { rows = map.insert db.rows (key.Order w d o) (row.Order r) }
with_record db (said.NewOrder w d o) = record db { rows = map.insert db.rows (key.NewOrder w d o) row.NewOrder }
with_record db (said.OrderLine w d o number r) = record db { rows = map.insert db.rows (key.OrderLine w d o number) (row.OrderLine r) }
with_record db (said.History number r) = record db { rows = map.insert db.rows (key.History number) (row.History r) }
