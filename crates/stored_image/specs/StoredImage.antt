-- The image of a database.
use Rattle.std.specs.Prelude.{◌≡◌, ◌&&◌, ◌||◌, Bool, true, false, ℕ, List, [], ◌∷◌, ◌++◌, map, length, filter_map, Option, Some, None, is_some, option_map}
use Rattle.std.specs.Option.{option_and_then}
use Rattle.std.specs.BTreeSet.{BTreeSet, contains}
use Rattle.std.specs.FinMap as finmap
use Rattle.std.specs.FinMap.Entries.{where_key}
use Rattle.catalog.specs.CardMap.{card_key_cmp}
use Rattle.catalog.specs.declared.card.Card.{Card}
use Rattle.catalog.specs.declared.card.Card.TheVariants as card
use Rattle.catalog.specs.declared.card.CardKey.{CardKey}
use Rattle.catalog.specs.declared.card.CardKey.TheVariants as card_key
use Rattle.records.specs.Fields.{Fields}
use Rattle.records.specs.Spelling.{text_of_records}
use Rattle.tpcc_model.specs.Database.{Database}
use Rattle.tpcc_rows.specs.RowMap.{Rows, row_key_cmp}
use Rattle.tpcc_rows.specs.Rows.{customer_row, stock_row, warehouse_row}
use Rattle.tpcc_rows.specs.declared.key.RowKey.{RowKey}
use Rattle.tpcc_rows.specs.declared.key.RowKey.TheVariants as key
use Rattle.tpcc_rows.specs.declared.row.Row.{Row}
use Rattle.tpcc_rows.specs.declared.row.Row.TheVariants as row
use Rattle.stored_image.specs.StoredRecords.{written_end, written_first, written_record}
use Rattle.image_records.specs.declared.image_record.ImageRecord.{ImageRecord}
use Rattle.image_records.specs.declared.image_record.ImageRecord.TheVariants as said
use Rattle.stored_image.specs.declared.store.CardPart.{CardPart}
use Rattle.stored_image.specs.declared.store.CardPart.TheVariants as part
use Rattle.stored_image.specs.declared.stored_record.RowPart.{RowPart}
use Rattle.stored_image.specs.declared.stored_record.RowPart.TheVariants as row_part

-- the record of a card, with its row unless it is a district's or an item's; none if the row is missing
abbrev pub card_said : Rows → Card → Option ImageRecord
card_said rows (card.Warehouse c) = option_map (λ r. said.Warehouse c r) (warehouse_row rows c.warehouse)
card_said rows (card.District c) = Some (said.District c)
card_said rows (card.Customer c) = option_map (λ r. said.Customer c r) (customer_row rows c.warehouse c.district c.customer)
card_said rows (card.Stock c) = option_map (λ r. said.Stock c r) (stock_row rows c.warehouse c.item)
card_said rows (card.Item c) = Some (said.Item c)

-- the record of a row in a part of an image, if it has one there
abbrev pub row_said : RowPart → RowKey × Row → Option ImageRecord
row_said row_part.Districts (key.DistrictYtd w d, row.DistrictYtd r) = Some (said.DistrictYtd w d r)
row_said row_part.Districts (key.DistrictNext w d, row.DistrictNext r) = Some (said.DistrictNext w d r)
row_said row_part.Others (key.Order w d o, row.Order r) = Some (said.Order w d o r)
row_said row_part.Others (key.NewOrder w d o, _) = Some (said.NewOrder w d o)
row_said row_part.Others (key.OrderLine w d o number, row.OrderLine r) = Some (said.OrderLine w d o number r)
row_said row_part.Others (key.History number, row.History r) = Some (said.History number r)
row_said _ _ = None

-- whether the key's row has a record of its own
abbrev pub stands_alone : RowKey → Bool
stands_alone (key.Order w d o) = true
stands_alone (key.NewOrder w d o) = true
stands_alone (key.OrderLine w d o number) = true
stands_alone (key.History number) = true
stands_alone (key.DistrictYtd w d) = true
stands_alone (key.DistrictNext w d) = true
stands_alone _ = false

-- the new set has the old keys and those of these rows that have records of their own
abbrev pub HasAlsoAlone : BTreeSet RowKey → List (RowKey × Row) → BTreeSet RowKey → Type 0
HasAlsoAlone old rows new =
    (k : RowKey) → contains row_key_cmp new k ≡ (contains row_key_cmp old k || (stands_alone k && is_some (finmap.find row_key_cmp k rows)))

-- the record of a key's row in a part of an image, if it has one there
abbrev pub said_at : RowPart → Rows → RowKey → Option ImageRecord
said_at p rows k = option_and_then (λ r. row_said p (k, r)) (finmap.get rows k)

-- whether the key's card belongs to this part
abbrev pub stands_in : CardPart → CardKey → Bool
stands_in part.WarehousesAndDistricts (card_key.Warehouse w) = true
stands_in part.WarehousesAndDistricts (card_key.District w d) = true
stands_in part.Customers (card_key.Customer w d c) = true
stands_in part.Items (card_key.Item i) = true
stands_in part.Stocks (card_key.Stock w i) = true
stands_in _ _ = false

-- the records of a part's cards, in key order
abbrev pub part_said : CardPart → Rows → List (CardKey × Card) → List ImageRecord
part_said p rows cards = filter_map (λ e. card_said rows e.1) (where_key card_key_cmp (stands_in p) cards)

-- the records of a part's rows, in key order
abbrev pub rows_said : RowPart → List (RowKey × Row) → List ImageRecord
rows_said p rows = filter_map (row_said p) rows

-- the records of a database: the warehouses, the districts, the districts' rows, the customers, the items, the stocks, the
-- orders, the new orders, the order lines and the history, each in key order
unfoldable pub image_said : Database → List ImageRecord
image_said db =
    part_said part.WarehousesAndDistricts db.rows (finmap.entries db.cards)
    ++ rows_said row_part.Districts (finmap.entries db.rows)
    ++ part_said part.Customers db.rows (finmap.entries db.cards)
    ++ part_said part.Items db.rows (finmap.entries db.cards)
    ++ part_said part.Stocks db.rows (finmap.entries db.cards)
    ++ rows_said row_part.Others (finmap.entries db.rows)

-- an image's records: the first, these and the end record
abbrev pub image_records : List ImageRecord → List Fields
image_records said = written_first ∷ (map written_record said ++ written_end (length said) ∷ [])

-- the image of a database
abbrev pub image_text : Database → List ℕ
image_text db = text_of_records (image_records (image_said db))
