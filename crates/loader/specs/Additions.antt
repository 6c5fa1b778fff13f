-- What records add to cards and rows.
use Rattle.std.specs.Prelude.{◌≡◌, Bool, true, ⊤}
use Rattle.std.specs.FinMap as map
use Rattle.catalog.specs.CardKinds.{card_key}
use Rattle.image_records.specs.Databases.{has_card, has_row}
use Rattle.image_records.specs.declared.image_record.ImageRecord.{ImageRecord}
use Rattle.image_records.specs.declared.image_record.ImageRecord.TheVariants as said
use Rattle.loader.specs.Tables.{is_taken, with_record}
use Rattle.loader.specs.declared.addition.Addition.{Addition}
use Rattle.loader.specs.declared.addition.Addition.TheVariants as variant
use Rattle.tpcc_model.specs.Database.{Database}
use Rattle.tpcc_rows.specs.RowKinds.{fits}

-- the database with the card and the rows
abbrev pub with_addition : Database → Addition → Database
with_addition db (variant.Card c) = record db { cards = map.insert db.cards (card_key c) c }
with_addition db (variant.Row k x) = record db { rows = map.insert db.rows k x }
with_addition db (variant.Both c k x) = record { cards = map.insert db.cards (card_key c) c; rows = map.insert db.rows k x }
with_addition db (variant.WholeDistrict c ytd next) = with_record db (said.WholeDistrict c ytd next)

-- whether the key of the card, or of the row if it has no card, is taken
abbrev pub has_addition : Database → Addition → Bool
has_addition db (variant.Card c) = has_card db.cards (card_key c)
has_addition db (variant.Row k x) = has_row db.rows k
has_addition db (variant.Both c k x) = has_card db.cards (card_key c)
has_addition db (variant.WholeDistrict c ytd next) = is_taken db (said.WholeDistrict c ytd next)

-- the row is of its key's kind
abbrev pub AdditionFits : Addition → Type 0
AdditionFits (variant.Card c) = ⊤
AdditionFits (variant.Row k x) = fits k x ≡ true
AdditionFits (variant.Both c k x) = fits k x ≡ true
AdditionFits (variant.WholeDistrict c ytd next) = ⊤

-- the record adds this
pub record IsSaidBy (record_said : ImageRecord) (addition : Addition) : Type 0 where
  pub whole : (db : Database) → with_record db record_said ≡ with_addition db addition
  pub taken : (db : Database) → is_taken db record_said ≡ has_addition db addition
  pub kinds : AdditionFits addition
