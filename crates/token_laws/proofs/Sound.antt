-- The values of a sound database are within their limits.
use Rattle.std.proofs.Common.{◌≡◌, ℕ, Option, Some, None, IsSome, refl, subst, arith}
use Rattle.std.specs.FinMap.{get}
use Rattle.std.specs.Option.{option_and_then}
use Rattle.catalog.specs.CardBytes.{IsCardKey}
use Rattle.catalog.specs.CardKinds.{as_customer, as_district, as_stock, as_warehouse}
use Rattle.catalog.specs.CardMap.{Cards}
use Rattle.catalog.specs.declared.card.Card.{Card}
use Rattle.catalog.specs.declared.card.CardKey.{CardKey}
use Rattle.catalog.specs.declared.card.CardKey.TheVariants as card_key
use Rattle.tpcc_model.specs.Database.{Database}
use Rattle.tpcc_model.specs.Soundness.{AreCards, IsEntry, IsOrder, IsSound}
use Rattle.tpcc_rows.specs.Codes.{IsKey}
use Rattle.tpcc_rows.specs.Encodings.{IsWritable}
use Rattle.tpcc_rows.specs.declared.key.RowKey.{RowKey}
use Rattle.tpcc_rows.specs.declared.key.RowKey.TheVariants as key
use Rattle.tpcc_rows.specs.declared.row.OrderRow.{OrderRow}
use Rattle.tpcc_rows.specs.declared.row.Row.{Row}
use Rattle.tpcc_rows.specs.declared.row.Row.TheVariants as row
use Rattle.token_laws.specs.CoveredLimits.{SoundIsWritable}
use Rattle.token_laws.proofs.Cards.{own_limits}

-- ---- keys
card_there : {X : Type 0} (f : Card → Option X) (cards : Cards) (k : CardKey) (o : Option Card) → AreCards cards → get cards k ≡ o → IsSome (option_and_then f o) → IsCardKey k
card_there f cards k None are is h = let no : ⊥ = cc in absurd no
card_there f cards k (Some c) are is h = subst IsCardKey (are.keyed k c is) (own_limits c (are.limits k c is))

-- the key of a card that is there is within its limits
pub key_limits : {X : Type 0} (f : Card → Option X) (cards : Cards) (k : CardKey) → AreCards cards → IsSome (option_and_then f (get cards k)) → IsCardKey k
key_limits f cards k are h = card_there f cards k (get cards k) are refl h

-- ---- rows
module _ (db : Database) (sound : IsSound db) where
  order_key : (w d o : ℕ) (r : OrderRow) → IsOrder db.cards w d o r → IsKey (key.Order w d o)
  order_key w d o r h = let place = key_limits as_district db.cards (card_key.District w d) sound.cards h.district in (place.0, place.1, h.number)

  own_order : (w d o : ℕ) (r : OrderRow) → get db.rows (key.Order w d o) ≡ Some (row.Order r) → IsOrder db.cards w d o r
  own_order w d o r there = sound.entries (key.Order w d o) (row.Order r) there

  entry : (k : RowKey) (x : Row) → IsEntry db.cards db.rows k x → IsWritable k x
  entry (key.Warehouse w) (row.Warehouse r) h = record { kind = refl; key_limits = key_limits as_warehouse db.cards (card_key.Warehouse w) sound.cards h.0; row_limits = h.1 }
  entry (key.Customer w d c) (row.Customer r) h = record {
    kind = refl;
    key_limits = key_limits as_customer db.cards (card_key.Customer w d c) sound.cards h.0;
    row_limits = (h.1.balance, h.1.ytd_payment, h.1.payment_count, h.1.delivery_count, h.1.text);
  }
  entry (key.Stock w i) (row.Stock r) h = record {
    kind = refl;
    key_limits = key_limits as_stock db.cards (card_key.Stock w i) sound.cards h.0;
    row_limits = (h.1.quantity, h.1.ytd, h.1.order_count, h.1.remote_count);
  }
  entry (key.Order w d o) (row.Order r) h =
      let customer = key_limits as_customer db.cards (card_key.Customer w d r.customer) sound.cards h.customer in
      record { kind = refl; key_limits = order_key w d o r h; row_limits = (customer.2, h.entry, h.carrier, h.line_count) }
  entry (key.NewOrder w d o) row.NewOrder h = record { kind = refl; key_limits = order_key w d o h.0 (own_order w d o h.0 h.1); row_limits = tt }
  entry (key.OrderLine w d o n) (row.OrderLine r) h =
      let own = own_order w d o h.order h.has_order in
      let place = order_key w d o h.order own in
      let stock = key_limits as_stock db.cards (card_key.Stock r.supply r.item) sound.cards h.stock in
      record {
        kind = refl;
        key_limits = (place.0, place.1, place.2, (h.number.0, omega (arith, h.number.1, own.line_count.1)));
        row_limits = ((stock.1.0, omega (arith, stock.1.1)), stock.0, h.delivery, h.quantity, h.amount, h.district_info);
      }
  entry (key.History n) (row.History r) h =
      let customer = key_limits as_customer db.cards (card_key.Customer r.customer_warehouse r.customer_district r.customer) sound.cards h.customer in
      let place = key_limits as_district db.cards (card_key.District r.warehouse r.district) sound.cards h.district in
      record { kind = refl; key_limits = h.number; row_limits = (customer.2, customer.1, customer.0, place.1, place.0, h.date, h.amount, h.text) }
  entry (key.DistrictYtd w d) (row.DistrictYtd r) h = record { kind = refl; key_limits = key_limits as_district db.cards (card_key.District w d) sound.cards h.0; row_limits = h.1 }
  entry (key.DistrictNext w d) (row.DistrictNext r) h = record { kind = refl; key_limits = key_limits as_district db.cards (card_key.District w d) sound.cards h.0; row_limits = h.1 }
  entry _ _ h = absurd h

  -- a row that is there
  pub writable : (k : RowKey) (x : Row) → get db.rows k ≡ Some x → IsWritable k x
  writable k x there = entry k x (sound.entries k x there)

pub sound_is_writable : SoundIsWritable
sound_is_writable db sound = record { cards = record { keyed = sound.cards.keyed; limits = sound.cards.limits }; rows = writable db sound }
