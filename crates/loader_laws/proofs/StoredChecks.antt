-- A sound database passes the checks.
use Rattle.std.proofs.Common.{◌≡◌, ◌&&◌, ℕ, Bool, true, Option, Some, None, IsSome, refl, ap, ap₂, arith}
use Rattle.std.specs.Prelude.{is_some, nat_le, option_and_then}
use Rattle.std.specs.List.{list_all}
use Rattle.std.specs.FinMap.{entries, get}
use Rattle.std.proofs.lemmas.Bool.Decides.{Decides-int_eq, nat_tests}
use Rattle.catalog.specs.CardKinds.{as_customer, as_district, as_item, as_stock, as_warehouse, card_key as own_key}
use Rattle.catalog.specs.declared.card.Card.{Card}
use Rattle.catalog.specs.declared.card.Card.TheVariants as card
use Rattle.catalog.specs.declared.card.CardKey.{CardKey}
use Rattle.catalog.specs.declared.card.CardKey.TheVariants as card_key
use Rattle.catalog.proofs.CardKeys.{card_key_cmp_total, exact_cards}
use Rattle.tpcc_model.specs.Conditions.{district_share}
use Rattle.tpcc_model.specs.Database.{Database}
use Rattle.tpcc_model.specs.Soundness.{IsEntry, IsSound}
use Rattle.tpcc_rows.specs.Limits.{IsBetween, ten}
use Rattle.tpcc_rows.specs.Totals.{total}
use Rattle.tpcc_rows.specs.declared.key.RowKey.{RowKey}
use Rattle.tpcc_rows.specs.declared.key.RowKey.TheVariants as key
use Rattle.tpcc_rows.specs.declared.row.Row.{Row}
use Rattle.tpcc_rows.specs.declared.row.Row.TheVariants as row
use Rattle.tpcc_rows.proofs.Keys.{exact_keys, row_key_cmp_total}
use Rattle.tpcc_rows.proofs.Singles.{all-pass}
use Rattle.image_checks.specs.Checks.{card_has_parents, has_own_rows, parents_there, row_has_parents, ytd_agrees, ytds_agree}
use Rattle.image_records.specs.Databases.{has_card, has_row}

both : (a b : Bool) → a ≡ true → b ≡ true → (a && b) ≡ true
both a b x y = ap₂ (λ c d. c && d) x y

-- a card of a kind is a card
kind-there : {X : Type 0} (f : Card → Option X) (o : Option Card) → IsSome (option_and_then f o) → is_some o ≡ true
kind-there f None h = cc
kind-there f (Some c) h = refl

module _ (db : Database) (sound : IsSound db) where
  -- ---- parents
  ten-there : (w : ℕ) → IsSome (option_and_then as_warehouse (get db.cards (card_key.Warehouse w))) → list_all (λ d. has_card db.cards (card_key.District w d)) ten ≡ true
  ten-there w some = rw (
    one 1 (omega arith, omega arith),
    one 2 (omega arith, omega arith),
    one 3 (omega arith, omega arith),
    one 4 (omega arith, omega arith),
    one 5 (omega arith, omega arith),
    one 6 (omega arith, omega arith),
    one 7 (omega arith, omega arith),
    one 8 (omega arith, omega arith),
    one 9 (omega arith, omega arith),
    one 10 (omega arith, omega arith),
  ) refl
    where
      one : (d : ℕ) → IsBetween 1 10 d → has_card db.cards (card_key.District w d) ≡ true
      one d within = kind-there as_district (get db.cards (card_key.District w d)) (sound.cards.ten_districts w d some within)

  -- a district has both its rows
  own-rows : (w d : ℕ) → IsSome (option_and_then as_district (get db.cards (card_key.District w d))) → has_own_rows db.rows (card_key.District w d) ≡ true
  own-rows w d some = both (has_row db.rows (key.DistrictYtd w d)) (has_row db.rows (key.DistrictNext w d)) (sound.there (key.DistrictYtd w d) some) (sound.there (key.DistrictNext w d) some)

  card-parents : (k : CardKey) (c : Card) → get db.cards k ≡ Some c → card_has_parents db (k, c) ≡ true
  card-parents k c there = by k c there (sound.cards.keyed k c there)
    where
      by : (k : CardKey) (c : Card) → get db.cards k ≡ Some c → own_key c ≡ k → card_has_parents db (k, c) ≡ true
      by (card_key.Warehouse w) (card.Warehouse c) there own = ten-there w (rw there refl)
      by (card_key.District w d) (card.District c) there own =
          both (has_card db.cards (card_key.Warehouse w)) (has_own_rows db.rows (card_key.District w d))
          (kind-there as_warehouse (get db.cards (card_key.Warehouse w)) (sound.cards.warehouse_of_district w d (rw there refl)))
          (own-rows w d (rw there refl))
      by (card_key.Customer w d n) (card.Customer c) there own = kind-there as_district (get db.cards (card_key.District w d)) (sound.cards.district_of_customer w d n (rw there refl))
      by (card_key.Stock w i) (card.Stock c) there own =
          both (has_card db.cards (card_key.Warehouse w)) (has_card db.cards (card_key.Item i))
          (kind-there as_warehouse (get db.cards (card_key.Warehouse w)) (sound.cards.warehouse_of_stock w i (rw there refl)))
          (kind-there as_item (get db.cards (card_key.Item i)) (sound.cards.item_of_stock w i (rw there refl)))
      by (card_key.Item i) (card.Item c) there own = refl
      by _ _ there own = cc

  row-parents : (k : RowKey) (x : Row) → IsEntry db.cards db.rows k x → row_has_parents db (k, x) ≡ true
  row-parents (key.Warehouse w) (row.Warehouse r) h = refl
  row-parents (key.Customer w d n) (row.Customer r) h = refl
  row-parents (key.Stock w i) (row.Stock r) h = refl
  row-parents (key.Order w d o) (row.Order r) h =
      both (has_card db.cards (card_key.District w d)) (has_card db.cards (card_key.Customer w d r.customer))
      (kind-there as_district (get db.cards (card_key.District w d)) h.district)
      (kind-there as_customer (get db.cards (card_key.Customer w d r.customer)) h.customer)
  row-parents (key.NewOrder w d o) row.NewOrder h = ap is_some h.1
  row-parents (key.OrderLine w d o n) (row.OrderLine r) h =
      let most = h.number.1 in
      let counted : nat_le n h.order.line_count ≡ true = grind (arith, nat_tests) in
      rw (h.has_order, counted) (kind-there as_stock (get db.cards (card_key.Stock r.supply r.item)) h.stock)
  row-parents (key.History n) (row.History r) h =
      both (has_card db.cards (card_key.Customer r.customer_warehouse r.customer_district r.customer)) (has_card db.cards (card_key.District r.warehouse r.district))
      (kind-there as_customer (get db.cards (card_key.Customer r.customer_warehouse r.customer_district r.customer)) h.customer)
      (kind-there as_district (get db.cards (card_key.District r.warehouse r.district)) h.district)
  row-parents (key.DistrictYtd w d) (row.DistrictYtd r) h = kind-there as_district (get db.cards (card_key.District w d)) h.0
  row-parents (key.DistrictNext w d) (row.DistrictNext r) h = kind-there as_district (get db.cards (card_key.District w d)) h.0
  row-parents _ _ h = absurd h

  pub parents-pass : parents_there db ≡ true
  unfolding parents_there
  parents-pass =
      both (list_all (card_has_parents db) (entries db.cards)) (list_all (row_has_parents db) (entries db.rows))
      (all-pass card_key_cmp_total exact_cards (card_has_parents db) db.cards card-parents)
      (all-pass row_key_cmp_total exact_keys (row_has_parents db) db.rows (λ k x there. row-parents k x (sound.entries k x there)))

  -- ---- condition 1
  ytd-passes : (k : RowKey) (x : Row) → get db.rows k ≡ Some x → ytd_agrees db.rows (k, x) ≡ true
  ytd-passes (key.Warehouse w) (row.Warehouse r) there = (Decides-int_eq r.ytd (total (district_share w) db.rows)).1 (rw there at (sound.condition_1 w))
  ytd-passes _ _ there = refl

  pub ytds-pass : ytds_agree db.rows ≡ true
  unfolding ytds_agree
  ytds-pass = all-pass row_key_cmp_total exact_keys (ytd_agrees db.rows) db.rows ytd-passes
