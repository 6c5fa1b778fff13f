-- The records of a sound database's cards and rows.
use Rattle.std.proofs.Common.{◌≡◌, ◌∙◌, ℕ, Option, Some, None, IsSome, refl, sym, ap, subst, arith, inl, inr, ◌⊎◌}
use Rattle.std.specs.Prelude.{option_and_then}
use Rattle.std.specs.FinMap.{get}
use Rattle.catalog.specs.CardKinds.{as_customer, as_district, as_stock, as_warehouse, card_key as own_key}
use Rattle.catalog.specs.declared.card.Card.{Card}
use Rattle.catalog.specs.declared.card.Card.TheVariants as card
use Rattle.catalog.specs.declared.card.CardKey.{CardKey}
use Rattle.catalog.specs.declared.card.CardKey.TheVariants as card_key
use Rattle.tpcc_model.specs.Database.{Database}
use Rattle.tpcc_model.specs.Soundness.{IsEntry, IsOrder, IsSound}
use Rattle.tpcc_rows.specs.Limits.{IsBetween}
use Rattle.tpcc_rows.specs.declared.key.RowKey.{RowKey}
use Rattle.tpcc_rows.specs.declared.key.RowKey.TheVariants as key
use Rattle.tpcc_rows.specs.declared.row.OrderRow.{OrderRow}
use Rattle.tpcc_rows.specs.declared.row.Row.{Row}
use Rattle.tpcc_rows.specs.declared.row.Row.TheVariants as row
use Rattle.stored_image.specs.StoredImage.{card_said, row_said}
use Rattle.stored_image.specs.declared.stored_record.RowPart.{RowPart}
use Rattle.stored_image.specs.declared.stored_record.RowPart.TheVariants as row_part
use Rattle.image_records.specs.declared.image_record.ImageRecord.{ImageRecord}
use Rattle.image_records.specs.declared.image_record.ImageRecord.TheVariants as said
use Rattle.loader.proofs.Filled.{IsOrderKey, card_key_of, row_key_of}
use Rattle.loader_laws.proofs.StoredRecords.{IsStored}

-- the card and the row that a stored record adds
abbrev pub card_of : ImageRecord → Option (CardKey × Card)
card_of (said.Warehouse c r) = Some (card_key.Warehouse c.warehouse, card.Warehouse c)
card_of (said.District c) = Some (card_key.District c.warehouse c.district, card.District c)
card_of (said.WholeDistrict c ytd next) = Some (card_key.District c.warehouse c.district, card.District c)
card_of (said.Customer c r) = Some (card_key.Customer c.warehouse c.district c.customer, card.Customer c)
card_of (said.Item c) = Some (card_key.Item c.item, card.Item c)
card_of (said.Stock c r) = Some (card_key.Stock c.warehouse c.item, card.Stock c)
card_of _ = None

abbrev pub row_of : ImageRecord → Option (RowKey × Row)
row_of (said.Warehouse c r) = Some (key.Warehouse c.warehouse, row.Warehouse r)
row_of (said.District c) = None
row_of (said.DistrictYtd w d r) = Some (key.DistrictYtd w d, row.DistrictYtd r)
row_of (said.DistrictNext w d r) = Some (key.DistrictNext w d, row.DistrictNext r)
row_of (said.WholeDistrict c ytd next) = None
row_of (said.Customer c r) = Some (key.Customer c.warehouse c.district c.customer, row.Customer r)
row_of (said.Item c) = None
row_of (said.Stock c r) = Some (key.Stock c.warehouse c.item, row.Stock r)
row_of (said.Order w d o r) = Some (key.Order w d o, row.Order r)
row_of (said.NewOrder w d o) = Some (key.NewOrder w d o, row.NewOrder)
row_of (said.OrderLine w d o n r) = Some (key.OrderLine w d o n, row.OrderLine r)
row_of (said.History n r) = Some (key.History n, row.History r)

-- the part of an image in which a key's row has a record of its own
abbrev pub row_part_of : RowKey → Option RowPart
row_part_of (key.Warehouse w) = None
row_part_of (key.Customer w d c) = None
row_part_of (key.Stock w i) = None
row_part_of (key.Order w d o) = Some row_part.Others
row_part_of (key.NewOrder w d o) = Some row_part.Others
row_part_of (key.OrderLine w d o n) = Some row_part.Others
row_part_of (key.History n) = Some row_part.Others
row_part_of (key.DistrictYtd w d) = Some row_part.Districts
row_part_of (key.DistrictNext w d) = Some row_part.Districts

-- the record of a card
pub record CardSaid (db : Database) (k : CardKey) (c : Card) : Type 0 where
  pub says : ImageRecord
  pub is : card_said db.rows c ≡ Some says
  pub card : card_of says ≡ Some (k, c)
  -- it has the row of its key, and no other
  pub beside : (q : RowKey) → row_key_of k ≡ Some q → (x : Row) × (row_of says ≡ Some (q, x))
  pub only : (y : RowKey × Row) → row_of says ≡ Some y → (card_key_of y.0 ≡ Some k) × (get db.rows y.0 ≡ Some y.1)
  pub stored : IsStored says

-- the record of a row in this part of an image
pub record RowSaid (p : RowPart) (k : RowKey) (x : Row) : Type 0 where
  pub at : row_part_of k ≡ Some p
  pub says : ImageRecord
  pub is : row_said p (k, x) ≡ Some says
  pub no_card : card_of says ≡ None
  pub row : row_of says ≡ Some (k, x)
  pub stored : IsStored says

-- a row in its card's record
pub record RowBeside (db : Database) (k : RowKey) (x : Row) : Type 0 where
  pub none : row_part_of k ≡ None
  pub card_key : CardKey
  pub goes : row_key_of card_key ≡ Some k
  pub card : Card
  pub there : get db.cards card_key ≡ Some card

-- what holds of an option's value
pub of-some : {A : Type 0} (P : A → Type 0) (x y : A) → Some x ≡ Some y → P x → P y
of-some P x y e h = let same : x ≡ y = cc in subst P same h

-- a row in its card's record has no record of its own
pub beside-part : (k : RowKey) (q : CardKey) → card_key_of k ≡ Some q → row_part_of k ≡ None
beside-part (key.Warehouse w) q is = refl
beside-part (key.Customer w d n) q is = refl
beside-part (key.Stock w i) q is = refl
beside-part _ q is = cc

-- a row has a record only in its part
not-in : (p : RowPart) (k : RowKey) (x : Row) → (row_part_of k ≡ Some p → ⊥) → row_said p (k, x) ≡ None
not-in row_part.Districts (key.DistrictYtd w d) x elsewhere = absurd (elsewhere refl)
not-in row_part.Districts (key.DistrictNext w d) x elsewhere = absurd (elsewhere refl)
not-in row_part.Others (key.Order w d o) x elsewhere = absurd (elsewhere refl)
not-in row_part.Others (key.NewOrder w d o) x elsewhere = absurd (elsewhere refl)
not-in row_part.Others (key.OrderLine w d o n) x elsewhere = absurd (elsewhere refl)
not-in row_part.Others (key.History n) x elsewhere = absurd (elsewhere refl)
not-in row_part.Districts _ x elsewhere = refl
not-in row_part.Others _ x elsewhere = refl

-- a card of a kind is a card
card-there : {X : Type 0} (f : Card → Option X) (o : Option Card) → IsSome (option_and_then f o) → (c : Card) × (o ≡ Some c)
card-there f None h = let bad : ⊥ = cc in absurd bad
card-there f (Some c) h = (c, refl)

module _ (db : Database) (sound : IsSound db) where
  -- ---- the limits of keys, by their cards
  district-limits : (w d : ℕ) → IsSome (option_and_then as_district (get db.cards (card_key.District w d))) → IsBetween 1 100 w × IsBetween 1 10 d
  district-limits w d some = at (get db.cards (card_key.District w d)) refl some
    where
      at : (o : Option Card) → get db.cards (card_key.District w d) ≡ o → IsSome (option_and_then as_district o) → IsBetween 1 100 w × IsBetween 1 10 d
      at (Some (card.District c)) e h =
          let own = sound.cards.keyed (card_key.District w d) (card.District c) e in
          let limits = sound.cards.limits (card_key.District w d) (card.District c) e in
          let is_w : c.warehouse ≡ w = cc in
          let is_d : c.district ≡ d = cc in
          (subst (IsBetween 1 100) is_w limits.0, subst (IsBetween 1 10) is_d limits.1)
      at _ e h = let bad : ⊥ = cc in absurd bad

  customer-limits : (w d n : ℕ) → IsSome (option_and_then as_customer (get db.cards (card_key.Customer w d n))) → IsBetween 1 100 w × IsBetween 1 10 d × IsBetween 1 3000 n
  customer-limits w d n some = at (get db.cards (card_key.Customer w d n)) refl some
    where
      at : (o : Option Card) → get db.cards (card_key.Customer w d n) ≡ o → IsSome (option_and_then as_customer o) → IsBetween 1 100 w × IsBetween 1 10 d × IsBetween 1 3000 n
      at (Some (card.Customer c)) e h =
          let own = sound.cards.keyed (card_key.Customer w d n) (card.Customer c) e in
          let limits = sound.cards.limits (card_key.Customer w d n) (card.Customer c) e in
          let is_w : c.warehouse ≡ w = cc in
          let is_d : c.district ≡ d = cc in
          let is_n : c.customer ≡ n = cc in
          (subst (IsBetween 1 100) is_w limits.warehouse, subst (IsBetween 1 10) is_d limits.district, subst (IsBetween 1 3000) is_n limits.customer)
      at _ e h = let bad : ⊥ = cc in absurd bad

  stock-limits : (w i : ℕ) → IsSome (option_and_then as_stock (get db.cards (card_key.Stock w i))) → IsBetween 1 100 w × IsBetween 1 100000 i
  stock-limits w i some = at (get db.cards (card_key.Stock w i)) refl some
    where
      at : (o : Option Card) → get db.cards (card_key.Stock w i) ≡ o → IsSome (option_and_then as_stock o) → IsBetween 1 100 w × IsBetween 1 100000 i
      at (Some (card.Stock c)) e h =
          let own = sound.cards.keyed (card_key.Stock w i) (card.Stock c) e in
          let limits = sound.cards.limits (card_key.Stock w i) (card.Stock c) e in
          let is_w : c.warehouse ≡ w = cc in
          let is_i : c.item ≡ i = cc in
          (subst (IsBetween 1 100) is_w limits.warehouse, subst (IsBetween 1 100000) is_i limits.item)
      at _ e h = let bad : ⊥ = cc in absurd bad

  -- ---- cards
  said-of : (c : Card) → get db.cards (own_key c) ≡ Some c → CardSaid db (own_key c) c
  said-of (card.Warehouse c) there = at (get db.rows (key.Warehouse c.warehouse)) refl (sound.there (key.Warehouse c.warehouse) (rw there refl))
    where
      at : (o : Option Row) → get db.rows (key.Warehouse c.warehouse) ≡ o → IsSome o → CardSaid db (card_key.Warehouse c.warehouse) (card.Warehouse c)
      at None e h = let bad : ⊥ = cc in absurd bad
      at (Some (row.Warehouse r)) e h = record {
        says = said.Warehouse c r;
        is = rw e refl;
        card = refl;
        beside = λ q is. (row.Warehouse r, ap (λ (k : RowKey). Some (k, row.Warehouse r)) (let same : key.Warehouse c.warehouse ≡ q = cc in same));
        only = λ y is. of-some (λ z. (card_key_of z.0 ≡ Some (card_key.Warehouse c.warehouse)) × (get db.rows z.0 ≡ Some z.1)) (key.Warehouse c.warehouse, row.Warehouse r) y is (refl, e);
        stored = (sound.cards.limits (card_key.Warehouse c.warehouse) (card.Warehouse c) there, (sound.entries (key.Warehouse c.warehouse) (row.Warehouse r) e).1);
      }
      at (Some x) e h = absurd (sound.entries (key.Warehouse c.warehouse) x e)
  said-of (card.District c) there = record {
    says = said.District c;
    is = refl;
    card = refl;
    beside = λ q is. let bad : ⊥ = cc in absurd bad;
    only = λ y is. let bad : ⊥ = cc in absurd bad;
    stored = sound.cards.limits (card_key.District c.warehouse c.district) (card.District c) there;
  }
  said-of (card.Customer c) there = at (get db.rows (key.Customer c.warehouse c.district c.customer)) refl (sound.there (key.Customer c.warehouse c.district c.customer) (rw there refl))
    where
      at : (o : Option Row) → get db.rows (key.Customer c.warehouse c.district c.customer) ≡ o → IsSome o → CardSaid db (card_key.Customer c.warehouse c.district c.customer) (card.Customer c)
      at None e h = let bad : ⊥ = cc in absurd bad
      at (Some (row.Customer r)) e h = record {
        says = said.Customer c r;
        is = rw e refl;
        card = refl;
        beside = λ q is. (row.Customer r, ap (λ (k : RowKey). Some (k, row.Customer r)) (let same : key.Customer c.warehouse c.district c.customer ≡ q = cc in same));
        only = λ y is. of-some (λ z. (card_key_of z.0 ≡ Some (card_key.Customer c.warehouse c.district c.customer)) × (get db.rows z.0 ≡ Some z.1)) (key.Customer c.warehouse c.district c.customer, row.Customer r) y is (refl, e);
        stored = (sound.cards.limits (card_key.Customer c.warehouse c.district c.customer) (card.Customer c) there, (sound.entries (key.Customer c.warehouse c.district c.customer) (row.Customer r) e).1);
      }
      at (Some x) e h = absurd (sound.entries (key.Customer c.warehouse c.district c.customer) x e)
  said-of (card.Stock c) there = at (get db.rows (key.Stock c.warehouse c.item)) refl (sound.there (key.Stock c.warehouse c.item) (rw there refl))
    where
      at : (o : Option Row) → get db.rows (key.Stock c.warehouse c.item) ≡ o → IsSome o → CardSaid db (card_key.Stock c.warehouse c.item) (card.Stock c)
      at None e h = let bad : ⊥ = cc in absurd bad
      at (Some (row.Stock r)) e h = record {
        says = said.Stock c r;
        is = rw e refl;
        card = refl;
        beside = λ q is. (row.Stock r, ap (λ (k : RowKey). Some (k, row.Stock r)) (let same : key.Stock c.warehouse c.item ≡ q = cc in same));
        only = λ y is. of-some (λ z. (card_key_of z.0 ≡ Some (card_key.Stock c.warehouse c.item)) × (get db.rows z.0 ≡ Some z.1)) (key.Stock c.warehouse c.item, row.Stock r) y is (refl, e);
        stored = (sound.cards.limits (card_key.Stock c.warehouse c.item) (card.Stock c) there, (sound.entries (key.Stock c.warehouse c.item) (row.Stock r) e).1);
      }
      at (Some x) e h = absurd (sound.entries (key.Stock c.warehouse c.item) x e)
  said-of (card.Item c) there = record {
    says = said.Item c;
    is = refl;
    card = refl;
    beside = λ q is. let bad : ⊥ = cc in absurd bad;
    only = λ y is. let bad : ⊥ = cc in absurd bad;
    stored = sound.cards.limits (card_key.Item c.item) (card.Item c) there;
  }

  pub card-said : (k : CardKey) (c : Card) → get db.cards k ≡ Some c → CardSaid db k c
  card-said k c there =
      let own : own_key c ≡ k = sound.cards.keyed k c there in
      subst (λ q. CardSaid db q c) own (said-of c (subst (λ q. get db.cards q ≡ Some c) (sym own) there))

  -- ---- rows
  order-key : (w d o : ℕ) (r : OrderRow) → IsOrder db.cards w d o r → IsOrderKey w d o
  order-key w d o r h = let (warehouse, district) = district-limits w d h.district in record { warehouse = warehouse; district = district; order = h.number }

  pub row-said : (k : RowKey) (x : Row) → IsEntry db.cards db.rows k x → RowBeside db k x ⊎ ((p : RowPart) × RowSaid p k x)
  row-said (key.Warehouse w) (row.Warehouse r) h =
      let (c, there) = card-there as_warehouse (get db.cards (card_key.Warehouse w)) h.0 in
      inl (record { none = refl; card_key = card_key.Warehouse w; goes = refl; card = c; there = there })
  row-said (key.Customer w d n) (row.Customer r) h =
      let (c, there) = card-there as_customer (get db.cards (card_key.Customer w d n)) h.0 in
      inl (record { none = refl; card_key = card_key.Customer w d n; goes = refl; card = c; there = there })
  row-said (key.Stock w i) (row.Stock r) h =
      let (c, there) = card-there as_stock (get db.cards (card_key.Stock w i)) h.0 in
      inl (record { none = refl; card_key = card_key.Stock w i; goes = refl; card = c; there = there })
  row-said (key.Order w d o) (row.Order r) h =
      let (warehouse, district, customer) = customer-limits w d r.customer h.customer in
      inr (
        row_part.Others,
        record {
          at = refl;
          says = said.Order w d o r;
          is = refl;
          no_card = refl;
          row = refl;
          stored = record {
            key = order-key w d o r h;
            customer = customer;
            row = record { entry = h.entry; carrier = h.carrier; line_count = h.line_count };
          };
        },
      )
  row-said (key.NewOrder w d o) row.NewOrder h =
      inr (
        row_part.Others,
        record {
          at = refl;
          says = said.NewOrder w d o;
          is = refl;
          no_card = refl;
          row = refl;
          stored = order-key w d o h.0 (sound.entries (key.Order w d o) (row.Order h.0) h.1);
        },
      )
  row-said (key.OrderLine w d o n) (row.OrderLine r) h =
      let order = sound.entries (key.Order w d o) (row.Order h.order) h.has_order in
      let (supply, item) = stock-limits r.supply r.item h.stock in
      let most = order.line_count.1 in
      let below = h.number.1 in
      inr (
        row_part.Others,
        record {
          at = refl;
          says = said.OrderLine w d o n r;
          is = refl;
          no_card = refl;
          row = refl;
          stored = record {
            key = order-key w d o h.order order;
            item = item;
            supply = supply;
            row = record {
              number = (h.number.0, omega (arith, most, below));
              delivery = h.delivery;
              quantity = h.quantity;
              amount = h.amount;
              district_info = h.district_info;
            };
          };
        },
      )
  row-said (key.History n) (row.History r) h =
      let (customer_warehouse, customer_district, customer) = customer-limits r.customer_warehouse r.customer_district r.customer h.customer in
      let (warehouse, district) = district-limits r.warehouse r.district h.district in
      inr (
        row_part.Others,
        record {
          at = refl;
          says = said.History n r;
          is = refl;
          no_card = refl;
          row = refl;
          stored = record {
            customer = customer;
            customer_district = customer_district;
            customer_warehouse = customer_warehouse;
            district = district;
            warehouse = warehouse;
            row = record { number = h.number; date = h.date; amount = h.amount; text = h.text };
          };
        },
      )
  row-said (key.DistrictYtd w d) (row.DistrictYtd r) h =
      let (warehouse, district) = district-limits w d h.0 in
      inr (
        row_part.Districts,
        record {
          at = refl;
          says = said.DistrictYtd w d r;
          is = refl;
          no_card = refl;
          row = refl;
          stored = (warehouse, district, h.1);
        },
      )
  row-said (key.DistrictNext w d) (row.DistrictNext r) h =
      let (warehouse, district) = district-limits w d h.0 in
      inr (
        row_part.Districts,
        record {
          at = refl;
          says = said.DistrictNext w d r;
          is = refl;
          no_card = refl;
          row = refl;
          stored = (warehouse, district, h.1);
        },
      )
  row-said _ _ h = absurd h

  -- the record of a row in one part of an image
  pub row-said-in : (p : RowPart) (k : RowKey) (x : Row) → IsEntry db.cards db.rows k x → (row_said p (k, x) ≡ None) ⊎ RowSaid p k x
  row-said-in p k x h = elim (row-said k x h) [
    | inl beside ↦
        let none = beside.none in
        inl (not-in p k x (λ at. let no : None ≡ Some p = sym none ∙ at in let bad : ⊥ = cc in bad))
    | inr other ↦ by p other.0 other.1
  ]
    where
      by : (p q : RowPart) → RowSaid q k x → (row_said p (k, x) ≡ None) ⊎ RowSaid p k x
      by row_part.Districts row_part.Districts s = inr s
      by row_part.Others row_part.Others s = inr s
      by row_part.Districts row_part.Others s = inl (not-in row_part.Districts k x (λ at. let no : Some row_part.Districts ≡ Some row_part.Others = sym at ∙ s.at in let bad : ⊥ = cc in bad))
      by row_part.Others row_part.Districts s = inl (not-in row_part.Others k x (λ at. let no : Some row_part.Others ≡ Some row_part.Districts = sym at ∙ s.at in let bad : ⊥ = cc in bad))
