-- Filled tables: each value is within limits, and a row of its card's record is present with the card. The rows of districts
-- may have records of their own.
use Rattle.std.proofs.Common.{◌≡◌, ◌∙◌, ℕ, Option, Some, None, IsSome, IfSome, refl, sym, subst, inl, inr}
use Rattle.std.specs.Cmp.{IsTotalOrder}
use Rattle.std.specs.FinMap.{FinMap, IsAntisymmetric, get, get-empty, insert}
use Rattle.std.specs.declared.cmp.Ordering.{Ordering}
use Rattle.catalog.specs.CardKinds.{card_key as own_key}
use Rattle.catalog.specs.CardMap.{AreKeyed, card_key_cmp}
use Rattle.catalog.specs.declared.card.Card.{Card}
use Rattle.catalog.specs.declared.card.Card.TheVariants as card
use Rattle.catalog.specs.declared.card.CardKey.{CardKey}
use Rattle.catalog.specs.declared.card.CardKey.TheVariants as card_key
use Rattle.catalog.proofs.CardKeys.{card_key_cmp_total, exact_cards}
use Rattle.catalog.proofs.Keyed.{keyed-insert}
use Rattle.tpcc_model.specs.Database.{Database, database}
use Rattle.tpcc_model.specs.Soundness.{IsCard, IsCustomerRow, IsStockRow}
use Rattle.tpcc_rows.specs.Limits.{IsBetween, IsCents}
use Rattle.tpcc_rows.specs.Texts.{IsText}
use Rattle.tpcc_rows.specs.RowMap.{row_key_cmp}
use Rattle.tpcc_rows.specs.declared.key.RowKey.{RowKey}
use Rattle.tpcc_rows.specs.declared.key.RowKey.TheVariants as key
use Rattle.tpcc_rows.specs.declared.row.HistoryRow.{HistoryRow}
use Rattle.tpcc_rows.specs.declared.row.OrderLineRow.{OrderLineRow}
use Rattle.tpcc_rows.specs.declared.row.OrderRow.{OrderRow}
use Rattle.tpcc_rows.specs.declared.row.Row.{Row}
use Rattle.tpcc_rows.specs.declared.row.Row.TheVariants as row
use Rattle.tpcc_rows.proofs.Keys.{exact_keys, row_key_cmp_total}
use Rattle.tpcc_rows.proofs.Singles.{apart, entry_of, here, same_key}
use Rattle.loader.specs.Tables.{no_tables, with_record}
use Rattle.image_records.specs.declared.image_record.ImageRecord.{ImageRecord}
use Rattle.image_records.specs.declared.image_record.ImageRecord.TheVariants as said

-- the key of the card whose record has a row
abbrev pub card_key_of : RowKey → Option CardKey
card_key_of (key.Warehouse w) = Some (card_key.Warehouse w)
card_key_of (key.Customer w d c) = Some (card_key.Customer w d c)
card_key_of (key.Stock w i) = Some (card_key.Stock w i)
card_key_of (key.Order w d o) = None
card_key_of (key.NewOrder w d o) = None
card_key_of (key.OrderLine w d o n) = None
card_key_of (key.History n) = None
card_key_of (key.DistrictYtd w d) = None
card_key_of (key.DistrictNext w d) = None

-- the key of the row in a card's record
abbrev pub row_key_of : CardKey → Option RowKey
row_key_of (card_key.Warehouse w) = Some (key.Warehouse w)
row_key_of (card_key.District w d) = None
row_key_of (card_key.Customer w d c) = Some (key.Customer w d c)
row_key_of (card_key.Stock w i) = Some (key.Stock w i)
row_key_of (card_key.Item i) = None

pub record IsHistoryRow (n : ℕ) (r : HistoryRow) : Type 0 where
  pub number : IsBetween 1 999999999999999 n
  pub date : IsBetween 0 999999999999 r.date
  pub amount : IsBetween 0 999999 r.amount
  pub text : IsText 24 r.data

-- the key of an order, a new order or an order line
pub record IsOrderKey (w d o : ℕ) : Type 0 where
  pub warehouse : IsBetween 1 100 w
  pub district : IsBetween 1 10 d
  pub order : IsBetween 1 9999998 o

pub record IsOrderRow (r : OrderRow) : Type 0 where
  pub entry : IsBetween 0 999999999999 r.entry
  pub carrier : IfSome r.carrier (IsBetween 1 10)
  pub line_count : IsBetween 1 15 r.line_count

pub record IsLineRow (n : ℕ) (r : OrderLineRow) : Type 0 where
  pub number : IsBetween 1 15 n
  pub delivery : IfSome r.delivery (IsBetween 0 999999999999)
  pub quantity : IsBetween 0 99 r.quantity
  pub amount : IsBetween 0 999999 r.amount
  pub district_info : IsText 24 r.district_info

-- the row is of its key's kind and within limits
abbrev pub IsLimited : RowKey → Row → Type 0
IsLimited (key.Warehouse w) (row.Warehouse r) = IsCents r.ytd
IsLimited (key.Customer w d c) (row.Customer r) = IsCustomerRow r
IsLimited (key.Stock w i) (row.Stock r) = IsStockRow r
IsLimited (key.Order w d o) (row.Order r) = IsOrderKey w d o × IsOrderRow r
IsLimited (key.NewOrder w d o) row.NewOrder = IsOrderKey w d o
IsLimited (key.OrderLine w d o n) (row.OrderLine r) = IsOrderKey w d o × IsLineRow n r
IsLimited (key.History n) (row.History r) = IsHistoryRow n r
IsLimited (key.DistrictYtd w d) (row.DistrictYtd r) = IsCents r.ytd
IsLimited (key.DistrictNext w d) (row.DistrictNext r) = IsBetween 1 9999999 r.next_order
IsLimited _ _ = ⊥

pub record IsFilled (db : Database) : Type 0 where
  pub keyed : AreKeyed db.cards
  pub limits : (q : CardKey) (c : Card) → get db.cards q ≡ Some c → IsCard c
  pub there : (k : RowKey) (q : CardKey) → row_key_of q ≡ Some k → IsSome (get db.cards q) → IsSome (get db.rows k)
  pub owned : (k : RowKey) (q : CardKey) (x : Row) → card_key_of k ≡ Some q → get db.rows k ≡ Some x → IsSome (get db.cards q)
  pub entries : (k : RowKey) (x : Row) → get db.rows k ≡ Some x → IsLimited k x

-- a record is within limits
abbrev pub IsRead : ImageRecord → Type 0
IsRead (said.Warehouse c r) = IsCard (card.Warehouse c) × IsCents r.ytd
IsRead (said.District c) = IsCard (card.District c)
IsRead (said.DistrictYtd w d r) = IsCents r.ytd
IsRead (said.DistrictNext w d r) = IsBetween 1 9999999 r.next_order
IsRead (said.WholeDistrict c ytd next) = IsCard (card.District c) × IsCents ytd.ytd × IsBetween 1 9999999 next.next_order
IsRead (said.Customer c r) = IsCard (card.Customer c) × IsCustomerRow r
IsRead (said.Item c) = IsCard (card.Item c)
IsRead (said.Stock c r) = IsCard (card.Stock c) × IsStockRow r
IsRead (said.Order w d o r) = IsOrderKey w d o × IsOrderRow r
IsRead (said.NewOrder w d o) = IsOrderKey w d o
IsRead (said.OrderLine w d o n r) = IsOrderKey w d o × IsLineRow n r
IsRead (said.History n r) = IsHistoryRow n r

pub filled-none : IsFilled no_tables
filled-none = record {
  keyed = λ q c there. let no : None ≡ Some c = sym (get-empty card_key_cmp q) ∙ there in cc;
  limits = λ q c there. let no : None ≡ Some c = sym (get-empty card_key_cmp q) ∙ there in let bad : ⊥ = cc in absurd bad;
  there = λ k q e some. let no : IsSome {T = Card} None = subst IsSome (get-empty card_key_cmp q) some in let bad : ⊥ = cc in absurd bad;
  owned = λ k q x e there. let no : None ≡ Some x = sym (get-empty row_key_cmp k) ∙ there in let bad : ⊥ = cc in absurd bad;
  entries = λ k x there. let no : None ≡ Some x = sym (get-empty row_key_cmp k) ∙ there in let bad : ⊥ = cc in absurd bad;
}

-- one more entry
module _ {K X : Type 0} {R : K → K → Ordering} (total : IsTotalOrder R) (exact : IsAntisymmetric R) (m : FinMap R X) (k : K) (x : X) where
  pub some-here : IsSome (get (insert m k x) k)
  some-here = subst IsSome (sym (here total exact m k x)) refl

  pub some-insert : (q : K) → IsSome (get m q) → IsSome (get (insert m k x) q)
  some-insert q some = elim (same_key total exact q k) [
    | inl e ↦ subst (λ z. IsSome (get (insert m k x) z)) (sym e) some-here
    | inr n ↦ subst IsSome (sym (apart total exact m k x q n)) some
  ]

-- one more card without a row
module _ (db : Database) (q : CardKey) (c : Card) (filled : IsFilled db) where
  filled-card : row_key_of q ≡ None → own_key c ≡ q → IsCard c → IsFilled (database (insert db.cards q c) db.rows)
  filled-card alone own limited = record {
    keyed = keyed-insert db.cards q c own filled.keyed;
    limits = λ p b there. elim (entry_of card_key_cmp_total exact_cards db.cards q c p b there) [
      | inl new ↦ subst IsCard new.1 limited
      | inr old ↦ filled.limits p b old
    ];
    there = λ l p e some. elim (same_key card_key_cmp_total exact_cards p q) [
      | inl same ↦ let bad : ⊥ = cc in absurd bad
      | inr other ↦ filled.there l p e (subst IsSome (apart card_key_cmp_total exact_cards db.cards q c p other) some)
    ];
    owned = λ l p y e there. some-insert card_key_cmp_total exact_cards db.cards q c p (filled.owned l p y e there);
    entries = filled.entries;
  }

-- one more card with its row
module _ (db : Database) (q : CardKey) (c : Card) (k : RowKey) (x : Row) (filled : IsFilled db) where
  filled-both : row_key_of q ≡ Some k → card_key_of k ≡ Some q → own_key c ≡ q → IsCard c → IsLimited k x → IsFilled (database (insert db.cards q c) (insert db.rows k x))
  filled-both row_is card_is own limited row_limited = record {
    keyed = keyed-insert db.cards q c own filled.keyed;
    limits = λ p b there. elim (entry_of card_key_cmp_total exact_cards db.cards q c p b there) [
      | inl new ↦ subst IsCard new.1 limited
      | inr old ↦ filled.limits p b old
    ];
    there = λ l p e some. elim (same_key card_key_cmp_total exact_cards p q) [
      | inl same ↦
          let is : l ≡ k = cc in
          subst (λ z. IsSome (get (insert db.rows k x) z)) (sym is) (some-here row_key_cmp_total exact_keys db.rows k x)
      | inr other ↦ some-insert row_key_cmp_total exact_keys db.rows k x l (filled.there l p e (subst IsSome (apart card_key_cmp_total exact_cards db.cards q c p other) some))
    ];
    owned = λ l p y e there. elim (entry_of row_key_cmp_total exact_keys db.rows k x l y there) [
      | inl new ↦
          let same : l ≡ k = new.0 in
          let is : p ≡ q = cc in
          subst (λ z. IsSome (get (insert db.cards q c) z)) (sym is) (some-here card_key_cmp_total exact_cards db.cards q c)
      | inr old ↦ some-insert card_key_cmp_total exact_cards db.cards q c p (filled.owned l p y e old)
    ];
    entries = λ l y there. elim (entry_of row_key_cmp_total exact_keys db.rows k x l y there) [
      | inl new ↦ subst (λ z. IsLimited z y) (sym new.0) (subst (λ z. IsLimited k z) new.1 row_limited)
      | inr old ↦ filled.entries l y old
    ];
  }

-- one more row without a card
module _ (db : Database) (k : RowKey) (x : Row) (filled : IsFilled db) where
  filled-row : card_key_of k ≡ None → IsLimited k x → IsFilled (database db.cards (insert db.rows k x))
  filled-row alone limited = record {
    keyed = filled.keyed;
    limits = filled.limits;
    there = λ l p e some. some-insert row_key_cmp_total exact_keys db.rows k x l (filled.there l p e some);
    owned = λ l p y e there. elim (entry_of row_key_cmp_total exact_keys db.rows k x l y there) [
      | inl new ↦
          let same : l ≡ k = new.0 in
          let bad : ⊥ = cc in absurd bad
      | inr old ↦ filled.owned l p y e old
    ];
    entries = λ l y there. elim (entry_of row_key_cmp_total exact_keys db.rows k x l y there) [
      | inl new ↦ subst (λ z. IsLimited z y) (sym new.0) (subst (λ z. IsLimited k z) new.1 limited)
      | inr old ↦ filled.entries l y old
    ];
  }

-- the tables with one more record
pub filled-more : (db : Database) (record_said : ImageRecord) → IsRead record_said → IsFilled db → IsFilled (with_record db record_said)
filled-more db (said.Warehouse c r) h filled = filled-both db (card_key.Warehouse c.warehouse) (card.Warehouse c) (key.Warehouse c.warehouse) (row.Warehouse r) filled refl refl refl h.0 h.1
filled-more db (said.District c) h filled = filled-card db (card_key.District c.warehouse c.district) (card.District c) filled refl refl h
filled-more db (said.DistrictYtd w d r) h filled = filled-row db (key.DistrictYtd w d) (row.DistrictYtd r) filled refl h
filled-more db (said.DistrictNext w d r) h filled = filled-row db (key.DistrictNext w d) (row.DistrictNext r) filled refl h
filled-more db (said.WholeDistrict c ytd next) h filled =
    let cards = insert db.cards (card_key.District c.warehouse c.district) (card.District c) in
    let rows = insert db.rows (key.DistrictYtd c.warehouse c.district) (row.DistrictYtd ytd) in
    let with_card = filled-card db (card_key.District c.warehouse c.district) (card.District c) filled refl refl h.0 in
    let with_ytd = filled-row (database cards db.rows) (key.DistrictYtd c.warehouse c.district) (row.DistrictYtd ytd) with_card refl h.1 in
    filled-row (database cards rows) (key.DistrictNext c.warehouse c.district) (row.DistrictNext next) with_ytd refl h.2
filled-more db (said.Customer c r) h filled = filled-both db (card_key.Customer c.warehouse c.district c.customer) (card.Customer c) (key.Customer c.warehouse c.district c.customer) (row.Customer r) filled refl refl refl h.0 h.1
filled-more db (said.Item c) h filled = filled-card db (card_key.Item c.item) (card.Item c) filled refl refl h
filled-more db (said.Stock c r) h filled = filled-both db (card_key.Stock c.warehouse c.item) (card.Stock c) (key.Stock c.warehouse c.item) (row.Stock r) filled refl refl refl h.0 h.1
filled-more db (said.Order w d o r) h filled = filled-row db (key.Order w d o) (row.Order r) filled refl h
filled-more db (said.NewOrder w d o) h filled = filled-row db (key.NewOrder w d o) row.NewOrder filled refl h
filled-more db (said.OrderLine w d o n r) h filled = filled-row db (key.OrderLine w d o n) (row.OrderLine r) filled refl h
filled-more db (said.History n r) h filled = filled-row db (key.History n) (row.History r) filled refl h
