-- The image of a sound database is read as its tables.
use Rattle.std.proofs.Common.{◌≡◌, ◌∙◌, inl, inr, ℕ, ◌+◌, ◌-◌, suc, List, [], ◌∷◌, ◌++◌, cond, T, map, length, true, false, Option, Some, None, Ok, decimal, refl, sym, ap, ap₂, subst, arith, add-zero, append_assoc}
use Rattle.std.specs.Prelude.{filter_map, is_some}
use Rattle.std.specs.Cmp.{IsTotalOrder}
use Rattle.std.specs.List.{AllByRecursion}
use Rattle.std.specs.FinMap.{IsAntisymmetric, empty, entries, entries_sorted, find, get, get-empty, get-entries, insert, is_sorted}
use Rattle.std.specs.FinMap.Entries.{is_sorted-where_key, where_key}
use Rattle.std.specs.Str.{bytes_eq}
use Rattle.std.specs.declared.cmp.Ordering.{Ordering}
use Rattle.std.proofs.lemmas.Bool.{cases_Bool}
use Rattle.std.proofs.lemmas.List.Elements.{filter_map-append}
use Rattle.std.proofs.lemmas.Slice.Eq.{bytes_eq-Decides}
use Rattle.catalog.specs.CardMap.{Cards, card_key_cmp}
use Rattle.catalog.specs.declared.card.Card.{Card}
use Rattle.catalog.specs.declared.card.CardKey.{CardKey}
use Rattle.catalog.specs.declared.card.CardKey.TheVariants as card_key
use Rattle.catalog.proofs.CardKeys.{card_key_cmp_total, exact_cards}
use Rattle.csv.specs.Reading.{strip_bom}
use Rattle.csv.specs.Records.{field_at}
use Rattle.csv.specs.Writing.{read_back}
use Rattle.records.specs.Fields.{Fields}
use Rattle.records.specs.Records.{records_in}
use Rattle.records.proofs.SpellingLemmas.{records_after-text}
use Rattle.tpcc_model.specs.Database.{Database, database}
use Rattle.tpcc_model.specs.Soundness.{IsSound}
use Rattle.tpcc_rows.specs.RowMap.{Rows, row_key_cmp}
use Rattle.tpcc_rows.specs.declared.key.RowKey.{RowKey}
use Rattle.tpcc_rows.specs.declared.key.RowKey.TheVariants as key
use Rattle.tpcc_rows.specs.declared.row.Row.{Row}
use Rattle.tpcc_rows.proofs.Keys.{exact_keys, row_key_cmp_total}
use Rattle.loader.specs.Image.{is_end, read_all, read_from}
use Rattle.stored_image.specs.StoredImage.{card_said, image_records, image_said, image_text, part_said, row_said, rows_said, stands_in}
use Rattle.stored_image.specs.StoredRecords.{written_customer, written_district, written_district_next, written_district_ytd, written_end, written_first, written_history, written_item, written_new_order, written_order, written_order_line, written_record, written_stock, written_warehouse, written_whole_district}
use Rattle.image_records.specs.Databases.{has_card, has_row}
use Rattle.loader.specs.Tables.{is_taken, no_tables, with_record}
use Rattle.image_records.specs.declared.image_record.ImageRecord.{ImageRecord}
use Rattle.image_records.specs.declared.image_record.ImageRecord.TheVariants as said
use Rattle.image_records.specs.declared.version.Version.TheVariants as version
use Rattle.stored_image.specs.declared.store.CardPart.{CardPart}
use Rattle.stored_image.specs.declared.store.CardPart.TheVariants as part
use Rattle.stored_image.specs.declared.stored_record.RowPart.{RowPart}
use Rattle.stored_image.specs.declared.stored_record.RowPart.TheVariants as row_part
use Rattle.loader_laws.proofs.StoredMaps.{AreApart, AreFresh, IsOf, Occurs, all-append, all-filter_map, all-found, all-map, all-mapped, apart-append, found-first, found-right, found-where, fresh-head, fresh-skip, fresh-tail, not-among, occurs-behind, occurs-first, occurs-made, put_at, puts, puts-others, puts-whole, sorted-apart}
use Rattle.loader_laws.proofs.StoredRecords.{IsStored, record_at-written}
use Rattle.loader_laws.proofs.StoredTables.{beside-part, card-said, card_of, of-some, row-said, row-said-in, row_of, row_part_of}

abbrev CardsApart : List (CardKey × Card) → Type 0
CardsApart = AreApart card_key_cmp_total exact_cards

abbrev RowsApart : List (RowKey × Row) → Type 0
RowsApart = AreApart row_key_cmp_total exact_keys

abbrev CardsFresh : Cards → List (CardKey × Card) → Type 0
CardsFresh = AreFresh card_key_cmp_total exact_cards (λ q. Unit {0})

-- rows with records of their own, in a part of an image
abbrev RowsFresh : RowPart → Rows → List (RowKey × Row) → Type 0
RowsFresh p = AreFresh row_key_cmp_total exact_keys (λ q. row_part_of q ≡ Some p)

abbrev put_card : Cards → Option (CardKey × Card) → Cards
put_card = put_at card_key_cmp_total exact_cards

abbrev put_row : Rows → Option (RowKey × Row) → Rows
put_row = put_at row_key_cmp_total exact_keys

abbrev put_cards : List (Option (CardKey × Card)) → Cards → Cards
put_cards = puts card_key_cmp_total exact_cards

abbrev put_rows : List (Option (RowKey × Row)) → Rows → Rows
put_rows = puts row_key_cmp_total exact_keys

-- ---- what records add
cards-after : (db : Database) (s : ImageRecord) → (with_record db s).cards ≡ put_card db.cards (card_of s)
cards-after db (said.Warehouse c r) = refl
cards-after db (said.District c) = refl
cards-after db (said.DistrictYtd w d r) = refl
cards-after db (said.DistrictNext w d r) = refl
cards-after db (said.WholeDistrict c ytd next) = refl
cards-after db (said.Customer c r) = refl
cards-after db (said.Item c) = refl
cards-after db (said.Stock c r) = refl
cards-after db (said.Order w d o r) = refl
cards-after db (said.NewOrder w d o) = refl
cards-after db (said.OrderLine w d o n r) = refl
cards-after db (said.History n r) = refl

rows-after : (db : Database) (s : ImageRecord) → IsStored s → (with_record db s).rows ≡ put_row db.rows (row_of s)
rows-after db (said.Warehouse c r) h = refl
rows-after db (said.District c) h = refl
rows-after db (said.DistrictYtd w d r) h = refl
rows-after db (said.DistrictNext w d r) h = refl
rows-after db (said.WholeDistrict c ytd next) h = absurd h
rows-after db (said.Customer c r) h = refl
rows-after db (said.Item c) h = refl
rows-after db (said.Stock c r) h = refl
rows-after db (said.Order w d o r) h = refl
rows-after db (said.NewOrder w d o) h = refl
rows-after db (said.OrderLine w d o n r) h = refl
rows-after db (said.History n r) h = refl

abbrev with_records : List ImageRecord → Database → Database
with_records [] db = db
with_records (s ∷ ss) db = with_records ss (with_record db s)

all_cards-after : (ss : List ImageRecord) (db : Database) → (with_records ss db).cards ≡ put_cards (map card_of ss) db.cards
all_cards-after [] db = refl
all_cards-after (s ∷ ss) db = all_cards-after ss (with_record db s) ∙ ap (put_cards (map card_of ss)) (cards-after db s)

all_rows-after : (ss : List ImageRecord) (db : Database) → AllByRecursion IsStored ss → (with_records ss db).rows ≡ put_rows (map row_of ss) db.rows
all_rows-after [] db stored = refl
all_rows-after (s ∷ ss) db stored = all_rows-after ss (with_record db s) stored.1 ∙ ap (put_rows (map row_of ss)) (rows-after db s stored.0)

-- ---- records with new keys
abbrev AreNew : Database → List ImageRecord → Type 0
AreNew db [] = Unit {0}
AreNew db (s ∷ ss) = (is_taken db s ≡ false) × AreNew (with_record db s) ss

new-append : (ss ts : List ImageRecord) (db : Database) → AreNew db ss → AreNew (with_records ss db) ts → AreNew db (ss ++ ts)
new-append [] ts db a b = b
new-append (s ∷ ss) ts db a b = (a.0, new-append ss ts (with_record db s) a.1 b)

of_kind-other : (s : ImageRecord) → is_end (written_record s) ≡ false
unfolding field_at written_customer written_district written_district_next written_district_ytd written_history written_item written_new_order written_order written_order_line written_stock written_warehouse written_whole_district
of_kind-other (said.Warehouse c r) = refl
of_kind-other (said.District c) = refl
of_kind-other (said.DistrictYtd w d r) = refl
of_kind-other (said.DistrictNext w d r) = refl
of_kind-other (said.WholeDistrict c ytd next) = refl
of_kind-other (said.Customer c r) = refl
of_kind-other (said.Item c) = refl
of_kind-other (said.Stock c r) = refl
of_kind-other (said.Order w d o r) = refl
of_kind-other (said.NewOrder w d o) = refl
of_kind-other (said.OrderLine w d o n r) = refl
of_kind-other (said.History n r) = refl

-- the records are added one by one
read-records : (ss : List ImageRecord) (db : Database) (n : ℕ) (tail : List Fields) → AllByRecursion IsStored ss → AreNew db ss
    → read_from version.Two (map written_record ss ++ tail) n db ≡ read_from version.Two tail (n + length ss) (with_records ss db)
unfolding read_from
read-records [] db n tail stored new = rw (add-zero n) refl
read-records (s ∷ ss) db n tail stored new =
    let rest = read-records ss (with_record db s) (n + 1) tail stored.1 new.1 in
    let count : (n + 1) + length ss ≡ n + suc (length ss) = omega arith in
    rw (of_kind-other s, record_at-written s stored.0, new.0) (rest ∙ ap (λ (k : ℕ). read_from version.Two tail k (with_records (s ∷ ss) db)) count)

-- a card's record is taken if its card is, another if its row is
card-new : (db : Database) (s : ImageRecord) (e : CardKey × Card) → card_of s ≡ Some e → get db.cards e.0 ≡ None → is_taken db s ≡ false
card-new db (said.Warehouse c r) e is none = let at : card_key.Warehouse c.warehouse ≡ e.0 = cc in ap (has_card db.cards) at ∙ ap is_some none
card-new db (said.District c) e is none = let at : card_key.District c.warehouse c.district ≡ e.0 = cc in ap (has_card db.cards) at ∙ ap is_some none
card-new db (said.WholeDistrict c ytd next) e is none = let at : card_key.District c.warehouse c.district ≡ e.0 = cc in ap (has_card db.cards) at ∙ ap is_some none
card-new db (said.Customer c r) e is none = let at : card_key.Customer c.warehouse c.district c.customer ≡ e.0 = cc in ap (has_card db.cards) at ∙ ap is_some none
card-new db (said.Item c) e is none = let at : card_key.Item c.item ≡ e.0 = cc in ap (has_card db.cards) at ∙ ap is_some none
card-new db (said.Stock c r) e is none = let at : card_key.Stock c.warehouse c.item ≡ e.0 = cc in ap (has_card db.cards) at ∙ ap is_some none
card-new db _ e is none = cc

row-new : (db : Database) (s : ImageRecord) (e : RowKey × Row) → card_of s ≡ None → row_of s ≡ Some e → get db.rows e.0 ≡ None → is_taken db s ≡ false
row-new db (said.DistrictYtd w d r) e apart is none = let at : key.DistrictYtd w d ≡ e.0 = cc in ap (has_row db.rows) at ∙ ap is_some none
row-new db (said.DistrictNext w d r) e apart is none = let at : key.DistrictNext w d ≡ e.0 = cc in ap (has_row db.rows) at ∙ ap is_some none
row-new db (said.Order w d o r) e apart is none = let at : key.Order w d o ≡ e.0 = cc in ap (has_row db.rows) at ∙ ap is_some none
row-new db (said.NewOrder w d o) e apart is none = let at : key.NewOrder w d o ≡ e.0 = cc in ap (has_row db.rows) at ∙ ap is_some none
row-new db (said.OrderLine w d o n r) e apart is none = let at : key.OrderLine w d o n ≡ e.0 = cc in ap (has_row db.rows) at ∙ ap is_some none
row-new db (said.History n r) e apart is none = let at : key.History n ≡ e.0 = cc in ap (has_row db.rows) at ∙ ap is_some none
row-new db _ e apart is none = cc

-- ---- the cards in image order
abbrev part_of : CardPart → List (CardKey × Card) → List (CardKey × Card)
part_of p es = where_key card_key_cmp (stands_in p) es

-- the warehouses and the districts, and the cards after the districts' rows
abbrev first_cards : List (CardKey × Card) → List (CardKey × Card)
first_cards es = part_of part.WarehousesAndDistricts es

abbrev other_cards : List (CardKey × Card) → List (CardKey × Card)
other_cards es = (part_of part.Customers es ++ part_of part.Items es) ++ part_of part.Stocks es

abbrev look : CardKey → List (CardKey × Card) → Option Card
look = find card_key_cmp

in_part : (p : CardPart) (es : List (CardKey × Card)) (q : CardKey) → stands_in p q ≡ true → look q (part_of p es) ≡ look q es
in_part p es q is = found-where card_key_cmp_total exact_cards (stands_in p) es q ∙ ap (λ b. cond b (look q es) None) is

no_part : (p : CardPart) (es : List (CardKey × Card)) (q : CardKey) → stands_in p q ≡ false → look q (part_of p es) ≡ None
no_part p es q is = found-where card_key_cmp_total exact_cards (stands_in p) es q ∙ ap (λ b. cond b (look q es) None) is

-- a card in none of the parts after the districts' rows
no_other : (es : List (CardKey × Card)) (q : CardKey) → stands_in part.Customers q ≡ false → stands_in part.Items q ≡ false → stands_in part.Stocks q ≡ false → look q (other_cards es) ≡ None
no_other es q customers items stocks =
    found-right card_key_cmp_total exact_cards (part_of part.Customers es ++ part_of part.Items es) (part_of part.Stocks es) q
    (found-right card_key_cmp_total exact_cards (part_of part.Customers es) (part_of part.Items es) q (no_part part.Customers es q customers)
    ∙ no_part part.Items es q items)
    ∙ no_part part.Stocks es q stocks

-- each card that isn't among the first
other-found : (es : List (CardKey × Card)) (q : CardKey) → stands_in part.WarehousesAndDistricts q ≡ false → look q (other_cards es) ≡ look q es
other-found es (card_key.Customer w d c) h =
    found-first card_key_cmp_total exact_cards (part_of part.Customers es ++ part_of part.Items es) (part_of part.Stocks es) (card_key.Customer w d c) (no_part part.Stocks es (card_key.Customer w d c) refl)
    ∙ found-first card_key_cmp_total exact_cards (part_of part.Customers es) (part_of part.Items es) (card_key.Customer w d c) (no_part part.Items es (card_key.Customer w d c) refl)
    ∙ in_part part.Customers es (card_key.Customer w d c) refl
other-found es (card_key.Item i) h =
    found-first card_key_cmp_total exact_cards (part_of part.Customers es ++ part_of part.Items es) (part_of part.Stocks es) (card_key.Item i) (no_part part.Stocks es (card_key.Item i) refl)
    ∙ found-right card_key_cmp_total exact_cards (part_of part.Customers es) (part_of part.Items es) (card_key.Item i) (no_part part.Customers es (card_key.Item i) refl)
    ∙ in_part part.Items es (card_key.Item i) refl
other-found es (card_key.Stock w i) h =
    found-right card_key_cmp_total exact_cards (part_of part.Customers es ++ part_of part.Items es) (part_of part.Stocks es) (card_key.Stock w i)
    (found-right card_key_cmp_total exact_cards (part_of part.Customers es) (part_of part.Items es) (card_key.Stock w i) (no_part part.Customers es (card_key.Stock w i) refl)
    ∙ no_part part.Items es (card_key.Stock w i) refl)
    ∙ in_part part.Stocks es (card_key.Stock w i) refl
other-found es (card_key.Warehouse w) h = let bad : ⊥ = cc in absurd bad
other-found es (card_key.District w d) h = let bad : ⊥ = cc in absurd bad

not-other : (es : List (CardKey × Card)) (q : CardKey) → stands_in part.WarehousesAndDistricts q ≡ true → look q (other_cards es) ≡ None
not-other es (card_key.Warehouse w) h = no_other es (card_key.Warehouse w) refl refl refl
not-other es (card_key.District w d) h = no_other es (card_key.District w d) refl refl refl
not-other es (card_key.Customer w d c) h = let bad : ⊥ = cc in absurd bad
not-other es (card_key.Item i) h = let bad : ⊥ = cc in absurd bad
not-other es (card_key.Stock w i) h = let bad : ⊥ = cc in absurd bad

-- a card found among the first or the others is found among all
in-first : (es : List (CardKey × Card)) (q : CardKey) (c : Card) → look q (first_cards es) ≡ Some c → (stands_in part.WarehousesAndDistricts q ≡ true) × (look q es ≡ Some c)
in-first es q c there = elim (cases_Bool (stands_in part.WarehousesAndDistricts q)) [
  | inl is ↦ (is, sym (in_part part.WarehousesAndDistricts es q is) ∙ there)
  | inr other ↦
      let none : None ≡ Some c = sym (no_part part.WarehousesAndDistricts es q other) ∙ there in
      let bad : ⊥ = cc in absurd bad
]

in-others : (es : List (CardKey × Card)) (q : CardKey) (c : Card) → look q (other_cards es) ≡ Some c → (stands_in part.WarehousesAndDistricts q ≡ false) × (look q es ≡ Some c)
in-others es q c there = elim (cases_Bool (stands_in part.WarehousesAndDistricts q)) [
  | inl first ↦
      let none : None ≡ Some c = sym (not-other es q first) ∙ there in
      let bad : ⊥ = cc in absurd bad
  | inr is ↦ (is, sym (other-found es q is) ∙ there)
]

-- no card occurs twice
items-apart : (es : List (CardKey × Card)) (q : CardKey) (x : Card) → look q (part_of part.Customers es) ≡ Some x → look q (part_of part.Items es) ≡ None
items-apart es (card_key.Item i) x there = let none = no_part part.Customers es (card_key.Item i) refl in cc
items-apart es q x there = no_part part.Items es q refl

stocks-apart : (es : List (CardKey × Card)) (q : CardKey) (x : Card) → look q (part_of part.Customers es ++ part_of part.Items es) ≡ Some x → look q (part_of part.Stocks es) ≡ None
stocks-apart es (card_key.Stock w i) x there =
    let none : look (card_key.Stock w i) (part_of part.Customers es ++ part_of part.Items es) ≡ None =
    found-right card_key_cmp_total exact_cards (part_of part.Customers es) (part_of part.Items es) (card_key.Stock w i) (no_part part.Customers es (card_key.Stock w i) refl)
    ∙ no_part part.Items es (card_key.Stock w i) refl in
    cc
stocks-apart es q x there = no_part part.Stocks es q refl

part-apart : (p : CardPart) (es : List (CardKey × Card)) → T (is_sorted card_key_cmp es) → CardsApart (part_of p es)
part-apart p es s = sorted-apart card_key_cmp_total exact_cards (part_of p es) (is_sorted-where_key card_key_cmp (stands_in p) es s)

others-apart : (es : List (CardKey × Card)) → T (is_sorted card_key_cmp es) → CardsApart (other_cards es)
others-apart es s =
    apart-append card_key_cmp_total exact_cards (part_of part.Customers es ++ part_of part.Items es) (part_of part.Stocks es)
    (apart-append card_key_cmp_total exact_cards (part_of part.Customers es) (part_of part.Items es) (part-apart part.Customers es s) (part-apart part.Items es s) (items-apart es))
    (part-apart part.Stocks es s) (stocks-apart es)

-- ---- a sound database
abbrev said_at : Database → CardKey × Card → Option ImageRecord
said_at db e = card_said db.rows e.1

-- the record may be written, and adds what the database has
record IsOwn (db : Database) (s : ImageRecord) : Type 0 where
  stored : IsStored s
  card : IsOf card_key_cmp_total exact_cards db.cards (card_of s)
  row : IsOf row_key_cmp_total exact_keys db.rows (row_of s)

abbrev AreCardsOf : Database → List (CardKey × Card) → Type 0
AreCardsOf db es = AllByRecursion (λ e. get db.cards e.0 ≡ Some e.1) es

abbrev AreRowsOf : Database → List (RowKey × Row) → Type 0
AreRowsOf db es = AllByRecursion (λ e. get db.rows e.0 ≡ Some e.1) es

-- the records are the option's
same-said : (s t : ImageRecord) (o : Option ImageRecord) → o ≡ Some s → o ≡ Some t → s ≡ t
same-said s t o a b = let both : Some s ≡ Some t = sym a ∙ b in cc

row-is : (db : Database) (o : Option (RowKey × Row)) → ((y : RowKey × Row) → o ≡ Some y → get db.rows y.0 ≡ Some y.1) → IsOf row_key_cmp_total exact_keys db.rows o
row-is db None h = tt
row-is db (Some y) h = h y refl

-- the card of the record is among the first
abbrev IsOfFirst : ImageRecord → Type 0
IsOfFirst s = (y : CardKey × Card) → card_of s ≡ Some y → stands_in part.WarehousesAndDistricts y.0 ≡ true

-- the record's row has no record of its own in this part of an image
abbrev IsNotOf : RowPart → ImageRecord → Type 0
IsNotOf p s = (y : RowKey × Row) → row_of s ≡ Some y → row_part_of y.0 ≡ Some p → ⊥

-- records of further cards and of rows
cards-fresh : (ss : List ImageRecord) (es : List (CardKey × Card)) → AllByRecursion IsOfFirst ss → CardsFresh (with_records ss no_tables).cards (other_cards es)
cards-fresh ss es first q x kind there =
    let other = (in-others es q x there).0 in
    ap (λ (m : Cards). get m q) (all_cards-after ss no_tables)
    ∙ puts-others card_key_cmp_total exact_cards (map card_of ss) empty q (not-among card_key_cmp_total exact_cards (λ k. stands_in part.WarehousesAndDistricts k ≡ true) (map card_of ss) q
    (all-mapped (λ o. (y : CardKey × Card) → o ≡ Some y → stands_in part.WarehousesAndDistricts y.0 ≡ true) card_of ss first)
    (λ yes. let no : true ≡ false = sym yes ∙ other in let bad : ⊥ = cc in bad))
    ∙ get-empty card_key_cmp q

rows-fresh : (p : RowPart) (ss : List ImageRecord) (es : List (RowKey × Row)) → AllByRecursion IsStored ss → AllByRecursion (IsNotOf p) ss → RowsFresh p (with_records ss no_tables).rows es
rows-fresh p ss es stored others q x at there =
    ap (λ (m : Rows). get m q) (all_rows-after ss no_tables stored)
    ∙ puts-others row_key_cmp_total exact_keys (map row_of ss) empty q (not-among row_key_cmp_total exact_keys (λ k. row_part_of k ≡ Some p → ⊥) (map row_of ss) q
    (all-mapped (λ o. (y : RowKey × Row) → o ≡ Some y → row_part_of y.0 ≡ Some p → ⊥) row_of ss others)
    (λ elsewhere. elsewhere at))
    ∙ get-empty row_key_cmp q

module _ (db : Database) (sound : IsSound db) where
  -- ---- each is the database's own
  card-own : (k : CardKey) (c : Card) → get db.cards k ≡ Some c → (s : ImageRecord) → said_at db (k, c) ≡ Some s → IsOwn db s
  card-own k c there s is =
      let h = card-said db sound k c there in
      subst (IsOwn db) (same-said h.says s (card_said db.rows c) h.is is) (record {
        stored = h.stored;
        card = subst (IsOf card_key_cmp_total exact_cards db.cards) (sym h.card) there;
        row = row-is db (row_of h.says) (λ y of. (h.only y of).1);
      })

  row-own : (p : RowPart) (k : RowKey) (x : Row) → get db.rows k ≡ Some x → (s : ImageRecord) → row_said p (k, x) ≡ Some s → IsOwn db s
  row-own p k x there s is = elim (row-said-in db sound p k x (sound.entries k x there)) [
    | inl none ↦ let no : None ≡ Some s = sym none ∙ is in let bad : ⊥ = cc in absurd bad
    | inr h ↦ subst (IsOwn db) (same-said h.says s (row_said p (k, x)) h.is is) (record {
      stored = h.stored;
      card = subst (IsOf card_key_cmp_total exact_cards db.cards) (sym h.no_card) tt;
      row = subst (IsOf row_key_cmp_total exact_keys db.rows) (sym h.row) there;
    })
  ]

  own-cards : (es : List (CardKey × Card)) → AreCardsOf db es → AllByRecursion (IsOwn db) (filter_map (said_at db) es)
  own-cards es are = all-filter_map (IsOwn db) (said_at db) es (all-map (λ e. get db.cards e.0 ≡ Some e.1) (λ e. (s : ImageRecord) → said_at db e ≡ Some s → IsOwn db s) es are (λ e there. card-own e.0 e.1 there))

  own-rows : (p : RowPart) (es : List (RowKey × Row)) → AreRowsOf db es → AllByRecursion (IsOwn db) (rows_said p es)
  own-rows p es are = all-filter_map (IsOwn db) (row_said p) es (all-map (λ e. get db.rows e.0 ≡ Some e.1) (λ e. (s : ImageRecord) → row_said p e ≡ Some s → IsOwn db s) es are (λ e there. row-own p e.0 e.1 there))

  -- ---- the keys of the records
  first-of-first : (es : List (CardKey × Card)) → AllByRecursion (λ e. (stands_in part.WarehousesAndDistricts e.0 ≡ true) × (get db.cards e.0 ≡ Some e.1)) es → AllByRecursion IsOfFirst (filter_map (said_at db) es)
  first-of-first es are = all-filter_map IsOfFirst (said_at db) es
      (all-map (λ e. (stands_in part.WarehousesAndDistricts e.0 ≡ true) × (get db.cards e.0 ≡ Some e.1)) (λ e. (s : ImageRecord) → said_at db e ≡ Some s → IsOfFirst s) es are (λ e is_first s is y of.
      let h = card-said db sound e.0 e.1 is_first.1 in
      let same = same-said h.says s (card_said db.rows e.1) h.is is in
      of-some (λ z. stands_in part.WarehousesAndDistricts z.0 ≡ true) (e.0, e.1) y (sym h.card ∙ ap card_of same ∙ of) is_first.0))

  rows-of-first : (p : RowPart) (es : List (RowKey × Row)) → AreRowsOf db es → AllByRecursion IsOfFirst (rows_said p es)
  rows-of-first p es are = all-filter_map IsOfFirst (row_said p) es
      (all-map (λ e. get db.rows e.0 ≡ Some e.1) (λ e. (s : ImageRecord) → row_said p e ≡ Some s → IsOfFirst s) es are (λ e there s is y of. elim (row-said-in db sound p e.0 e.1 (sound.entries e.0 e.1 there)) [
        | inl none ↦ let no : None ≡ Some s = sym none ∙ is in let bad : ⊥ = cc in absurd bad
        | inr h ↦
            let same = same-said h.says s (row_said p e) h.is is in
            let no : None ≡ Some y = sym h.no_card ∙ ap card_of same ∙ of in
            let bad : ⊥ = cc in absurd bad
      ]))

  -- the rows of the cards' records are written with the cards
  cards-not-of : (p : RowPart) (es : List (CardKey × Card)) → AreCardsOf db es → AllByRecursion (IsNotOf p) (filter_map (said_at db) es)
  cards-not-of p es are = all-filter_map (IsNotOf p) (said_at db) es
      (all-map (λ e. get db.cards e.0 ≡ Some e.1) (λ e. (s : ImageRecord) → said_at db e ≡ Some s → IsNotOf p s) es are (λ e there s is y of at.
      let h = card-said db sound e.0 e.1 there in
      let same = same-said h.says s (card_said db.rows e.1) h.is is in
      let none = beside-part y.0 e.0 (h.only y (ap row_of same ∙ of)).0 in
      let no : None ≡ Some p = sym none ∙ at in
      let bad : ⊥ = cc in bad))

  districts-not-others : (es : List (RowKey × Row)) → AreRowsOf db es → AllByRecursion (IsNotOf row_part.Others) (rows_said row_part.Districts es)
  districts-not-others es are = all-filter_map (IsNotOf row_part.Others) (row_said row_part.Districts) es
      (all-map (λ e. get db.rows e.0 ≡ Some e.1) (λ e. (s : ImageRecord) → row_said row_part.Districts e ≡ Some s → IsNotOf row_part.Others s) es are (λ e there s is y of at. elim (row-said-in db sound row_part.Districts e.0 e.1 (sound.entries e.0 e.1 there)) [
        | inl none ↦ let no : None ≡ Some s = sym none ∙ is in let bad : ⊥ = cc in absurd bad
        | inr h ↦
            let same = same-said h.says s (row_said row_part.Districts e) h.is is in
            let here = of-some (λ z. row_part_of z.0 ≡ Some row_part.Districts) (e.0, e.1) y (sym h.row ∙ ap row_of same ∙ of) h.at in
            let no : Some row_part.Districts ≡ Some row_part.Others = sym here ∙ at in
            let bad : ⊥ = cc in absurd bad
      ]))

  -- ---- no key occurs twice
  new-cards : (es : List (CardKey × Card)) → CardsApart es → AreCardsOf db es → (m : Database) → CardsFresh m.cards es → AreNew m (filter_map (said_at db) es)
  new-cards [] alone are m fresh = tt
  new-cards (e ∷ es) alone are m fresh =
      let h = card-said db sound e.0 e.1 are.0 in
      let none = fresh-head card_key_cmp_total exact_cards (λ q. Unit {0}) m.cards e es tt fresh in
      let after : (with_record m h.says).cards ≡ insert m.cards e.0 e.1 = cards-after m h.says ∙ ap (put_card m.cards) h.card in
      let later = subst (λ cs. CardsFresh cs es) (sym after) (fresh-tail card_key_cmp_total exact_cards (λ q. Unit {0}) m.cards e es alone.0 fresh) in
      rw h.is (card-new m h.says e h.card none, new-cards es alone.1 are.1 (with_record m h.says) later)

  new-rows : (p : RowPart) (es : List (RowKey × Row)) → RowsApart es → AreRowsOf db es → (m : Database) → RowsFresh p m.rows es → AreNew m (rows_said p es)
  new-rows p [] alone are m fresh = tt
  new-rows p (e ∷ es) alone are m fresh = elim (row-said-in db sound p e.0 e.1 (sound.entries e.0 e.1 are.0)) [
    | inl none ↦ rw none (new-rows p es alone.1 are.1 m (fresh-skip row_key_cmp_total exact_keys (λ q. row_part_of q ≡ Some p) m.rows e es alone.0 fresh))
    | inr h ↦
        let none = fresh-head row_key_cmp_total exact_keys (λ q. row_part_of q ≡ Some p) m.rows e es h.at fresh in
        let after : (with_record m h.says).rows ≡ insert m.rows e.0 e.1 = rows-after m h.says h.stored ∙ ap (put_row m.rows) h.row in
        let later = subst (λ rs. RowsFresh p rs es) (sym after) (fresh-tail row_key_cmp_total exact_keys (λ q. row_part_of q ≡ Some p) m.rows e es alone.0 fresh) in
        rw h.is (row-new m h.says e h.no_card h.row none, new-rows p es alone.1 are.1 (with_record m h.says) later)
  ]

  -- ---- the four parts
  abbrev first_said : List ImageRecord
  first_said = filter_map (said_at db) (first_cards (entries db.cards))

  abbrev districts_said : List ImageRecord
  districts_said = rows_said row_part.Districts (entries db.rows)

  abbrev cards_said : List ImageRecord
  cards_said = filter_map (said_at db) (other_cards (entries db.cards))

  abbrev others_said : List ImageRecord
  others_said = rows_said row_part.Others (entries db.rows)

  abbrev all_said : List ImageRecord
  all_said = ((first_said ++ districts_said) ++ cards_said) ++ others_said

  parts : image_said db ≡ all_said
  unfolding image_said
  parts =
      let customers = part_said part.Customers db.rows (entries db.cards) in
      let items = part_said part.Items db.rows (entries db.cards) in
      let stocks = part_said part.Stocks db.rows (entries db.cards) in
      let start : List ImageRecord = first_said ++ districts_said in
      let joined : cards_said ≡ (customers ++ items) ++ stocks =
      filter_map-append (said_at db) (part_of part.Customers (entries db.cards) ++ part_of part.Items (entries db.cards)) (part_of part.Stocks (entries db.cards))
      ∙ ap (λ (t : List ImageRecord). t ++ stocks) (filter_map-append (said_at db) (part_of part.Customers (entries db.cards)) (part_of part.Items (entries db.cards))) in
      ap (λ (t : List ImageRecord). t ++ others_said)
      (ap (λ (t : List ImageRecord). t ++ stocks) (append_assoc start customers items) ∙ append_assoc start (customers ++ items) stocks ∙ ap (λ (t : List ImageRecord). start ++ t) (sym joined))

  are-first : AllByRecursion (λ e. (stands_in part.WarehousesAndDistricts e.0 ≡ true) × (get db.cards e.0 ≡ Some e.1)) (first_cards (entries db.cards))
  are-first = all-found card_key_cmp_total exact_cards (λ q c. (stands_in part.WarehousesAndDistricts q ≡ true) × (get db.cards q ≡ Some c)) (first_cards (entries db.cards)) (part-apart part.WarehousesAndDistricts (entries db.cards) (entries_sorted db.cards))
      (λ q c there. let found = in-first (entries db.cards) q c there in (found.0, get-entries db.cards q ∙ found.1))

  are-first_cards : AreCardsOf db (first_cards (entries db.cards))
  are-first_cards = all-map (λ e. (stands_in part.WarehousesAndDistricts e.0 ≡ true) × (get db.cards e.0 ≡ Some e.1)) (λ e. get db.cards e.0 ≡ Some e.1) (first_cards (entries db.cards)) are-first (λ e h. h.1)

  are-other_cards : AreCardsOf db (other_cards (entries db.cards))
  are-other_cards = all-found card_key_cmp_total exact_cards (λ q c. get db.cards q ≡ Some c) (other_cards (entries db.cards)) (others-apart (entries db.cards) (entries_sorted db.cards))
      (λ q c there. get-entries db.cards q ∙ (in-others (entries db.cards) q c there).1)

  rows-apart : RowsApart (entries db.rows)
  rows-apart = sorted-apart row_key_cmp_total exact_keys (entries db.rows) (entries_sorted db.rows)

  are-rows : AreRowsOf db (entries db.rows)
  are-rows = all-found row_key_cmp_total exact_keys (λ q x. get db.rows q ≡ Some x) (entries db.rows) rows-apart (λ q x there. get-entries db.rows q ∙ there)

  are-stored : (ss : List ImageRecord) → AllByRecursion (IsOwn db) ss → AllByRecursion IsStored ss
  are-stored ss own = all-map (IsOwn db) IsStored ss own (λ s h. h.stored)

  own-first : AllByRecursion (IsOwn db) first_said
  own-first = own-cards (first_cards (entries db.cards)) are-first_cards

  own-start : AllByRecursion (IsOwn db) (first_said ++ districts_said)
  own-start = all-append (IsOwn db) first_said districts_said own-first (own-rows row_part.Districts (entries db.rows) are-rows)

  own-middle : AllByRecursion (IsOwn db) ((first_said ++ districts_said) ++ cards_said)
  own-middle = all-append (IsOwn db) (first_said ++ districts_said) cards_said own-start (own-cards (other_cards (entries db.cards)) are-other_cards)

  own : AllByRecursion (IsOwn db) all_said
  own = all-append (IsOwn db) ((first_said ++ districts_said) ++ cards_said) others_said own-middle (own-rows row_part.Others (entries db.rows) are-rows)

  new-first : AreNew no_tables first_said
  new-first = new-cards (first_cards (entries db.cards)) (part-apart part.WarehousesAndDistricts (entries db.cards) (entries_sorted db.cards)) are-first_cards no_tables (λ q x kind there. get-empty card_key_cmp q)

  new-start : AreNew no_tables (first_said ++ districts_said)
  new-start = new-append first_said districts_said no_tables new-first
      (new-rows row_part.Districts (entries db.rows) rows-apart are-rows (with_records first_said no_tables)
      (rows-fresh row_part.Districts first_said (entries db.rows) (are-stored first_said own-first) (cards-not-of row_part.Districts (first_cards (entries db.cards)) are-first_cards)))

  new-middle : AreNew no_tables ((first_said ++ districts_said) ++ cards_said)
  new-middle = new-append (first_said ++ districts_said) cards_said no_tables new-start
      (new-cards (other_cards (entries db.cards)) (others-apart (entries db.cards) (entries_sorted db.cards)) are-other_cards (with_records (first_said ++ districts_said) no_tables)
      (cards-fresh (first_said ++ districts_said) (entries db.cards) (all-append IsOfFirst first_said districts_said (first-of-first (first_cards (entries db.cards)) are-first) (rows-of-first row_part.Districts (entries db.rows) are-rows))))

  not-others : AllByRecursion (IsNotOf row_part.Others) ((first_said ++ districts_said) ++ cards_said)
  not-others = all-append (IsNotOf row_part.Others) (first_said ++ districts_said) cards_said
      (all-append (IsNotOf row_part.Others) first_said districts_said (cards-not-of row_part.Others (first_cards (entries db.cards)) are-first_cards) (districts-not-others (entries db.rows) are-rows))
      (cards-not-of row_part.Others (other_cards (entries db.cards)) are-other_cards)

  new : AreNew no_tables all_said
  new = new-append ((first_said ++ districts_said) ++ cards_said) others_said no_tables new-middle
      (new-rows row_part.Others (entries db.rows) rows-apart are-rows (with_records ((first_said ++ districts_said) ++ cards_said) no_tables)
      (rows-fresh row_part.Others ((first_said ++ districts_said) ++ cards_said) (entries db.rows) (are-stored ((first_said ++ districts_said) ++ cards_said) own-middle) not-others))

  -- ---- nothing is left out
  module _ {L Y : Type 0} {Q : L → L → Ordering} (q_total : IsTotalOrder Q) (q_exact : IsAntisymmetric Q) (g : ImageRecord → Option (L × Y)) where
    -- what the record of a card adds
    card-occurs : (k : CardKey) (c : Card) (s : ImageRecord) (y : L × Y) → get db.cards k ≡ Some c → card_said db.rows c ≡ Some s → g s ≡ Some y → Occurs q_total q_exact y.0 (map g all_said)
    card-occurs k c s y there is made =
        let found = sym (get-entries db.cards k) ∙ there in
        occurs-first q_total q_exact g ((first_said ++ districts_said) ++ cards_said) others_said y.0 (elim (cases_Bool (stands_in part.WarehousesAndDistricts k)) [
          | inl first ↦
              occurs-first q_total q_exact g (first_said ++ districts_said) cards_said y.0 (occurs-first q_total q_exact g first_said districts_said y.0
              (occurs-made card_key_cmp_total exact_cards q_total q_exact (said_at db) g (first_cards (entries db.cards)) k c s y (in_part part.WarehousesAndDistricts (entries db.cards) k first ∙ found) is made))
          | inr other ↦
              occurs-behind q_total q_exact g (first_said ++ districts_said) cards_said y.0
              (occurs-made card_key_cmp_total exact_cards q_total q_exact (said_at db) g (other_cards (entries db.cards)) k c s y (other-found (entries db.cards) k other ∙ found) is made)
        ])

    -- what the record of a row adds
    row-occurs : (p : RowPart) (k : RowKey) (x : Row) (s : ImageRecord) (y : L × Y) → get db.rows k ≡ Some x → row_said p (k, x) ≡ Some s → g s ≡ Some y → Occurs q_total q_exact y.0 (map g all_said)
    row-occurs row_part.Districts k x s y there is made =
        occurs-first q_total q_exact g ((first_said ++ districts_said) ++ cards_said) others_said y.0
        (occurs-first q_total q_exact g (first_said ++ districts_said) cards_said y.0 (occurs-behind q_total q_exact g first_said districts_said y.0
        (occurs-made row_key_cmp_total exact_keys q_total q_exact (row_said row_part.Districts) g (entries db.rows) k x s y (sym (get-entries db.rows k) ∙ there) is made)))
    row-occurs row_part.Others k x s y there is made =
        occurs-behind q_total q_exact g ((first_said ++ districts_said) ++ cards_said) others_said y.0
        (occurs-made row_key_cmp_total exact_keys q_total q_exact (row_said row_part.Others) g (entries db.rows) k x s y (sym (get-entries db.rows k) ∙ there) is made)

  cards-whole : (q : CardKey) (c : Card) → get db.cards q ≡ Some c → Occurs card_key_cmp_total exact_cards q (map card_of all_said)
  cards-whole q c there =
      let h = card-said db sound q c there in
      card-occurs card_key_cmp_total exact_cards card_of q c h.says (q, c) there h.is h.card

  rows-whole : (k : RowKey) (x : Row) → get db.rows k ≡ Some x → Occurs row_key_cmp_total exact_keys k (map row_of all_said)
  rows-whole k x there = elim (row-said db sound k x (sound.entries k x there)) [
    | inl b ↦
        let h = card-said db sound b.card_key b.card b.there in
        let (y, is) = h.beside k b.goes in
        card-occurs row_key_cmp_total exact_keys row_of b.card_key b.card h.says (k, y) b.there h.is is
    | inr other ↦
        let h = other.1 in
        row-occurs row_key_cmp_total exact_keys row_of other.0 k x h.says (k, x) there h.is h.row
  ]

  stored : AllByRecursion IsStored all_said
  stored = are-stored all_said own

  cards-back : (with_records all_said no_tables).cards ≡ db.cards
  cards-back = all_cards-after all_said no_tables
      ∙ puts-whole card_key_cmp_total exact_cards (map card_of all_said) db.cards
      (all-mapped (IsOf card_key_cmp_total exact_cards db.cards) card_of all_said (all-map (IsOwn db) (λ s. IsOf card_key_cmp_total exact_cards db.cards (card_of s)) all_said own (λ s h. h.card)))
      cards-whole

  rows-back : (with_records all_said no_tables).rows ≡ db.rows
  rows-back = all_rows-after all_said no_tables stored
      ∙ puts-whole row_key_cmp_total exact_keys (map row_of all_said) db.rows
      (all-mapped (IsOf row_key_cmp_total exact_keys db.rows) row_of all_said (all-map (IsOwn db) (λ s. IsOf row_key_cmp_total exact_keys db.rows (row_of s)) all_said own (λ s h. h.row)))
      rows-whole

  tables-back : with_records all_said no_tables ≡ db
  tables-back = ap₂ (λ (c : Cards) (r : Rows). let d : Database = database c r in d) cards-back rows-back

-- ---- the whole image
read-end : (k : ℕ) (db : Database) → read_from version.Two (written_end k ∷ []) (2 + k) db ≡ Ok db
unfolding read_from written_end field_at
read-end k db =
    let back : (2 + k) - 2 ≡ k = omega arith in
    let same : bytes_eq (decimal k) (decimal k) ≡ true = (bytes_eq-Decides (decimal k) (decimal k)).1 refl in
    rw (back, same) refl

read-said : (ss : List ImageRecord) (db : Database) → AllByRecursion IsStored ss → AreNew no_tables ss → with_records ss no_tables ≡ db → read_all (image_records ss) ≡ Ok db
unfolding read_all written_first field_at
read-said ss db stored new back =
    read-records ss no_tables 2 (written_end (length ss) ∷ []) stored new
    ∙ ap (λ (d : Database). read_from version.Two (written_end (length ss) ∷ []) (2 + length ss) d) back
    ∙ read-end (length ss) db

pub stored-read : (db : Database) → IsSound db → read_all (image_records (image_said db)) ≡ Ok db
stored-read db sound = ap (λ (ss : List ImageRecord). read_all (image_records ss)) (parts db sound) ∙ read-said (all_said db sound) db (stored db sound) (new db sound) (tables-back db sound)

-- each record has a field, so it is read as written
read_back-record : (s : ImageRecord) → read_back (written_record s) ≡ written_record s
unfolding written_customer written_district written_district_next written_district_ytd written_history written_item written_new_order written_order written_order_line written_stock written_warehouse written_whole_district
read_back-record (said.Warehouse c r) = refl
read_back-record (said.District c) = refl
read_back-record (said.DistrictYtd w d r) = refl
read_back-record (said.DistrictNext w d r) = refl
read_back-record (said.WholeDistrict c ytd next) = refl
read_back-record (said.Customer c r) = refl
read_back-record (said.Item c) = refl
read_back-record (said.Stock c r) = refl
read_back-record (said.Order w d o r) = refl
read_back-record (said.NewOrder w d o) = refl
read_back-record (said.OrderLine w d o n r) = refl
read_back-record (said.History n r) = refl

read_back-said : (ss : List ImageRecord) (tail : List Fields) → map read_back tail ≡ tail → map read_back (map written_record ss ++ tail) ≡ map written_record ss ++ tail
read_back-said [] tail is = is
read_back-said (s ∷ ss) tail is = ap₂ (λ (f : Fields) (fs : List Fields). f ∷ fs) (read_back-record s) (read_back-said ss tail is)

read_back-image : (ss : List ImageRecord) → map read_back (image_records ss) ≡ image_records ss
unfolding written_first written_end
read_back-image ss = ap (λ (fs : List Fields). written_first ∷ fs) (read_back-said ss (written_end (length ss) ∷ []) refl)

-- the text begins with no byte order mark
strip_bom-image : (db : Database) → strip_bom (image_text db) ≡ image_text db
unfolding strip_bom written_first
strip_bom-image db = refl

-- the records of the image are the written ones
pub records_in-image : (db : Database) → records_in (image_text db) ≡ image_records (image_said db)
records_in-image db = rw (strip_bom-image db) (records_after-text (image_records (image_said db)) ∙ read_back-image (image_said db))
