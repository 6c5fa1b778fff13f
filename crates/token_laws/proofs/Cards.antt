-- Cards can be told apart by the text of the catalog, which is of bytes.
use Rattle.std.proofs.Common.{◌≡◌, ℕ, ◌<◌, ◌^◌, List, [], ◌∷◌, ◌++◌, length, length-append, append-nil, append_assoc, refl, sym, ap, ◌∙◌, arith}
use Rattle.std.specs.Cmp.{nat_cmp_is}
use Rattle.std.specs.FinMap.{entries, same_entries_map}
use Rattle.std.specs.List.{AllByRecursion, flat_map}
use Rattle.std.specs.declared.cmp.Ordering.TheVariants.{Equal}
use Rattle.catalog.specs.CardBytes.{IsCardKey, card_body, card_bytes, card_code, cards_bytes, credit_text}
use Rattle.catalog.specs.CardKinds.{card_key}
use Rattle.catalog.specs.CardMap.{Cards}
use Rattle.catalog.specs.declared.card.Card.{Card}
use Rattle.catalog.specs.declared.card.Card.TheVariants as card
use Rattle.catalog.specs.declared.card.CardKey.{CardKey}
use Rattle.catalog.specs.declared.card.CardKey.TheVariants as key
use Rattle.catalog.specs.declared.card.Credit.{Credit}
use Rattle.catalog.specs.declared.card.Credit.TheVariants as credit
use Rattle.catalog.specs.declared.card.CustomerCard.{CustomerCard}
use Rattle.catalog.specs.declared.card.DistrictCard.{DistrictCard}
use Rattle.catalog.specs.declared.card.ItemCard.{ItemCard}
use Rattle.catalog.specs.declared.card.StockCard.{StockCard}
use Rattle.catalog.specs.declared.card.WarehouseCard.{WarehouseCard}
use Rattle.catalog.proofs.CardCodes.{order_is_of_card_codes}
use Rattle.catalog.proofs.CardKeys.{card_key_cmp_total, exact_cards}
use Rattle.tpcc_model.specs.Soundness.{IsCard}
use Rattle.tpcc_rows.specs.Encodings.{bytes_16, bytes_64, short_text, sized}
use Rattle.tpcc_rows.specs.declared.key.RowKey.TheVariants as row_key
use Rattle.tpcc_rows.specs.Texts.{IsText}
use Rattle.tpcc_rows.proofs.Fields.{IsApart, after_16, byte, numbers_16, numbers_32, numbers_64, short_texts}
use Rattle.tpcc_rows.proofs.KeyCodes.{code-fits}
use Rattle.tpcc_rows.proofs.Lengths.{length-bytes_64}
use Rattle.token_laws.specs.Collisions.{catalog_text}
use Rattle.token_laws.specs.CoveredLimits.{AreBytes, AreWritableCards}
use Rattle.token_laws.proofs.Bytes.{bytes-16, bytes-32, bytes-64, bytes-short, bytes-sized}
use Rattle.token_laws.proofs.Lists.{bytes-append, bytes-cons, bytes-flat_map, counted, each_entry, no_bytes, whole}

abbrev Entry : Type 0
Entry = CardKey × Card

-- the bytes of an entry
abbrev entry_bytes : Entry → List ℕ
entry_bytes e = card_bytes e.0 e.1

-- a card at its own key, within its limits
record IsWritableCard (e : Entry) : Type 0 where
  own : card_key e.1 ≡ e.0
  limits : IsCard e.1

-- ---- keys
pub own_limits : (c : Card) → IsCard c → IsCardKey (card_key c)
own_limits (card.Warehouse c) h = h.0
own_limits (card.District c) h = (h.0, h.1)
own_limits (card.Customer c) h = (h.warehouse, h.district, h.customer)
own_limits (card.Stock c) h = (h.warehouse, h.item)
own_limits (card.Item c) h = h.0

code_fits : (k : CardKey) → IsCardKey k → card_code k < 2 ^ 64
code_fits (key.Warehouse w) h = code-fits (row_key.Warehouse w) h
code_fits (key.District w d) h = let a = h.0.1 in let b = h.1.1 in omega (arith, a, b)
code_fits (key.Customer w d n) h = code-fits (row_key.Customer w d n) h
code_fits (key.Stock w i) h = code-fits (row_key.Stock w i) h
code_fits (key.Item i) h = let a = h.1 in omega (arith, a)

-- keys of one code are one
same_code : (a b : CardKey) → IsCardKey a → IsCardKey b → card_code a ≡ card_code b → a ≡ b
same_code a b h k e = exact_cards a b (order_is_of_card_codes a b h k ∙ sym (nat_cmp_is (card_code a) (card_code b) Equal e))

-- ---- bodies
-- where the body of one card begins that of another of the same key, the two are one
abbrev AreApart : Card → Card → Type 0
AreApart c d = (xs ys : List ℕ) → card_key c ≡ card_key d → IsCard c → IsCard d → card_body c ++ xs ≡ card_body d ++ ys → (c ≡ d) × (xs ≡ ys)

credits : (a b : Credit) (xs ys : List ℕ) → credit_text a ++ xs ≡ credit_text b ++ ys → (a ≡ b) × (xs ≡ ys)
credits credit.Good credit.Good xs ys e = (refl, cc)
credits credit.Bad credit.Bad xs ys e = (refl, cc)
credits credit.Good credit.Bad xs ys e = let h = byte e in absurd (omega (arith, h.0))
credits credit.Bad credit.Good xs ys e = let h = byte e in absurd (omega (arith, h.0))

warehouses : (c d : WarehouseCard) → AreApart (card.Warehouse c) (card.Warehouse d)
warehouses c d xs ys same h g e =
    let own : c.warehouse ≡ d.warehouse = cc in
    let flat = simp append_assoc at e in
    let a = short_texts c.name d.name _ _ flat in
    let b = numbers_16.apart c.tax d.tax xs ys (omega (arith, h.2)) (omega (arith, g.2)) a.1 in
    (λ i. card.Warehouse (record { warehouse = own i; name = a.0 i; tax = b.0 i }), b.1)

districts : (c d : DistrictCard) → AreApart (card.District c) (card.District d)
districts c d xs ys same h g e =
    let own : c.warehouse ≡ d.warehouse = cc in
    let part : c.district ≡ d.district = cc in
    let flat = simp append_assoc at e in
    let a = short_texts c.name d.name _ _ flat in
    let b = numbers_16.apart c.tax d.tax xs ys (omega (arith, h.3)) (omega (arith, g.3)) a.1 in
    (λ i. card.District (record { warehouse = own i; district = part i; name = a.0 i; tax = b.0 i }), b.1)

customers : (c d : CustomerCard) → AreApart (card.Customer c) (card.Customer d)
customers c d xs ys same h g e =
    let own : c.warehouse ≡ d.warehouse = cc in
    let part : c.district ≡ d.district = cc in
    let number : c.customer ≡ d.customer = cc in
    let flat = simp append_assoc at e in
    let a = short_texts c.last d.last _ _ flat in
    let b = short_texts c.middle d.middle _ _ a.1 in
    let f = short_texts c.first d.first _ _ b.1 in
    let m = credits c.credit d.credit _ _ f.1 in
    let n = numbers_16.apart c.discount d.discount xs ys (omega (arith, h.discount)) (omega (arith, g.discount)) m.1 in
    (λ i. card.Customer (record { warehouse = own i; district = part i; customer = number i; last = a.0 i; middle = b.0 i; first = f.0 i; credit = m.0 i; discount = n.0 i }), n.1)

-- texts, each after its length
short_apart : IsApart (IsText 24) short_text
short_apart = record { apart = λ a b xs ys p q e. short_texts a b xs ys e }

stocks : (c d : StockCard) → AreApart (card.Stock c) (card.Stock d)
stocks c d xs ys same h g e =
    let own : c.warehouse ≡ d.warehouse = cc in
    let number : c.item ≡ d.item = cc in
    let flat = simp append_assoc at e in
    let a = short_texts c.data d.data _ _ flat in
    let b = counted short_apart c.district_infos d.district_infos xs ys (h.ten_infos ∙ sym g.ten_infos) h.district_infos g.district_infos a.1 in
    (λ i. card.Stock (record { warehouse = own i; item = number i; «data» = a.0 i; district_infos = b.0 i }), b.1)

items : (c d : ItemCard) → AreApart (card.Item c) (card.Item d)
items c d xs ys same h g e =
    let number : c.item ≡ d.item = cc in
    let flat = simp append_assoc at e in
    let a = short_texts c.name d.name _ _ flat in
    let b = numbers_32.apart c.price d.price _ _ (omega (arith, h.2)) (omega (arith, g.2)) a.1 in
    let f = short_texts c.data d.data xs ys b.1 in
    (λ i. card.Item (record { item = number i; name = a.0 i; price = b.0 i; «data» = f.0 i }), f.1)

bodies : (c d : Card) → AreApart c d
bodies (card.Warehouse c) (card.Warehouse d) = warehouses c d
bodies (card.District c) (card.District d) = districts c d
bodies (card.Customer c) (card.Customer d) = customers c d
bodies (card.Stock c) (card.Stock d) = stocks c d
bodies (card.Item c) (card.Item d) = items c d
bodies c d = λ xs ys same h g e. let no : ⊥ = cc in absurd no

-- ---- entries
in_parts : (k : CardKey) (c : Card) (xs : List ℕ) → bytes_64 (card_code k) ++ (bytes_16 (length (card_body c)) ++ (card_body c ++ xs)) ≡ card_bytes k c ++ xs
unfolding card_bytes
in_parts k c xs = sym (append_assoc (bytes_64 (card_code k)) (sized (card_body c)) xs ∙ ap (λ (zs : List ℕ). bytes_64 (card_code k) ++ zs) (append_assoc (bytes_16 (length (card_body c))) (card_body c) xs))

apart : (a b : Entry) (xs ys : List ℕ) → IsWritableCard a → IsWritableCard b → entry_bytes a ++ xs ≡ entry_bytes b ++ ys → (a ≡ b) × (xs ≡ ys)
apart a b xs ys h g e =
    let flat = in_parts a.0 a.1 xs ∙ e ∙ sym (in_parts b.0 b.1 ys) in
    let own : IsCardKey a.0 = rw (← h.own) (own_limits a.1 h.limits) in
    let other : IsCardKey b.0 = rw (← g.own) (own_limits b.1 g.limits) in
    let coded = numbers_64.apart (card_code a.0) (card_code b.0) _ _ (code_fits a.0 own) (code_fits b.0 other) flat in
    let same = same_code a.0 b.0 own other coded.0 in
    let body = bodies a.1 b.1 xs ys (h.own ∙ same ∙ sym g.own) h.limits g.limits (after_16 _ _ _ _ coded.1) in
    (λ i. (same i, body.0 i), body.1)

entries_apart : IsApart IsWritableCard entry_bytes
entries_apart = record { apart = apart }

some_bytes : (e : Entry) → 0 < length (entry_bytes e)
unfolding card_bytes
some_bytes e = omega (arith, length-append (bytes_64 (card_code e.0)) (sized (card_body e.1)), length-bytes_64 (card_code e.0))

in_turn : (es : List Entry) → cards_bytes es ≡ flat_map entry_bytes es
in_turn [] = refl
in_turn (e ∷ es) = ap (λ (xs : List ℕ). entry_bytes e ++ xs) (in_turn es)

-- ---- bytes
credit-bytes : (c : Credit) → AreBytes (credit_text c)
credit-bytes credit.Good = bytes-cons (omega arith) (bytes-cons (omega arith) no_bytes)
credit-bytes credit.Bad = bytes-cons (omega arith) (bytes-cons (omega arith) no_bytes)

body-bytes : (c : Card) → IsCard c → AreBytes (card_body c)
body-bytes (card.Warehouse c) h = bytes-append (bytes-short 10 c.name (omega arith) h.1) (bytes-16 c.tax)
body-bytes (card.District c) h = bytes-append (bytes-short 10 c.name (omega arith) h.2) (bytes-16 c.tax)
body-bytes (card.Customer c) h =
    let names = bytes-append (bytes-append (bytes-short 16 c.last (omega arith) h.last) (bytes-short 2 c.middle (omega arith) h.middle)) (bytes-short 16 c.first (omega arith) h.first) in
    bytes-append (bytes-append names (credit-bytes c.credit)) (bytes-16 c.discount)
body-bytes (card.Stock c) h =
    bytes-append (bytes-short 50 c.data (omega arith) h.text) (bytes-flat_map (IsText 24) short_text (λ text is. bytes-short 24 text (omega arith) is) c.district_infos h.district_infos)
body-bytes (card.Item c) h =
    bytes-append (bytes-append (bytes-short 24 c.name (omega arith) h.1) (bytes-32 c.price)) (bytes-short 50 c.data (omega arith) h.3)

entry-bytes : (e : Entry) → IsWritableCard e → AreBytes (entry_bytes e)
unfolding card_bytes
entry-bytes e h = bytes-append (bytes-64 (card_code e.0)) (bytes-sized (card_body e.1) (body-bytes e.1 h.limits))

-- ---- catalogs
module _ (cards : Cards) (are : AreWritableCards cards) where
  all-writable : AllByRecursion IsWritableCard (entries cards)
  all-writable = each_entry card_key_cmp_total exact_cards IsWritableCard cards (λ k c there. record { own = are.keyed k c there; limits = are.limits k c there })

  pub catalog-bytes : AreBytes (catalog_text cards)
  catalog-bytes = rw (in_turn (entries cards)) (bytes-flat_map IsWritableCard entry_bytes entry-bytes (entries cards) all-writable)

-- cards of one text are the same
pub cards_apart : (c d : Cards) → AreWritableCards c → AreWritableCards d → catalog_text c ≡ catalog_text d → c ≡ d
cards_apart c d p q e =
    same_entries_map c d
    (whole entries_apart some_bytes (entries c) (entries d) (all-writable c p) (all-writable d q)
    (append-nil (flat_map entry_bytes (entries c)) ∙ sym (in_turn (entries c)) ∙ e ∙ in_turn (entries d) ∙ sym (append-nil (flat_map entry_bytes (entries d)))))
