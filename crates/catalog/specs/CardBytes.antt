-- The bytes of a card: its key's code, the length of the body, and the body; and the digest of all cards.
use Rattle.std.specs.Prelude.{◌≡◌, ℕ, ◌+◌, ◌*◌, ◌^◌, List, [], ◌∷◌, ◌++◌, codes}
use Rattle.std.specs.FinMap as map
use Rattle.std.specs.List.{flat_map}
use Rattle.std.specs.Ordering.{nat_cmp}
use Rattle.sha2.specs.Sha256.{sha256}
use Rattle.catalog.specs.CardMap.{Cards, card_key_cmp}
use Rattle.catalog.specs.declared.card.Card.{Card}
use Rattle.catalog.specs.declared.card.Card.TheVariants as card
use Rattle.catalog.specs.declared.card.CardKey.{CardKey}
use Rattle.catalog.specs.declared.card.CardKey.TheVariants as key
use Rattle.catalog.specs.declared.card.Credit.{Credit}
use Rattle.catalog.specs.declared.card.Credit.TheVariants as credit
use Rattle.tpcc_rows.specs.Codes.{IsKey, code, district_code}
use Rattle.tpcc_rows.specs.Encodings.{bytes_16, bytes_32, bytes_64, short_text, sized}
use Rattle.tpcc_rows.specs.Limits.{IsBetween}
use Rattle.tpcc_rows.specs.declared.key.RowKey.TheVariants as row_key

-- the code of a card's key: its row's; districts, which have two rows, and items, which have none, get codes of their own
abbrev pub card_code : CardKey → ℕ
card_code (key.Warehouse w) = code (row_key.Warehouse w)
card_code (key.District w d) = 2 * 2 ^ 56 + district_code w d
card_code (key.Customer w d c) = code (row_key.Customer w d c)
card_code (key.Stock w i) = code (row_key.Stock w i)
card_code (key.Item i) = 11 * 2 ^ 56 + i

-- the key is within the limits of the tables
abbrev pub IsCardKey : CardKey → Type 0
IsCardKey (key.Warehouse w) = IsKey (row_key.Warehouse w)
IsCardKey (key.District w d) = IsBetween 1 100 w × IsBetween 1 10 d
IsCardKey (key.Customer w d c) = IsKey (row_key.Customer w d c)
IsCardKey (key.Stock w i) = IsKey (row_key.Stock w i)
IsCardKey (key.Item i) = IsBetween 1 100000 i

-- keys of cards are ordered as their codes
abbrev pub OrderIsOfCardCodes : Type 0
OrderIsOfCardCodes = (a b : CardKey) → IsCardKey a → IsCardKey b → card_key_cmp a b ≡ nat_cmp (card_code a) (card_code b)

abbrev pub credit_text : Credit → List ℕ
credit_text credit.Good = codes "GC"
credit_text credit.Bad = codes "BC"

abbrev pub card_body : Card → List ℕ
card_body (card.Warehouse c) = short_text c.name ++ bytes_16 c.tax
card_body (card.District c) = short_text c.name ++ bytes_16 c.tax
card_body (card.Customer c) = short_text c.last ++ short_text c.middle ++ short_text c.first ++ credit_text c.credit ++ bytes_16 c.discount
card_body (card.Stock c) = short_text c.data ++ flat_map short_text c.district_infos
card_body (card.Item c) = short_text c.name ++ bytes_32 c.price ++ short_text c.data

unfoldable pub card_bytes : CardKey → Card → List ℕ
card_bytes k c = bytes_64 (card_code k) ++ sized (card_body c)

abbrev pub cards_bytes : List (CardKey × Card) → List ℕ
cards_bytes [] = []
cards_bytes (e ∷ es) = card_bytes e.0 e.1 ++ cards_bytes es

-- the digest of a catalog: its cards' bytes in ascending code, hashed
unfoldable pub catalog_digest : Cards → List ℕ
catalog_digest cards = sha256 (cards_bytes (map.entries cards))
