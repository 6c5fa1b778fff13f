-- The cards of a database, as a finite map.
use Rattle.std.specs.Prelude.{◌≡◌, ◌<◌, ◌||◌, ℕ, Bool, false, List, [], ◌∷◌, ◌++◌, length, map, slice_index_or, Some}
use Rattle.std.specs.Coded.{Coded}
use Rattle.std.specs.FinMap as finmap
use Rattle.std.specs.List.{list_any}
use Rattle.std.specs.Ordering.{eq_by_cmp}
use Rattle.std.specs.declared.cmp.Ordering.{Ordering}
use Rattle.std.specs.declared.cmp.Ordering.TheVariants.{Less}
use Rattle.catalog.specs.declared.card.CardKey.{CardKey}
use Rattle.catalog.specs.declared.card.Card.{Card}
use Rattle.catalog.specs.contracts.card.CardKey.{the_row as key_row}
use Rattle.catalog.specs.contracts.card.Card.{the_row as card_row}
use Rattle.catalog.specs.contracts.card.CardKeyOrd.TheImpl.{ghosts}
use Rattle.catalog.specs.CardKinds.{card_key}

-- the derived order of keys: by kind, and then by the columns
abbrev pub card_key_cmp : CardKey → CardKey → Ordering
card_key_cmp = ghosts.cmp

abbrev pub Cards : Type 0
Cards = finmap.FinMap card_key_cmp Card

abbrev pub cards_code : Coded Cards
cards_code = finmap.code key_row.coded card_row.coded

abbrev pub keyed : Card → CardKey × Card
keyed card = (card_key card, card)

-- each card is at its own key
abbrev pub AreKeyed : Cards → Type 0
AreKeyed cards = (key : CardKey) (card : Card) → finmap.get cards key ≡ Some card → card_key card ≡ key

-- the cards, each at its own key
abbrev pub cards_of : List Card → Cards
cards_of list = finmap.from_entries (map keyed list)

-- the card has this key
abbrev pub has_key : CardKey → Card → Bool
has_key key card = eq_by_cmp card_key_cmp key (card_key card)

-- the cards of a list in the order of its keys
abbrev pub cards_in : List (CardKey × Card) → Cards
cards_in entries = finmap.from_sorted entries

-- two of the cards share a key
abbrev pub has_twins : List Card → Bool
has_twins [] = false
has_twins (card ∷ later) = list_any (λ twin. has_key (card_key twin) card) later || has_twins later

-- the cards of a list; a key's first one counts
abbrev pub firsts : List (CardKey × Card) → Cards
firsts entries = finmap.from_entries entries

-- the cards of the list replace those with their keys
abbrev pub over : List (CardKey × Card) → Cards → Cards
over late cards = firsts (late ++ finmap.entries cards)

-- the key is greater than all of these
abbrev pub IsBehind : CardKey → List (CardKey × Card) → Type 0
IsBehind key entries = (i : ℕ) (d : CardKey × Card) → i < length entries → card_key_cmp (slice_index_or entries i d).0 key ≡ Less

-- the key is less than all of these
abbrev pub IsBefore : CardKey → List (CardKey × Card) → Type 0
IsBefore key entries = (i : ℕ) (d : CardKey × Card) → i < length entries → card_key_cmp key (slice_index_or entries i d).0 ≡ Less
