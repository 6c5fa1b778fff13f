-- The choice of a customer by last name (TPC-C clauses 2.5.2.2 and 2.6.2.2).
use Rattle.std.specs.Prelude.{ℕ, ◌+◌, ◌-◌, ◌/◌, ◌==◌, ◌&&◌, Bool, List, filter, length, Option, count_by}
use Rattle.std.specs.Cmp.Lexicographic.{slice_cmp}
use Rattle.std.specs.FinMap as map
use Rattle.std.specs.List.{filter_map, find}
use Rattle.std.specs.Option.{option_map}
use Rattle.std.specs.Ordering.{is_lt, nat_cmp, ordering_then}
use Rattle.std.specs.Str.{bytes_eq}
use Rattle.catalog.specs.declared.card.Card.{Card}
use Rattle.catalog.specs.declared.card.CardKey.{CardKey}
use Rattle.catalog.specs.declared.card.CustomerCard.{CustomerCard}
use Rattle.catalog.specs.CardKinds.{as_customer}
use Rattle.catalog.specs.CardMap.{Cards}

abbrev pub customers_among : List (CardKey × Card) → List CustomerCard
customers_among entries = filter_map (λ e. as_customer e.1) entries

abbrev pub customer_cards : Cards → List CustomerCard
customer_cards cards = customers_among (map.entries cards)

-- a customer of the district with this C_LAST
abbrev pub is_holder : ℕ → ℕ → List ℕ → CustomerCard → Bool
is_holder w d last c = c.warehouse == w && c.district == d && bytes_eq c.last last

-- the first is before the second: by C_FIRST, then by C_ID
abbrev pub stands_before : CustomerCard → CustomerCard → Bool
stands_before a b = is_lt (ordering_then (slice_cmp nat_cmp a.first b.first) (nat_cmp a.customer b.customer))

-- this holder is the one at n/2 rounded up, counted from 1: as many are before it
abbrev pub is_middle : List CustomerCard → CustomerCard → Bool
is_middle holders c = count_by (λ other. stands_before other c) holders == (length holders + 1) / 2 - 1

unfoldable pub middle_of : List CustomerCard → Option ℕ
middle_of holders = option_map (λ c. c.customer) (find (is_middle holders) holders)

-- the number of the district's customer chosen by the last name, if any has it
unfoldable pub customer_by_last : Cards → ℕ → ℕ → List ℕ → Option ℕ
customer_by_last cards w d last = middle_of (filter (is_holder w d last) (customer_cards cards))
