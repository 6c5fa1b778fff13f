-- The number of each customer's last order in a district, and for each order that of the one before it of the same customer.
use Rattle.std.specs.Prelude.{◌≡◌, ℕ, ◌<◌, ◌≤◌, ◌==◌, cond, length, slice_index, slice_index_or, map as each, List, [], ◌∷◌, ◌++◌, Option, Some, None, option_map, unwrap_or}
use Rattle.std.specs.FinMap as map
use Rattle.std.specs.Option.{option_or}
use Rattle.tpcc_rows.specs.Limits.{between}
use Rattle.tpcc_rows.specs.declared.row.OrderRow.{OrderRow}
use Rattle.tables.specs.declared.keys.TheConstants.{PLACES}
use Rattle.tables.specs.declared.last_orders.LastOrders.{LastOrders}
use Rattle.tables.specs.declared.last_orders.TheConstants.{NUMBERS}
use Rattle.tables.specs.ByRank.{ByRank}
use Rattle.tables.specs.Keys.{number_in}
use Rattle.tables.specs.Shelves.{place_of, rows_at}

-- the rank of each order, with its customer
abbrev pub owners : List (ℕ × OrderRow) → List (ℕ × ℕ)
owners es = each (λ e. (e.0, e.1.customer)) es

-- the last of these orders that is the customer's
abbrev pub last_of : ℕ → List (ℕ × ℕ) → Option (ℕ × ℕ)
last_of c [] = None
last_of c (o ∷ os) = option_or (last_of c os) (cond (o.1 == c) (Some o) None)

-- its number, or 0
abbrev pub last_number : ℕ → List (ℕ × ℕ) → ℕ
last_number c os = unwrap_or (option_map (λ o. number_in o.0) (last_of c os)) 0

-- for each order the number of the one before it of the same customer, or 0; the earlier ones are before them all
abbrev pub numbers_before : List (ℕ × ℕ) → List (ℕ × ℕ) → List ℕ
numbers_before earlier [] = []
numbers_before earlier (o ∷ os) = last_number o.1 earlier ∷ numbers_before (earlier ++ o ∷ []) os

-- there are so many places for orders, and if there are any, one for each customer
pub record HasPlaces (kept : LastOrders) (count : ℕ) : Type 0 where
  pub orders : count ≤ length kept.previous.items
  pub customers : 0 < count → NUMBERS ≤ length kept.last.items

-- the last order of each customer and the one before each order are kept of these
pub record AreLinked (kept : LastOrders) (os : List (ℕ × ℕ)) : Type 0 where
  pub last : (c : ℕ) → c < NUMBERS → slice_index kept.last.items c ≡ last_number c os
  pub previous : kept.previous.items ≡ numbers_before [] os
  pub places : HasPlaces kept (length os)

-- the number that is kept for the customer, if it is an order's
abbrev pub kept_for : LastOrders → ℕ → Option ℕ
kept_for kept c = between 1 9999999 (slice_index kept.last.items c)

-- the orders of the rank's district
abbrev pub orders_of : ByRank OrderRow → ℕ → List (ℕ × OrderRow)
orders_of orders rank = map.entries (rows_at place_of orders (place_of rank))

-- they are kept of the orders of the rank's district
abbrev pub AreLinkedAt : ByRank OrderRow → ℕ → LastOrders → Type 0
AreLinkedAt orders rank kept = AreLinked kept (owners (orders_of orders rank))

-- they are kept for each district
pub record AreLastOrders (orders : ByRank OrderRow) (kept : List LastOrders) : Type 0 where
  pub full : length kept ≡ PLACES
  pub linked : (n : ℕ) (d : LastOrders) → n < PLACES → AreLinked (slice_index_or kept n d) (owners (map.entries (rows_at place_of orders n)))
