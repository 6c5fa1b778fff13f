-- Keys of cards stand in the order of their codes.
use Rattle.std.proofs.Common.{◌≡◌, ℕ, ◌+◌, ◌*◌, ◌^◌, ◌<◌, ◌≤◌, arith, refl, sym, ◌∙◌}
use Rattle.std.specs.declared.cmp.Ordering.{Ordering}
use Rattle.std.specs.declared.cmp.Ordering.TheVariants.{Less, Equal, Greater}
use Rattle.std.specs.Ordering.{MatchOrdering, nat_cmp}
use Rattle.std.specs.Cmp.{nat_cmp_is}
use Rattle.std.proofs.lemmas.Cmp.{ranked}
use Rattle.tpcc_rows.specs.Codes.{IsKey, district_code}
use Rattle.tpcc_rows.specs.declared.key.RowKey.{RowKey}
use Rattle.tpcc_rows.specs.declared.key.RowKey.TheVariants as row_key
use Rattle.tpcc_rows.proofs.KeyCodes.{order_is_of_codes}
use Rattle.catalog.specs.declared.card.CardKey.{CardKey}
use Rattle.catalog.specs.declared.card.CardKey.TheVariants.{Warehouse, District, Customer, Stock, Item}
use Rattle.catalog.specs.CardBytes.{IsCardKey, OrderIsOfCardCodes, card_code}
use Rattle.catalog.specs.CardMap.{card_key_cmp}

-- what follows the byte of a kind compares as the code does
behind_kind : (kind i j : ℕ) → nat_cmp i j ≡ nat_cmp (kind + i) (kind + j)
behind_kind kind i j = nat_cmp_is (kind + i) (kind + j) (nat_cmp i j) (at (nat_cmp i j) (ranked i j _ refl))
  where
    at : (r : Ordering) → MatchOrdering r (i < j) (i ≡ j) (j < i) → MatchOrdering r (kind + i < kind + j) (kind + i ≡ kind + j) (kind + j < kind + i)
    at Less h = omega (arith, h)
    at Equal h = omega (arith, h)
    at Greater h = omega (arith, h)

-- the row of a card: one of the two that a district has, and a history for an item, which has none
row : CardKey → RowKey
row (Warehouse w) = row_key.Warehouse w
row (District w d) = row_key.DistrictYtd w d
row (Customer w d c) = row_key.Customer w d c
row (Stock w i) = row_key.Stock w i
row (Item i) = row_key.History i

row-is_key : (a : CardKey) → IsCardKey a → IsKey (row a)
unfolding row
row-is_key (Warehouse w) h = h
row-is_key (District w d) h = h
row-is_key (Customer w d c) h = h
row-is_key (Stock w i) h = h
row-is_key (Item i) h = let high = h.1 in (h.0, omega (arith, high))

-- what is below a code comes before it
before : (a b : CardKey) (bound : ℕ) → card_code a < bound → bound ≤ card_code b → Less ≡ nat_cmp (card_code a) (card_code b)
before a b bound low high = nat_cmp_is (card_code a) (card_code b) Less (omega (arith, low, high))

behind : (a b : CardKey) (bound : ℕ) → bound ≤ card_code a → card_code b < bound → Greater ≡ nat_cmp (card_code a) (card_code b)
behind a b bound high low = nat_cmp_is (card_code a) (card_code b) Greater (omega (arith, low, high))

low_warehouse : (w : ℕ) → IsCardKey (Warehouse w) → card_code (Warehouse w) < 2 * 2 ^ 56
low_warehouse w h = let a = h.1 in omega (arith, a)

low_district : (w d : ℕ) → IsCardKey (District w d) → card_code (District w d) < 3 * 2 ^ 56
low_district w d h = let a = h.0.1 in let b = h.1.1 in omega (arith, a, b)

low_customer : (w d c : ℕ) → IsCardKey (Customer w d c) → card_code (Customer w d c) < 11 * 2 ^ 56
low_customer w d c h = let a = h.0.1 in let b = h.1.1 in let e = h.2.1 in omega (arith, a, b, e)

low_stock : (w i : ℕ) → IsCardKey (Stock w i) → card_code (Stock w i) < 11 * 2 ^ 56
low_stock w i h = let a = h.0.1 in let b = h.1.1 in omega (arith, a, b)

districts : (w d v e : ℕ) → IsCardKey (District w d) → IsCardKey (District v e) → card_key_cmp (District w d) (District v e) ≡ nat_cmp (card_code (District w d)) (card_code (District v e))
districts w d v e h k =
    let a = district_code w d in
    let b = district_code v e in
    order_is_of_codes (row_key.DistrictYtd w d) (row_key.DistrictYtd v e) h k ∙ sym (behind_kind (9 * 2 ^ 56) a b) ∙ behind_kind (2 * 2 ^ 56) a b

pub order_is_of_card_codes : OrderIsOfCardCodes
unfolding row
order_is_of_card_codes (Item i) (Item j) h k = behind_kind (11 * 2 ^ 56) i j
order_is_of_card_codes (Warehouse w) (Item i) h k = let low = low_warehouse w h in before (Warehouse w) (Item i) (11 * 2 ^ 56) (omega (arith, low)) (omega arith)
order_is_of_card_codes (District w d) (Item i) h k = let low = low_district w d h in before (District w d) (Item i) (11 * 2 ^ 56) (omega (arith, low)) (omega arith)
order_is_of_card_codes (Customer w d c) (Item i) h k = before (Customer w d c) (Item i) (11 * 2 ^ 56) (low_customer w d c h) (omega arith)
order_is_of_card_codes (Stock w j) (Item i) h k = before (Stock w j) (Item i) (11 * 2 ^ 56) (low_stock w j h) (omega arith)
order_is_of_card_codes (Item i) (Warehouse w) h k = let low = low_warehouse w k in behind (Item i) (Warehouse w) (11 * 2 ^ 56) (omega arith) (omega (arith, low))
order_is_of_card_codes (Item i) (District w d) h k = let low = low_district w d k in behind (Item i) (District w d) (11 * 2 ^ 56) (omega arith) (omega (arith, low))
order_is_of_card_codes (Item i) (Customer w d c) h k = behind (Item i) (Customer w d c) (11 * 2 ^ 56) (omega arith) (low_customer w d c k)
order_is_of_card_codes (Item i) (Stock w j) h k = behind (Item i) (Stock w j) (11 * 2 ^ 56) (omega arith) (low_stock w j k)
order_is_of_card_codes (District w d) (District v e) h k = districts w d v e h k
order_is_of_card_codes (Warehouse v) (District w d) h k = before (Warehouse v) (District w d) (2 * 2 ^ 56) (low_warehouse v h) (omega arith)
order_is_of_card_codes (District w d) (Warehouse v) h k = behind (District w d) (Warehouse v) (2 * 2 ^ 56) (omega arith) (low_warehouse v k)
order_is_of_card_codes (District w d) (Customer v e c) h k = before (District w d) (Customer v e c) (3 * 2 ^ 56) (low_district w d h) (omega arith)
order_is_of_card_codes (Customer v e c) (District w d) h k = behind (Customer v e c) (District w d) (3 * 2 ^ 56) (omega arith) (low_district w d k)
order_is_of_card_codes (District w d) (Stock v i) h k = before (District w d) (Stock v i) (3 * 2 ^ 56) (low_district w d h) (omega arith)
order_is_of_card_codes (Stock v i) (District w d) h k = behind (Stock v i) (District w d) (3 * 2 ^ 56) (omega arith) (low_district w d k)
order_is_of_card_codes a b h k = order_is_of_codes (row a) (row b) (row-is_key a h) (row-is_key b k)
