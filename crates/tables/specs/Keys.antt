-- The key of a rank.
use Rattle.std.specs.Prelude.{ℕ, ◌/◌, ◌%◌, ◌^◌, ◌==◌, cond, Option, None, option_map, option_and_then, unwrap_or}
use Rattle.tpcc_rows.specs.Limits.{between}
use Rattle.tpcc_rows.specs.declared.id.TheConstants.{LAST_REQUEST}
use Rattle.tpcc_rows.specs.declared.key.RowKey.{RowKey}
use Rattle.tpcc_rows.specs.declared.key.RowKey.TheVariants as key

-- the columns of a rank
abbrev pub warehouse_in : ℕ → ℕ
warehouse_in r = r / 2 ^ 32 % 256

abbrev pub district_in : ℕ → ℕ
district_in r = r / 2 ^ 28 % 16

abbrev pub number_in : ℕ → ℕ
number_in r = r / 16 % 2 ^ 24

abbrev pub line_in : ℕ → ℕ
line_in r = r % 16

abbrev pub warehouse_of : ℕ → Option ℕ
warehouse_of r = between 1 100 (warehouse_in r)

abbrev pub district_of : ℕ → Option ℕ
district_of r = between 1 10 (district_in r)

abbrev pub order_of : ℕ → Option ℕ
order_of r = between 1 9999999 (number_in r)

-- the key of a rank of each kind
unfoldable pub warehouse_at : ℕ → Option RowKey
warehouse_at r = option_map (λ w. key.Warehouse w) (warehouse_of r)

unfoldable pub customer_at : ℕ → Option RowKey
customer_at r = option_and_then (λ w. option_and_then (λ d. option_map (λ c. key.Customer w d c) (between 1 3000 (number_in r % 65536))) (district_of r)) (warehouse_of r)

unfoldable pub stock_at : ℕ → Option RowKey
stock_at r = option_and_then (λ w. option_map (λ i. key.Stock w i) (between 1 999999 (number_in r))) (warehouse_of r)

unfoldable pub order_at : ℕ → Option RowKey
order_at r = option_and_then (λ w. option_and_then (λ d. option_map (λ o. key.Order w d o) (order_of r)) (district_of r)) (warehouse_of r)

unfoldable pub new_order_at : ℕ → Option RowKey
new_order_at r = option_and_then (λ w. option_and_then (λ d. option_map (λ o. key.NewOrder w d o) (order_of r)) (district_of r)) (warehouse_of r)

unfoldable pub line_at : ℕ → Option RowKey
line_at r = option_and_then (λ w. option_and_then (λ d. option_and_then (λ o. option_map (λ n. key.OrderLine w d o n) (between 1 15 (line_in r))) (order_of r)) (district_of r)) (warehouse_of r)

unfoldable pub history_at : ℕ → Option RowKey
history_at r = option_map (λ n. key.History n) (between 1 LAST_REQUEST (r % 2 ^ 56))

unfoldable pub district_ytd_at : ℕ → Option RowKey
district_ytd_at r = option_and_then (λ w. option_map (λ d. key.DistrictYtd w d) (district_of r)) (warehouse_of r)

unfoldable pub district_next_at : ℕ → Option RowKey
district_next_at r = option_and_then (λ w. option_map (λ d. key.DistrictNext w d) (district_of r)) (warehouse_of r)

-- the kind of a rank
abbrev pub kind_in : ℕ → ℕ
kind_in r = r / 2 ^ 56

-- the key of this kind
abbrev pub by_kind : ℕ → ℕ → Option RowKey
by_kind k r =
    cond (k == 1) (warehouse_at r)
    (cond (k == 3) (customer_at r)
    (cond (k == 4) (stock_at r)
    (cond (k == 5) (order_at r)
    (cond (k == 6) (new_order_at r)
    (cond (k == 7) (line_at r)
    (cond (k == 8) (history_at r)
    (cond (k == 9) (district_ytd_at r)
    (cond (k == 10) (district_next_at r) None))))))))

-- the key of a rank, if it has one
unfoldable pub key_at : ℕ → Option RowKey
key_at r = by_kind (kind_in r) r

-- the key of a rank that has one
abbrev pub key_of : ℕ → RowKey
key_of r = unwrap_or (key_at r) (key.Warehouse 1)
