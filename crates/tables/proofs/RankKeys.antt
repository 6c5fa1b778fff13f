-- The key of a key's rank is the key.
use Rattle.std.proofs.Common.{◌≡◌, ℕ, ◌+◌, ◌*◌, ◌/◌, ◌%◌, ◌^◌, ◌<◌, Bool, Option, Some, None, sym, ap, ◌∙◌, arith}
use Rattle.std.specs.Prelude.{option_map, option_and_then, unwrap_or, if◌then◌else◌}
use Rattle.std.proofs.lemmas.Bool.{and_from, le-leb}
use Rattle.std.proofs.lemmas.Nat.{div-mul-add, mod-mul-add}
use Rattle.tpcc_rows.specs.Limits.{IsBetween, between}
use Rattle.tpcc_rows.specs.declared.key.RowKey.{RowKey}
use Rattle.tpcc_rows.specs.declared.key.RowKey.TheVariants.{Warehouse, Customer, Stock, Order, NewOrder, OrderLine, History, DistrictYtd, DistrictNext}
use Rattle.tpcc_rows.specs.Ranks.{IsNumbered, columns, kind, rank, rank_in_kind}
use Rattle.tables.specs.Keys.{warehouse_in, district_in, number_in, line_in, kind_in, warehouse_at, customer_at, stock_at, order_at, new_order_at, line_at, history_at, district_ytd_at, district_next_at, by_kind, key_at, key_of}
use Rattle.tpcc_rows.proofs.KeyRanks.{in_kind-small}

-- ---- the columns of a rank
module _ (k w d n l : ℕ) (hw : w < 256) (hd : d < 16) (hn : n < 2 ^ 24) (hl : l < 16) where
  line-of : line_in (k * 2 ^ 56 + columns w d n l) ≡ l
  line-of =
      let whole : k * 2 ^ 56 + columns w d n l ≡ (((k * 2 ^ 24 + w) * 16 + d) * 2 ^ 24 + n) * 16 + l = omega arith in
      ap (λ x. x % 16) whole ∙ mod-mul-add (((k * 2 ^ 24 + w) * 16 + d) * 2 ^ 24 + n) 16 l hl

  number-of : number_in (k * 2 ^ 56 + columns w d n l) ≡ n
  number-of =
      let whole : k * 2 ^ 56 + columns w d n l ≡ (((k * 2 ^ 24 + w) * 16 + d) * 2 ^ 24 + n) * 16 + l = omega arith in
      ap (λ x. x / 16 % 2 ^ 24) whole
      ∙ ap (λ x. x % 2 ^ 24) (div-mul-add (((k * 2 ^ 24 + w) * 16 + d) * 2 ^ 24 + n) 16 l hl)
      ∙ mod-mul-add ((k * 2 ^ 24 + w) * 16 + d) (2 ^ 24) n hn

  district-of : district_in (k * 2 ^ 56 + columns w d n l) ≡ d
  district-of =
      let whole : k * 2 ^ 56 + columns w d n l ≡ ((k * 2 ^ 24 + w) * 16 + d) * 2 ^ 28 + (n * 16 + l) = omega arith in
      let low : n * 16 + l < 2 ^ 28 = omega arith in
      ap (λ x. x / 2 ^ 28 % 16) whole
      ∙ ap (λ x. x % 16) (div-mul-add ((k * 2 ^ 24 + w) * 16 + d) (2 ^ 28) (n * 16 + l) low)
      ∙ mod-mul-add (k * 2 ^ 24 + w) 16 d hd

  warehouse-of : warehouse_in (k * 2 ^ 56 + columns w d n l) ≡ w
  warehouse-of =
      let whole : k * 2 ^ 56 + columns w d n l ≡ (k * 2 ^ 24 + w) * 2 ^ 32 + (d * 2 ^ 28 + n * 16 + l) = omega arith in
      let low : d * 2 ^ 28 + n * 16 + l < 2 ^ 32 = omega arith in
      let high : k * 2 ^ 24 + w ≡ k * 65536 * 256 + w = omega arith in
      ap (λ x. x / 2 ^ 32 % 256) whole
      ∙ ap (λ x. x % 256) (div-mul-add (k * 2 ^ 24 + w) (2 ^ 32) (d * 2 ^ 28 + n * 16 + l) low)
      ∙ ap (λ x. x % 256) high
      ∙ mod-mul-add (k * 65536) 256 w hw

pub kind-of : (k : RowKey) → IsNumbered k → kind_in (rank k) ≡ kind k
kind-of k h = div-mul-add (kind k) (2 ^ 56) (rank_in_kind k) (in_kind-small k h)

-- ---- a number within its limits
within : (low high n m : ℕ) → m ≡ n → IsBetween low high n → between low high m ≡ Some n
within low high n m same h =
    ap (λ x. between low high x) same
    ∙ ap (λ (b : Bool). if b then Some n else None) (and_from _ _ (le-leb low n h.0) (le-leb n high h.1))

by-kind : (k : RowKey) → IsNumbered k → by_kind (kind_in (rank k)) (rank k) ≡ by_kind (kind k) (rank k)
by-kind k h = ap (λ z. by_kind z (rank k)) (kind-of k h)

-- ---- the key of each kind
after : (a : ℕ) (x : Option ℕ) (f : ℕ → Option RowKey) (y : RowKey) → x ≡ Some a → f a ≡ Some y → option_and_then f x ≡ Some y
after a x f y e g = ap (λ o. option_and_then f o) e ∙ g

warehouse-key : (w : ℕ) → IsNumbered (Warehouse w) → warehouse_at (rank (Warehouse w)) ≡ Some (Warehouse w)
unfolding warehouse_at
warehouse-key w h =
    let a = h.1 in
    let hw : w < 256 = omega (arith, a) in
    ap (λ o. option_map (λ w. Warehouse w) o) (within 1 100 w _ (warehouse-of 1 w 0 0 0 hw (omega arith) (omega arith) (omega arith)) h)

small-number : (c : ℕ) → c < 65536 → c % 65536 ≡ c
small-number c h = ap (λ x. x % 65536) (let e : c ≡ 0 * 65536 + c = omega arith in e) ∙ mod-mul-add 0 65536 c h

customer-key : (w d c : ℕ) → IsNumbered (Customer w d c) → customer_at (rank (Customer w d c)) ≡ Some (Customer w d c)
unfolding customer_at
customer-key w d c h =
    let a = h.0.1 in
    let b = h.1.1 in
    let e = h.2.1 in
    let hw : w < 256 = omega (arith, a) in
    let hd : d < 16 = omega (arith, b) in
    let hc : c < 2 ^ 24 = omega (arith, e) in
    let few : c < 65536 = omega (arith, e) in
    after w _ _ _ (within 1 100 w _ (warehouse-of 3 w d c 0 hw hd hc (omega arith)) h.0)
    (after d _ _ _ (within 1 10 d _ (district-of 3 w d c 0 hw hd hc (omega arith)) h.1)
    (ap (λ o. option_map (λ c. Customer w d c) o) (within 1 3000 c _ (ap (λ x. x % 65536) (number-of 3 w d c 0 hw hd hc (omega arith)) ∙ small-number c few) h.2)))

stock-key : (w i : ℕ) → IsNumbered (Stock w i) → stock_at (rank (Stock w i)) ≡ Some (Stock w i)
unfolding stock_at
stock-key w i h =
    let a = h.0.1 in
    let b = h.1.1 in
    let hw : w < 256 = omega (arith, a) in
    let hi : i < 2 ^ 24 = omega (arith, b) in
    after w _ _ _ (within 1 100 w _ (warehouse-of 4 w 0 i 0 hw (omega arith) hi (omega arith)) h.0)
    (ap (λ o. option_map (λ i. Stock w i) o) (within 1 999999 i _ (number-of 4 w 0 i 0 hw (omega arith) hi (omega arith)) h.1))

order-key : (w d o : ℕ) → IsNumbered (Order w d o) → order_at (rank (Order w d o)) ≡ Some (Order w d o)
unfolding order_at
order-key w d o h =
    let a = h.0.1 in
    let b = h.1.1 in
    let e = h.2.1 in
    let hw : w < 256 = omega (arith, a) in
    let hd : d < 16 = omega (arith, b) in
    let ho : o < 2 ^ 24 = omega (arith, e) in
    after w _ _ _ (within 1 100 w _ (warehouse-of 5 w d o 0 hw hd ho (omega arith)) h.0)
    (after d _ _ _ (within 1 10 d _ (district-of 5 w d o 0 hw hd ho (omega arith)) h.1)
    (ap (λ x. option_map (λ o. Order w d o) x) (within 1 9999999 o _ (number-of 5 w d o 0 hw hd ho (omega arith)) h.2)))

new_order-key : (w d o : ℕ) → IsNumbered (NewOrder w d o) → new_order_at (rank (NewOrder w d o)) ≡ Some (NewOrder w d o)
unfolding new_order_at
new_order-key w d o h =
    let a = h.0.1 in
    let b = h.1.1 in
    let e = h.2.1 in
    let hw : w < 256 = omega (arith, a) in
    let hd : d < 16 = omega (arith, b) in
    let ho : o < 2 ^ 24 = omega (arith, e) in
    after w _ _ _ (within 1 100 w _ (warehouse-of 6 w d o 0 hw hd ho (omega arith)) h.0)
    (after d _ _ _ (within 1 10 d _ (district-of 6 w d o 0 hw hd ho (omega arith)) h.1)
    (ap (λ x. option_map (λ o. NewOrder w d o) x) (within 1 9999999 o _ (number-of 6 w d o 0 hw hd ho (omega arith)) h.2)))

line-key : (w d o n : ℕ) → IsNumbered (OrderLine w d o n) → line_at (rank (OrderLine w d o n)) ≡ Some (OrderLine w d o n)
unfolding line_at
line-key w d o n h =
    let a = h.0.1 in
    let b = h.1.1 in
    let e = h.2.1 in
    let f = h.3.1 in
    let hw : w < 256 = omega (arith, a) in
    let hd : d < 16 = omega (arith, b) in
    let ho : o < 2 ^ 24 = omega (arith, e) in
    let hn : n < 16 = omega (arith, f) in
    after w _ _ _ (within 1 100 w _ (warehouse-of 7 w d o n hw hd ho hn) h.0)
    (after d _ _ _ (within 1 10 d _ (district-of 7 w d o n hw hd ho hn) h.1)
    (after o _ _ _ (within 1 9999999 o _ (number-of 7 w d o n hw hd ho hn) h.2)
    (ap (λ x. option_map (λ n. OrderLine w d o n) x) (within 1 15 n _ (line-of 7 w d o n hw hd ho hn) h.3))))

history-key : (n : ℕ) → IsNumbered (History n) → history_at (rank (History n)) ≡ Some (History n)
unfolding history_at
history-key n h =
    ap (λ x. option_map (λ n. History n) x) (within 1 999999999999999 n _ (mod-mul-add 8 (2 ^ 56) n (in_kind-small (History n) h)) h)

district_ytd-key : (w d : ℕ) → IsNumbered (DistrictYtd w d) → district_ytd_at (rank (DistrictYtd w d)) ≡ Some (DistrictYtd w d)
unfolding district_ytd_at
district_ytd-key w d h =
    let a = h.0.1 in
    let b = h.1.1 in
    let hw : w < 256 = omega (arith, a) in
    let hd : d < 16 = omega (arith, b) in
    after w _ _ _ (within 1 100 w _ (warehouse-of 9 w d 0 0 hw hd (omega arith) (omega arith)) h.0)
    (ap (λ o. option_map (λ d. DistrictYtd w d) o) (within 1 10 d _ (district-of 9 w d 0 0 hw hd (omega arith) (omega arith)) h.1))

district_next-key : (w d : ℕ) → IsNumbered (DistrictNext w d) → district_next_at (rank (DistrictNext w d)) ≡ Some (DistrictNext w d)
unfolding district_next_at
district_next-key w d h =
    let a = h.0.1 in
    let b = h.1.1 in
    let hw : w < 256 = omega (arith, a) in
    let hd : d < 16 = omega (arith, b) in
    after w _ _ _ (within 1 100 w _ (warehouse-of 10 w d 0 0 hw hd (omega arith) (omega arith)) h.0)
    (ap (λ o. option_map (λ d. DistrictNext w d) o) (within 1 10 d _ (district-of 10 w d 0 0 hw hd (omega arith) (omega arith)) h.1))

pub key_at-rank : (k : RowKey) → IsNumbered k → key_at (rank k) ≡ Some k
unfolding key_at
key_at-rank (Warehouse w) h = by-kind (Warehouse w) h ∙ warehouse-key w h
key_at-rank (Customer w d c) h = by-kind (Customer w d c) h ∙ customer-key w d c h
key_at-rank (Stock w i) h = by-kind (Stock w i) h ∙ stock-key w i h
key_at-rank (Order w d o) h = by-kind (Order w d o) h ∙ order-key w d o h
key_at-rank (NewOrder w d o) h = by-kind (NewOrder w d o) h ∙ new_order-key w d o h
key_at-rank (OrderLine w d o n) h = by-kind (OrderLine w d o n) h ∙ line-key w d o n h
key_at-rank (History n) h = by-kind (History n) h ∙ history-key n h
key_at-rank (DistrictYtd w d) h = by-kind (DistrictYtd w d) h ∙ district_ytd-key w d h
key_at-rank (DistrictNext w d) h = by-kind (DistrictNext w d) h ∙ district_next-key w d h

pub key_of-rank : (k : RowKey) → IsNumbered k → key_of (rank k) ≡ k
key_of-rank k h = ap (λ o. unwrap_or o (Warehouse 1)) (key_at-rank k h)

-- two keys of one rank are one
pub same_rank : (a b : RowKey) → IsNumbered a → IsNumbered b → rank a ≡ rank b → a ≡ b
same_rank a b h g same = sym (key_of-rank a h) ∙ ap (λ r. key_of r) same ∙ key_of-rank b g
