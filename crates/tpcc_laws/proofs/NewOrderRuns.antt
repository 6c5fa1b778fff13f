-- New orders without a gap are as many as their numbers span, and the other way round: so the standard's words for
-- conditions 2 to 4 give a book, and a book gives them.
use Rattle.std.proofs.Common.{◌≡◌, ◌⊎◌, ◌↔◌, ◌≤◌, ◌<◌, ◌+◌, ◌-◌, ℕ, zero, suc, pos, ◌+ℤ◌, ◌≤ℤ◌, cond, ◌&&◌, ◌==◌, true, Option, Some, None, inl, inr, refl, sym, ap, subst, ◌∙◌, arith}
use Rattle.std.proofs.lemmas.Int.{ints}
use Rattle.std.proofs.lemmas.Bool.{cases_eq, cases_lt, cases_Bool}
use Rattle.std.proofs.lemmas.Bool.Decides.{nat_tests}
use Rattle.std.specs.FinMap.{get, remove}
use Rattle.tpcc_rows.specs.declared.key.RowKey.{RowKey}
use Rattle.tpcc_rows.specs.declared.key.RowKey.TheVariants as key
use Rattle.tpcc_rows.specs.declared.row.Row.{Row}
use Rattle.tpcc_rows.specs.declared.row.Row.TheVariants as row
use Rattle.tpcc_rows.specs.RowMap.{Rows}
use Rattle.tpcc_rows.specs.Totals.{total, share_at}
use Rattle.tpcc_rows.proofs.Keys.{row_key_cmp_total, exact_keys}
use Rattle.tpcc_rows.proofs.Singles.{gone, left}
use Rattle.tpcc_rows.proofs.Totals.{total-remove, total-zero}
use Rattle.tpcc_model.specs.Conditions.{HasNewOrder, HasOrder, IsConsistent, new_order_share}
use Rattle.tpcc_laws.proofs.Books.{IsBook}

new_or_not : (o : Option Row) → (o ≡ Some row.NewOrder) ⊎ (o ≡ Some row.NewOrder → ⊥)
new_or_not None = inr (λ e. cc)
new_or_not (Some row.NewOrder) = inl refl
new_or_not (Some _) = inr (λ e. cc)

module _ (w d : ℕ) where
  -- the share of a new order, where there is none of the district
  none_shared : (m : Rows) → ((o : ℕ) → HasNewOrder m w d o → ⊥) → (k : RowKey) (x : Row) → get m k ≡ Some x → new_order_share w d k x ≡ pos 0
  none_shared m none (key.NewOrder v e o) row.NewOrder h = elim (cases_Bool (v == w && e == d)) [
    | inl t ↦
        let a : v ≡ w = grind (arith, nat_tests) in
        let b : e ≡ d = grind (arith, nat_tests) in
        absurd (none o (let s : key.NewOrder v e o ≡ key.NewOrder w d o = cc in ap (get m) (sym s) ∙ h))
    | inr f ↦ ap (λ b. cond b (pos 1) (pos 0)) f
  ]
  none_shared m none _ _ h = refl

  none-total : (m : Rows) → ((o : ℕ) → HasNewOrder m w d o → ⊥) → total (new_order_share w d) m ≡ pos 0
  none-total m none = total-zero (new_order_share w d) m (none_shared m none)

  left_new : (m : Rows) (o x : ℕ) → (x ≡ o → ⊥) → get (remove m (key.NewOrder w d o)) (key.NewOrder w d x) ≡ get m (key.NewOrder w d x)
  left_new m o x n = left row_key_cmp_total exact_keys m (key.NewOrder w d o) (key.NewOrder w d x) (λ e. n cc)

  gone_new : (m : Rows) (o x : ℕ) → HasNewOrder (remove m (key.NewOrder w d o)) w d x → x ≡ o → ⊥
  gone_new m o x h e = (let no : None ≡ Some row.NewOrder = sym (gone row_key_cmp_total exact_keys m (key.NewOrder w d o)) ∙ ap (λ z. get (remove m (key.NewOrder w d o)) (key.NewOrder w d z)) (sym e) ∙ h in cc)

  -- one less
  less_one : (m : Rows) (o : ℕ) → HasNewOrder m w d o → total (new_order_share w d) (remove m (key.NewOrder w d o)) +ℤ pos 1 ≡ total (new_order_share w d) m
  less_one m o h =
      let t : (w == w && d == d) ≡ true = grind (arith, nat_tests) in
      ap (λ z. total (new_order_share w d) (remove m (key.NewOrder w d o)) +ℤ z) (sym (ap (share_at (new_order_share w d (key.NewOrder w d o))) h ∙ ap (λ b. cond b (pos 1) (pos 0)) t))
      ∙ total-remove (new_order_share w d) m (key.NewOrder w d o)

  -- new orders from a on, n of them: at most n, and where they are n none is missing
  spanned : (n a : ℕ) (m : Rows) → ((x : ℕ) → HasNewOrder m w d x → (a ≤ x) × (x < a + n)) → (total (new_order_share w d) m ≤ℤ pos n) × (total (new_order_share w d) m ≡ pos n → (x : ℕ) → a ≤ x → x < a + n → HasNewOrder m w d x)
  spanned zero a m within =
      let none = none-total m (λ o h. (let r = within o h in let r0 : a ≤ o = r.0 in let r1 : o < a + 0 = r.1 in omega arith)) in
      (omega (arith, ints, none), λ e x l h. absurd (omega arith))
  spanned (suc n) a m within = elim (new_or_not (get m (key.NewOrder w d (a + n)))) [
    | inl h ↦
        let k = key.NewOrder w d (a + n) in
        let one = less_one m (a + n) h in
        let rest = spanned n a (remove m k) (λ x i.
        let ne : x ≡ a + n → ⊥ = gone_new m (a + n) x i in
        let r = within x (sym (left_new m (a + n) x ne) ∙ i) in
        let r0 : a ≤ x = r.0 in
        let r1 : x < a + suc n = r.1 in
        (r0, omega arith)) in
        let most = rest.0 in (
          omega (arith, ints, one, most),
          λ e x l i. elim (cases_eq x (a + n)) [
            | inl s ↦ ap (λ z. get m (key.NewOrder w d z)) s ∙ h
            | inr ne ↦ (let t : total (new_order_share w d) (remove m k) ≡ pos n = omega (arith, ints, one, e) in sym (left_new m (a + n) x ne) ∙ rest.1 t x l (omega arith))
          ],
        )
    | inr unlike ↦
        let rest = spanned n a m (λ x i.
        let ne : x ≡ a + n → ⊥ = λ e. unlike (ap (λ z. get m (key.NewOrder w d z)) (sym e) ∙ i) in
        let r = within x i in
        let r0 : a ≤ x = r.0 in
        let r1 : x < a + suc n = r.1 in
        (r0, omega arith)) in
        let most = rest.0 in
        (omega (arith, ints, most), λ e. absurd (omega (arith, ints, most, e)))
  ]

  -- new orders from a on without a gap are as many as their numbers
  filled : (n a : ℕ) (m : Rows) → ((x : ℕ) → HasNewOrder m w d x ↔ ((a ≤ x) × (x < a + n))) → total (new_order_share w d) m ≡ pos n
  filled zero a m is = none-total m (λ o h. (let r = (is o).0 h in let r0 : a ≤ o = r.0 in let r1 : o < a + 0 = r.1 in omega arith))
  filled (suc n) a m is =
      let k = key.NewOrder w d (a + n) in
      let h = (is (a + n)).1 (omega arith, omega arith) in
      let one = less_one m (a + n) h in
      let rest = filled n a (remove m k) (λ x. (
        λ i. (
            let ne : x ≡ a + n → ⊥ = gone_new m (a + n) x i in
            let r = (is x).0 (sym (left_new m (a + n) x ne) ∙ i) in
            let r0 : a ≤ x = r.0 in
            let r1 : x < a + suc n = r.1 in
            (r0, omega arith)),
        λ r. (
            let r0 : a ≤ x = r.0 in
            let r1 : x < a + n = r.1 in
            let ne : x ≡ a + n → ⊥ = λ e. omega arith in
            left_new m (a + n) x ne ∙ (is x).1 (r0, omega arith)),
      )) in
      omega (arith, ints, one, rest)

  -- among the numbers below n there is no new order, or a least one
  least_below : (n : ℕ) (m : Rows) → ((x : ℕ) → HasNewOrder m w d x → x < n → ⊥) ⊎ ((l : ℕ) × HasNewOrder m w d l × ((x : ℕ) → HasNewOrder m w d x → l ≤ x))
  least_below zero m = inl (λ x h below. omega arith)
  least_below (suc n) m = elim (least_below n m) [
    | inr found ↦ inr found
    | inl none ↦ elim (new_or_not (get m (key.NewOrder w d n))) [
      | inl h ↦ inr (n, h, λ x i. elim (cases_lt x n) [ inl below ↦ absurd (none x i below) | inr from ↦ from ])
      | inr unlike ↦ inl (λ x h below. elim (cases_eq x n) [ inl e ↦ unlike (ap (λ z. get m (key.NewOrder w d z)) (sym e) ∙ h) | inr ne ↦ none x h (omega arith) ])
    ]
  ]

  -- the standard's words give a book
  pub book_of : (m : Rows) (next : ℕ) → 1 ≤ next → IsConsistent m w d next → IsBook m w d next
  book_of m next low c =
      let below : (o : ℕ) → HasOrder m w d o → o < next = λ o h. (let k = c.last_order.above o h in omega arith) in
      let last : (o : ℕ) → o + 1 ≡ next → (o ≡ 0) ⊎ HasOrder m w d o = λ o s. (let i : next - 1 ≡ o = omega arith in subst (λ z. (z ≡ 0) ⊎ HasOrder m w d z) i c.last_order.there) in
      elim (least_below next m) [
        | inl none ↦ record {
          orders_below = below;
          last_order = last;
          first = next;
          first_below = omega arith;
          new_orders = λ o. (
            λ h. absurd (none o h (let k = (c.last_new_order o h).above o h in omega arith)),
            λ r. (let r0 : next ≤ o = r.0 in let r1 : o < next = r.1 in absurd (omega arith)),
          );
          lines = c.lines;
        }
        | inr found ↦
            let l : ℕ = found.0 in
            let there : HasNewOrder m w d l = found.1 in
            let least : (x : ℕ) → HasNewOrder m w d x → l ≤ x = found.2 in
            let top = c.last_new_order l there in
            let span : l ≤ next - 1 = top.above l there in
            let count = c.new_orders l (next - 1) (record { there = there; below = least }) top in
            let full = spanned (next - l) l m (λ x h. (let a : l ≤ x = least x h in let b : x ≤ next - 1 = top.above x h in (a, omega arith))) in
            let n : next - 1 - l + 1 ≡ next - l = omega arith in
            let exact : total (new_order_share w d) m ≡ pos (next - l) = sym count ∙ ap pos n in
            record {
              orders_below = below;
              last_order = last;
              first = l;
              first_below = omega arith;
              new_orders = λ o. (
                λ h. (let a : l ≤ o = least o h in let b : o ≤ next - 1 = top.above o h in (a, omega arith)),
                λ r. (let r0 : l ≤ o = r.0 in let r1 : o < next = r.1 in full.1 exact o r0 (omega arith)),
              );
              lines = c.lines;
            }
      ]

  -- and a book gives the standard's words
  pub consistent_of : (m : Rows) (next : ℕ) → 1 ≤ next → IsBook m w d next → IsConsistent m w d next
  consistent_of m next low b = record {
    last_order = record { there = b.last_order (next - 1) (omega arith); above = λ x h. (let k = b.orders_below x h in omega arith) };
    last_new_order = λ o h. (let r = (b.new_orders o).0 h in let r0 : b.first ≤ o = r.0 in let r1 : o < next = r.1 in record {
      there = (b.new_orders (next - 1)).1 (omega arith, omega arith);
      above = λ x i. (let q = (b.new_orders x).0 i in let q1 : x < next = q.1 in omega arith);
    });
    new_orders = λ l g least top. (
        let first = b.first in
        let rl = (b.new_orders l).0 least.there in
        let l0 : first ≤ l = rl.0 in
        let l1 : l < next = rl.1 in
        let l2 : l ≤ first = least.below first ((b.new_orders first).1 (omega arith, omega arith)) in
        let rg = (b.new_orders g).0 top.there in
        let g1 : g < next = rg.1 in
        let g2 : next - 1 ≤ g = top.above (next - 1) ((b.new_orders (next - 1)).1 (omega arith, omega arith)) in
        let n : g - l + 1 ≡ next - first = omega arith in
        ap pos n ∙ sym (filled (next - first) first m (λ x. (
          λ h. (let q = (b.new_orders x).0 h in let q0 : first ≤ x = q.0 in let q1 : x < next = q.1 in (q0, omega arith)),
          λ r. (let r0 : first ≤ x = r.0 in let r1 : x < first + (next - first) = r.1 in (b.new_orders x).1 (r0, omega arith)),
        ))));
    lines = b.lines;
  }
