-- How the consistency conditions go through changes elsewhere.
use Rattle.std.proofs.Common.{◌≡◌, ℕ, ℤ, pos, ◌+ℤ◌, ◌==◌, true, false, cond, Option, Some, IfSome, inl, inr, sym, subst, ◌∙◌, arith}
use Rattle.std.proofs.lemmas.Int.{ints}
use Rattle.std.proofs.lemmas.Bool.{cases_eq}
use Rattle.std.proofs.lemmas.Bool.Decides.{nat_tests}
use Rattle.std.specs.Ordering.{eq_by_cmp, nat_cmp}
use Rattle.std.specs.FinMap.{get}
use Rattle.tpcc_rows.specs.RowMap.{Rows}
use Rattle.tpcc_rows.specs.Totals.{total}
use Rattle.tpcc_rows.specs.declared.key.RowKey.TheVariants as key
use Rattle.tpcc_rows.specs.declared.row.WarehouseRow.{WarehouseRow}
use Rattle.tpcc_model.specs.Conditions.{HasNewOrder, HasOrder, IsConsistent, line_share, new_order_share, promised_share}

-- a district whose orders and new orders stay, and whose sums stay
module _ (m n : Rows) (w d : ℕ) (orders : (o : ℕ) → get n (key.Order w d o) ≡ get m (key.Order w d o)) (news : (o : ℕ) → get n (key.NewOrder w d o) ≡ get m (key.NewOrder w d o)) where
  order-back : (o : ℕ) → HasOrder n w d o → HasOrder m w d o
  order-back o h = (h.0, sym (orders o) ∙ h.1)

  order-on : (o : ℕ) → HasOrder m w d o → HasOrder n w d o
  order-on o h = (h.0, orders o ∙ h.1)

  new-back : (o : ℕ) → HasNewOrder n w d o → HasNewOrder m w d o
  new-back o h = sym (news o) ∙ h

  new-on : (o : ℕ) → HasNewOrder m w d o → HasNewOrder n w d o
  new-on o h = news o ∙ h

  pub still_consistent : (next : ℕ) → total (promised_share w d) n ≡ total (promised_share w d) m → total (line_share w d) n ≡ total (line_share w d) m → total (new_order_share w d) n ≡ total (new_order_share w d) m
      → IsConsistent m w d next → IsConsistent n w d next
  still_consistent next promised lines count c = record {
    last_order = record {
      there = elim c.last_order.there [ inl z ↦ inl z | inr h ↦ inr (order-on _ h) ];
      above = λ x h. c.last_order.above x (order-back x h);
    };
    last_new_order = λ o h. (let g = c.last_new_order o (new-back o h) in record { there = new-on _ g.there; above = λ x i. g.above x (new-back x i) });
    new_orders = λ low high l g.
        c.new_orders low high (record { there = new-back low l.there; below = λ x i. l.below x (new-on x i) }) (record { there = new-back high g.there; above = λ x i. g.above x (new-on x i) })
        ∙ sym count;
    lines = promised ∙ c.lines ∙ sym lines;
  }

-- one warehouse's two sides, before and after a payment of this amount
pub balanced : (v w : ℕ) (o : Option WarehouseRow) (old new : WarehouseRow) (amount : ℕ) (t t' d d' : ℤ) → new.ytd ≡ old.ytd +ℤ pos amount → d' ≡ d +ℤ pos amount
    → t' +ℤ cond (w == v) d (pos 0) ≡ t +ℤ cond (w == v) d' (pos 0) → (v ≡ w → o ≡ Some old) → IfSome o (λ x. x.ytd ≡ t) → IfSome (cond (eq_by_cmp nat_cmp v w) (Some new) o) (λ x. x.ytd ≡ t')
balanced v w o old new amount t t' d d' n e h same is =
    elim (cases_eq v w) [
      | inl k ↦
          let was : old.ytd ≡ t = subst (λ x. IfSome x (λ y. y.ytd ≡ t)) (same k) is in
          let tested : eq_by_cmp nat_cmp v w ≡ true = grind (arith, nat_tests) in
          let both : (w == v) ≡ true = grind (arith, nat_tests) in
          let sums : t' +ℤ d ≡ t +ℤ d' = rw both at h in
          subst (λ b. IfSome (cond b (Some new) o) (λ x. x.ytd ≡ t')) (sym tested) (let it : new.ytd ≡ t' = omega (arith, ints, was, sums, n, e) in it)
      | inr apart ↦
          let tested : eq_by_cmp nat_cmp v w ≡ false = grind (arith, nat_tests) in
          let neither : (w == v) ≡ false = grind (arith, nat_tests) in
          let sums : t' +ℤ pos 0 ≡ t +ℤ pos 0 = rw neither at h in
          let equal : t ≡ t' = omega (arith, ints, sums) in
          subst (λ b. IfSome (cond b (Some new) o) (λ x. x.ytd ≡ t')) (sym tested) (subst (λ z. IfSome o (λ x. x.ytd ≡ z)) equal is)
    ]
