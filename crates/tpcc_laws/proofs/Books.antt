-- The order book of a district: what conditions 2 to 4 come to, in the form in which a step keeps them.
use Rattle.std.proofs.Common.{◌≡◌, ◌⊎◌, ◌↔◌, ◌≤◌, ◌<◌, ◌+◌, ℕ, pos, ◌+ℤ◌, Option, Some, None, inl, inr, refl, sym, ap, subst, ◌∙◌, arith}
use Rattle.std.proofs.lemmas.Int.{ints}
use Rattle.std.proofs.lemmas.Bool.{cases_eq}
use Rattle.std.specs.FinMap.{get}
use Rattle.tpcc_rows.specs.declared.key.RowKey.TheVariants as key
use Rattle.tpcc_rows.specs.declared.row.Row.TheVariants as row
use Rattle.tpcc_rows.specs.declared.row.OrderRow.{OrderRow}
use Rattle.tpcc_rows.specs.RowMap.{Rows}
use Rattle.tpcc_rows.specs.Totals.{total}
use Rattle.tpcc_model.specs.Conditions.{HasNewOrder, HasOrder, IsLeast, line_share, promised_share}

-- a book whose next order has this number: each order is below it and the last one is just below it, the new orders
-- are those from some first one on, and there are as many lines as the orders promise
pub record IsBook (rows : Rows) (w d next : ℕ) : Type 0 where
  pub orders_below : (o : ℕ) → HasOrder rows w d o → o < next
  pub last_order : (o : ℕ) → o + 1 ≡ next → (o ≡ 0) ⊎ HasOrder rows w d o
  pub first : ℕ
  pub first_below : first ≤ next
  pub new_orders : (o : ℕ) → HasNewOrder rows w d o ↔ ((first ≤ o) × (o < next))
  pub lines : total (promised_share w d) rows ≡ total (line_share w d) rows

pub none_by : {A : Type 0} (o : Option A) → ((x : A) → o ≡ Some x → ⊥) → o ≡ None
none_by None h = refl
none_by (Some x) h = absurd (h x refl)

-- a book with one more order, its new order and its lines
pub longer_book : (m n : Rows) (w d next count : ℕ) (r : OrderRow) → get n (key.Order w d next) ≡ Some (row.Order r) → HasNewOrder n w d next
    → ((o : ℕ) → (o ≡ next → ⊥) → get n (key.Order w d o) ≡ get m (key.Order w d o)) → ((o : ℕ) → (o ≡ next → ⊥) → get n (key.NewOrder w d o) ≡ get m (key.NewOrder w d o))
    → total (promised_share w d) n ≡ total (promised_share w d) m +ℤ pos count → total (line_share w d) n ≡ total (line_share w d) m +ℤ pos count → IsBook m w d next → IsBook n w d (next + 1)
longer_book m n w d next count r order new orders news promised lines b = record {
  orders_below = λ o h. elim (cases_eq o next) [
    | inl e ↦ omega arith
    | inr a ↦ (let k : o < next = b.orders_below o (h.0, sym (orders o a) ∙ h.1) in omega arith)
  ];
  last_order = λ o e. (let s : next ≡ o = omega arith in inr (r, subst (λ z. get n (key.Order w d z) ≡ Some (row.Order r)) s order));
  first = b.first;
  first_below = (let k = b.first_below in omega arith);
  new_orders = λ o. (
    λ h. elim (cases_eq o next) [
      | inl e ↦ (let k = b.first_below in (omega arith, omega arith))
      | inr a ↦ (let k = (b.new_orders o).0 (sym (news o a) ∙ h) in let k0 : b.first ≤ o = k.0 in let k1 : o < next = k.1 in (k0, omega arith))
    ],
    λ h. elim (cases_eq o next) [
      | inl e ↦ subst (HasNewOrder n w d) (sym e) new
      | inr a ↦ (let h0 : b.first ≤ o = h.0 in let h1 : o < next + 1 = h.1 in let k : o < next = omega arith in news o a ∙ (b.new_orders o).1 (h0, k))
    ],
  );
  lines = (let k = b.lines in omega (arith, ints, promised, lines, k));
}

-- a book without its oldest new order, whose order is another row
pub shorter_book : (m n : Rows) (w d next first : ℕ) (s : OrderRow) → IsLeast (HasNewOrder m w d) first → get n (key.NewOrder w d first) ≡ None → get n (key.Order w d first) ≡ Some (row.Order s)
    → ((o : ℕ) → (o ≡ first → ⊥) → get n (key.Order w d o) ≡ get m (key.Order w d o)) → ((o : ℕ) → (o ≡ first → ⊥) → get n (key.NewOrder w d o) ≡ get m (key.NewOrder w d o))
    → total (promised_share w d) n ≡ total (promised_share w d) m → total (line_share w d) n ≡ total (line_share w d) m → IsBook m w d next → IsBook n w d next
shorter_book m n w d next first s least gone is orders news promised lines b =
    let range = (b.new_orders first).0 least.there in
    let low : b.first ≤ first = range.0 in
    let below : first < next = range.1 in
    let start : first ≤ b.first = least.below b.first ((b.new_orders b.first).1 (omega arith, omega arith)) in
    record {
      orders_below = λ o h. elim (cases_eq o first) [ inl e ↦ omega arith | inr a ↦ b.orders_below o (h.0, sym (orders o a) ∙ h.1) ];
      last_order = λ o e. elim (cases_eq o first) [
        | inl i ↦ inr (s, subst (λ z. get n (key.Order w d z) ≡ Some (row.Order s)) (sym i) is)
        | inr a ↦ elim (b.last_order o e) [ inl z ↦ inl z | inr h ↦ inr (h.0, orders o a ∙ h.1) ]
      ];
      first = first + 1;
      first_below = omega arith;
      new_orders = λ o. (
        λ h. elim (cases_eq o first) [
          | inl e ↦ (let no : None ≡ Some row.NewOrder = sym gone ∙ ap (λ z. get n (key.NewOrder w d z)) (sym e) ∙ h in cc)
          | inr a ↦ (let k = (b.new_orders o).0 (sym (news o a) ∙ h) in let k0 : b.first ≤ o = k.0 in let k1 : o < next = k.1 in (omega arith, k1))
        ],
        λ h. (let h0 : first + 1 ≤ o = h.0 in let h1 : o < next = h.1 in let ne : o ≡ first → ⊥ = λ e. omega arith in news o ne ∙ (b.new_orders o).1 (omega arith, h1)),
      );
      lines = promised ∙ b.lines ∙ sym lines;
    }
