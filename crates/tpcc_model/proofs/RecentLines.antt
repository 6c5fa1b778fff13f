-- The low items of a stock level are those of the lines of the last twenty orders.
use Rattle.std.proofs.Common.{◌≡◌, ◌⊎◌, ◌≤◌, ◌<◌, ◌+◌, ◌-◌, ℕ, zero, suc, nat_eq, Bool, true, false, cond, ◌||◌, List, ◌∷◌, Option, Some, None, inl, inr, refl, sym, ap, subst, ◌∙◌, arith}
use Rattle.std.proofs.lemmas.Bool.{cases_Bool, cases_eq}
use Rattle.std.proofs.lemmas.Bool.Decides.{nat_tests}
use Rattle.std.specs.Option.{option_and_then}
use Rattle.std.specs.FinMap.{get}
use Rattle.std.specs.Set.{is_member}
use Rattle.requests.specs.declared.request.StockLevel.{StockLevel}
use Rattle.tpcc_rows.specs.RowKinds.{as_order_line}
use Rattle.tpcc_rows.specs.Rows.{order_line_row}
use Rattle.tpcc_rows.specs.declared.key.RowKey.TheVariants as key
use Rattle.tpcc_rows.specs.declared.row.Row.{Row}
use Rattle.tpcc_rows.specs.declared.row.Row.TheVariants as row
use Rattle.tpcc_rows.specs.declared.row.OrderLineRow.{OrderLineRow}
use Rattle.tpcc_rows.proofs.RowKindFacts.{order-line-there}
use Rattle.tpcc_model.specs.Database.{Database}
use Rattle.tpcc_model.specs.Laws.{LowItemsAreRecent}
use Rattle.tpcc_model.specs.Soundness.{IsEntry, IsSound}
use Rattle.tpcc_model.specs.StockLevels.{first_recent, is_low, low_items, with_line, with_lines}

or-first : (a b : Bool) → (a || b) ≡ true → (a ≡ true) ⊎ (b ≡ true)
or-first true b h = inl refl
or-first false b h = inr h

or-later : (a b : Bool) → b ≡ true → (a || b) ≡ true
or-later true b h = refl
or-later false b h = h

or-here : (a b : Bool) → a ≡ true → (a || b) ≡ true
or-here a b h = ap (λ x. x || b) h

module _ (db : Database) (p : StockLevel) where
  abbrev HasLine : ℕ → ℕ → ℕ → Type 0
  HasLine o n item = (line : OrderLineRow) × (order_line_row db.rows p.warehouse p.district o n ≡ Some line) × (line.item ≡ item)

  -- what one line adds
  added_back : (item : ℕ) (line : Option OrderLineRow) (items : List ℕ) → is_member nat_eq (with_line db p line items) item ≡ true
      → (is_member nat_eq items item ≡ true) ⊎ ((l : OrderLineRow) × (line ≡ Some l) × (l.item ≡ item) × (is_low db p item ≡ true))
  added_back item None items h = inl h
  added_back item (Some line) items h = elim (cases_Bool (is_low db p line.item)) [
    | inl low ↦
        let m : is_member nat_eq (line.item ∷ items) item ≡ true = sym (ap (λ b. is_member nat_eq (cond b (line.item ∷ items) items) item) low) ∙ h in
        elim (or-first (nat_eq item line.item) (is_member nat_eq items item) m) [
          | inl same ↦ (let e : item ≡ line.item = grind (arith, nat_tests) in inr (line, refl, sym e, ap (is_low db p) e ∙ low))
          | inr there ↦ inl there
        ]
    | inr high ↦ inl (sym (ap (λ b. is_member nat_eq (cond b (line.item ∷ items) items) item) high) ∙ h)
  ]

  kept : (item : ℕ) (line : Option OrderLineRow) (items : List ℕ) → is_member nat_eq items item ≡ true → is_member nat_eq (with_line db p line items) item ≡ true
  kept item None items h = h
  kept item (Some line) items h = elim (cases_Bool (is_low db p line.item)) [
    | inl low ↦ ap (λ b. is_member nat_eq (cond b (line.item ∷ items) items) item) low ∙ or-later (nat_eq item line.item) (is_member nat_eq items item) h
    | inr high ↦ ap (λ b. is_member nat_eq (cond b (line.item ∷ items) items) item) high ∙ h
  ]

  added : (item : ℕ) (line : OrderLineRow) (items : List ℕ) → line.item ≡ item → is_low db p item ≡ true → is_member nat_eq (with_line db p (Some line) items) item ≡ true
  added item line items e low =
      let same : nat_eq item line.item ≡ true = grind (arith, nat_tests) in
      ap (λ b. is_member nat_eq (cond b (line.item ∷ items) items) item) (ap (is_low db p) e ∙ low) ∙ or-here (nat_eq item line.item) (is_member nat_eq items item) same

  -- what the lines 1 to n of an order add
  lines_back : (o n item : ℕ) (items : List ℕ) → is_member nat_eq (with_lines db p o n items) item ≡ true → (is_member nat_eq items item ≡ true) ⊎ ((k : ℕ) × HasLine o k item × (is_low db p item ≡ true))
  unfolding with_lines
  lines_back o zero item items h = inl h
  lines_back o (suc n) item items h = elim (added_back item (order_line_row db.rows p.warehouse p.district o (suc n)) (with_lines db p o n items) h) [
    | inl earlier ↦ lines_back o n item items earlier
    | inr found ↦ inr (suc n, (found.0, found.1, found.2), found.3)
  ]

  lines_kept : (o n item : ℕ) (items : List ℕ) → is_member nat_eq items item ≡ true → is_member nat_eq (with_lines db p o n items) item ≡ true
  unfolding with_lines
  lines_kept o zero item items h = h
  lines_kept o (suc n) item items h = kept item (order_line_row db.rows p.warehouse p.district o (suc n)) (with_lines db p o n items) (lines_kept o n item items h)

  lines_added : (o n k item : ℕ) (items : List ℕ) → 1 ≤ k → k ≤ n → HasLine o k item → is_low db p item ≡ true → is_member nat_eq (with_lines db p o n items) item ≡ true
  unfolding with_lines
  lines_added o zero k item items from to has low = absurd (omega arith)
  lines_added o (suc n) k item items from to has low = elim (cases_eq k (suc n)) [
    | inl e ↦
        let line : order_line_row db.rows p.warehouse p.district o (suc n) ≡ Some has.0 = ap (order_line_row db.rows p.warehouse p.district o) (sym e) ∙ has.1 in
        ap (λ l. is_member nat_eq (with_line db p l (with_lines db p o n items)) item) line ∙ added item has.0 (with_lines db p o n items) has.2 low
    | inr ne ↦ kept item (order_line_row db.rows p.warehouse p.district o (suc n)) (with_lines db p o n items) (lines_added o n k item items from (omega arith) has low)
  ]

  -- what the orders from `first` on have, n of them
  orders_back : (first n item : ℕ) → is_member nat_eq (low_items db p first n) item ≡ true → (o k : ℕ) × HasLine o k item × (is_low db p item ≡ true) × (first ≤ o) × (o < first + n)
  unfolding low_items
  orders_back first zero item h = cc
  orders_back first (suc n) item h = elim (lines_back (first + n) 15 item (low_items db p first n) h) [
    | inl earlier ↦
        let r = orders_back first n item earlier in
        let from : first ≤ r.0 = r.4 in
        let below : r.0 < first + n = r.5 in
        (r.0, r.1, r.2, r.3, from, omega arith)
    | inr found ↦ (first + n, found.0, found.1, found.2, omega arith, omega arith)
  ]

  orders_added : (first n o k item : ℕ) → first ≤ o → o < first + n → 1 ≤ k → k ≤ 15 → HasLine o k item → is_low db p item ≡ true → is_member nat_eq (low_items db p first n) item ≡ true
  unfolding low_items
  orders_added first zero o k item from below low_line high_line has low = absurd (omega arith)
  orders_added first (suc n) o k item from below low_line high_line has low = elim (cases_eq o (first + n)) [
    | inl e ↦ lines_added (first + n) 15 k item (low_items db p first n) low_line high_line (subst (λ z. HasLine z k item) e has) low
    | inr ne ↦ lines_kept (first + n) 15 item (low_items db p first n) (orders_added first n o k item from (omega arith) low_line high_line has low)
  ]

  -- the keys of a sound database's lines are within the limits
  line_within : IsSound db → (o n : ℕ) (x : Row) → get db.rows (key.OrderLine p.warehouse p.district o n) ≡ Some x → (1 ≤ o) × (1 ≤ n) × (n ≤ 15)
  line_within sound o n x h = at x (sound.entries (key.OrderLine p.warehouse p.district o n) x h)
    where
      at : (y : Row) → IsEntry db.cards db.rows (key.OrderLine p.warehouse p.district o n) y → (1 ≤ o) × (1 ≤ n) × (n ≤ 15)
      at (row.OrderLine r) i =
          let order = sound.entries (key.Order p.warehouse p.district o) (row.Order i.order) i.has_order in
          let number = i.number in
          let most : i.order.line_count ≤ 15 = order.line_count.1 in
          let to : n ≤ i.order.line_count = number.1 in
          (order.number.0, number.0, omega arith)
      at _ i = absurd i

pub low_items_are_recent : LowItemsAreRecent
low_items_are_recent db p next item sound = (
  λ h. (
      let r = orders_back db p (first_recent next) (next - first_recent next) item h in
      let line = r.2 in
      let from : first_recent next ≤ r.0 = r.4 in
      let below : r.0 < first_recent next + (next - first_recent next) = r.5 in
      ((r.0, r.1, line.0, order-line-there _ line.0 line.1, omega arith, omega arith, line.2), r.3)),
  λ h. (
      let r = h.0 in
      let within = line_within db p sound r.0 r.1 (row.OrderLine r.2) r.3 in
      let one : 1 ≤ r.0 = within.0 in
      let from : next ≤ r.0 + 20 = r.4 in
      let below : r.0 < next = r.5 in
      orders_added db p (first_recent next) (next - first_recent next) r.0 r.1 item (omega arith) (omega arith) within.1 within.2 (r.2, ap (option_and_then as_order_line) r.3, r.6) h.1),
)
