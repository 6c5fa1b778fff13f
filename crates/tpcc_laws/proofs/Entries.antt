-- How the rows' own part of soundness goes through single changes.
use Rattle.std.proofs.Common.{◌≡◌, ℕ, Some, IsSome, inl, inr, sym, ap, subst, subst₂, ◌∙◌, is_some}
use Rattle.std.specs.FinMap.{get, insert, remove}
use Rattle.catalog.specs.CardMap.{Cards}
use Rattle.tpcc_rows.specs.Limits.{IsBetween}
use Rattle.tpcc_rows.specs.RowMap.{Rows}
use Rattle.tpcc_rows.specs.declared.key.RowKey.{RowKey}
use Rattle.tpcc_rows.specs.declared.key.RowKey.TheVariants as key
use Rattle.tpcc_rows.specs.declared.row.Row.{Row}
use Rattle.tpcc_rows.specs.declared.row.Row.TheVariants as row
use Rattle.tpcc_rows.specs.declared.row.OrderRow.{OrderRow}
use Rattle.tpcc_rows.specs.declared.row.OrderLineRow.{OrderLineRow}
use Rattle.tpcc_rows.proofs.Keys.{row_key_cmp_total, exact_keys}
use Rattle.tpcc_rows.proofs.Singles.{same_key, here, apart, left, entry_of, entry_left}
use Rattle.tpcc_model.specs.Soundness.{HasCard, IsEntry, IsOrderLine}

-- each row of m is as it should be, with its parents in p
abbrev pub Each : Cards → Rows → Rows → Type 0
Each cards p m = (k : RowKey) (x : Row) → get m k ≡ Some x → IsEntry cards p k x

abbrev pub There : Cards → Rows → Type 0
There cards m = (k : RowKey) → HasCard cards k → IsSome (get m k)

-- each order of p is in q, with as many lines
abbrev pub OrdersKept : Rows → Rows → Type 0
OrdersKept p q = (w d o : ℕ) (r : OrderRow) → get p (key.Order w d o) ≡ Some (row.Order r) → (s : OrderRow) × (get q (key.Order w d o) ≡ Some (row.Order s)) × (s.line_count ≡ r.line_count)

module _ (cards : Cards) where
  pub each-insert : (p m : Rows) (k : RowKey) (x : Row) → Each cards p m → IsEntry cards p k x → Each cards p (insert m k x)
  each-insert p m k x h i q y e = elim (entry_of row_key_cmp_total exact_keys m k x q y e) [
    | inl s ↦ subst₂ (IsEntry cards p) (sym s.0) s.1 i
    | inr g ↦ h q y g
  ]

  pub each-remove : (p m : Rows) (k : RowKey) → Each cards p m → Each cards p (remove m k)
  each-remove p m k h q y e = h q y (entry_left row_key_cmp_total exact_keys m k q y e)

  pub there-insert : (m : Rows) (k : RowKey) (x : Row) → There cards m → There cards (insert m k x)
  there-insert m k x h q c = elim (same_key row_key_cmp_total exact_keys q k) [
    | inl s ↦ subst (λ z. IsSome (get (insert m k x) z)) (sym s) (ap is_some (here row_key_cmp_total exact_keys m k x))
    | inr n ↦ ap is_some (apart row_key_cmp_total exact_keys m k x q n) ∙ h q c
  ]

  pub there-remove : (m : Rows) (k : RowKey) → (HasCard cards k → ⊥) → There cards m → There cards (remove m k)
  there-remove m k none h q c = elim (same_key row_key_cmp_total exact_keys q k) [
    | inl s ↦ absurd (none (subst (HasCard cards) s c))
    | inr n ↦ ap is_some (left row_key_cmp_total exact_keys m k q n) ∙ h q c
  ]

  moved_line : (p q : Rows) → OrdersKept p q → (w d o n : ℕ) (r : OrderLineRow) → IsOrderLine cards p w d o n r → IsOrderLine cards q w d o n r
  moved_line p q kept w d o n r i =
      let to = kept w d o i.order i.has_order in
      record {
        order = to.0;
        has_order = to.1;
        number = subst (λ z. IsBetween 1 z n) (sym to.2) i.number;
        stock = i.stock;
        delivery = i.delivery;
        quantity = i.quantity;
        amount = i.amount;
        district_info = i.district_info;
      }

  -- the parents in q, where each order is kept
  pub moved : (p q : Rows) → OrdersKept p q → (k : RowKey) (x : Row) → IsEntry cards p k x → IsEntry cards q k x
  moved p q kept (key.Warehouse w) (row.Warehouse r) i = i
  moved p q kept (key.Customer w d c) (row.Customer r) i = i
  moved p q kept (key.Stock w n) (row.Stock r) i = i
  moved p q kept (key.Order w d o) (row.Order r) i = i
  moved p q kept (key.NewOrder w d o) row.NewOrder i = let to = kept w d o i.0 i.1 in (to.0, to.1)
  moved p q kept (key.OrderLine w d o n) (row.OrderLine r) i = moved_line p q kept w d o n r i
  moved p q kept (key.History n) (row.History r) i = i
  moved p q kept (key.DistrictYtd w d) (row.DistrictYtd r) i = i
  moved p q kept (key.DistrictNext w d) (row.DistrictNext r) i = i
  moved p q kept _ _ i = absurd i

  pub each-moved : (p q m : Rows) → OrdersKept p q → Each cards p m → Each cards q m
  each-moved p q m kept h k x e = moved p q kept k x (h k x e)
