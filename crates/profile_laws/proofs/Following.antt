-- Rows that follow others: their order lines have the items of before, but for some new ones, and no district's next number
-- has gone down.
use Rattle.std.proofs.Common.{◌≡◌, ◌⊎◌, ◌≤◌, ℕ, Option, Some, None, inl, inr, refl, sym, subst, subst₂, arith}
use Rattle.std.specs.FinMap.{empty, get, insert, remove}
use Rattle.tpcc_rows.specs.Changing.{after}
use Rattle.tpcc_rows.specs.RowMap.{Changes, Rows}
use Rattle.tpcc_rows.specs.declared.key.RowKey.{RowKey}
use Rattle.tpcc_rows.specs.declared.key.RowKey.TheVariants as key
use Rattle.tpcc_rows.specs.declared.row.DistrictNextRow.{DistrictNextRow}
use Rattle.tpcc_rows.specs.declared.row.OrderLineRow.{OrderLineRow}
use Rattle.tpcc_rows.specs.declared.row.Row.{Row}
use Rattle.tpcc_rows.specs.declared.row.Row.TheVariants as row
use Rattle.tpcc_rows.proofs.Changes.{after-empty, after-insert, after-remove}
use Rattle.tpcc_rows.proofs.Keys.{row_key_cmp_total, exact_keys}
use Rattle.tpcc_rows.proofs.Singles.{entry_left, entry_of}

-- the order line at this key has this item
abbrev pub HasItem : Rows → RowKey → ℕ → Type 0
HasItem rows k item = (line : OrderLineRow) × (get rows k ≡ Some (row.OrderLine line)) × (line.item ≡ item)

-- the next number at this key is at most this
abbrev pub HasNext : Rows → RowKey → ℕ → Type 0
HasNext rows k next = (district : DistrictNextRow) × (get rows k ≡ Some (row.DistrictNext district)) × (district.next_order ≤ next)

-- items that are new in a district: warehouse, district, item
abbrev pub Items : Type 1
Items = ℕ → ℕ → ℕ → Type 0

-- the row follows the old rows: an order line has the item that it had, or a new one, and a next number is no lower
abbrev pub Follows : Items → Rows → RowKey → Row → Type 0
Follows New old (key.OrderLine w d o n) (row.OrderLine line) = HasItem old (key.OrderLine w d o n) line.item ⊎ New w d line.item
Follows New old (key.DistrictNext w d) (row.DistrictNext district) = HasNext old (key.DistrictNext w d) district.next_order
Follows New old _ _ = Unit {0}

-- so does each row of these
abbrev pub AllFollow : Items → Rows → Rows → Type 0
AllFollow New old rows = (k : RowKey) (x : Row) → get rows k ≡ Some x → Follows New old k x

module _ (New : Items) where
  pub follow-same : (rows : Rows) → AllFollow New rows rows
  follow-same rows (key.OrderLine w d o n) (row.OrderLine line) h = inl (line, h, refl)
  follow-same rows (key.DistrictNext w d) (row.DistrictNext district) h = (district, h, omega arith)
  follow-same rows _ _ h = tt

  follows-then : (old rows : Rows) → AllFollow New old rows → (k : RowKey) (x : Row) → Follows New rows k x → Follows New old k x
  follows-then old rows all (key.OrderLine w d o n) (row.OrderLine line) (inl h) =
      subst (λ item. HasItem old (key.OrderLine w d o n) item ⊎ New w d item) h.2 (all (key.OrderLine w d o n) (row.OrderLine h.0) h.1)
  follows-then old rows all (key.OrderLine w d o n) (row.OrderLine line) (inr h) = inr h
  follows-then old rows all (key.DistrictNext w d) (row.DistrictNext district) h =
      let before = all (key.DistrictNext w d) (row.DistrictNext h.0) h.1 in
      let low : before.0.next_order ≤ h.0.next_order = before.2 in
      let high : h.0.next_order ≤ district.next_order = h.2 in
      (before.0, before.1, omega (arith, low, high))
  follows-then old rows all _ _ h = tt

  -- rows that follow rows that follow others
  pub follow-then : (old rows new : Rows) → AllFollow New old rows → AllFollow New rows new → AllFollow New old new
  follow-then old rows new before all k x h = follows-then old rows before k x (all k x h)

  -- ---- single changes
  follow-insert : (old rows : Rows) (k : RowKey) (x : Row) → AllFollow New old rows → Follows New old k x → AllFollow New old (insert rows k x)
  follow-insert old rows k x all one q y h = elim (entry_of row_key_cmp_total exact_keys rows k x q y h) [
    | inl same ↦ subst₂ (Follows New old) (sym same.0) same.1 one
    | inr other ↦ all q y other
  ]

  follow-remove : (old rows : Rows) (k : RowKey) → AllFollow New old rows → AllFollow New old (remove rows k)
  follow-remove old rows k all q y h = all q y (entry_left row_key_cmp_total exact_keys rows k q y h)

  module _ (rows : Rows) where
    -- the rows after changes follow those before
    abbrev pub ChangesFollow : Changes → Type 0
    ChangesFollow changes = AllFollow New rows (after rows changes)

    pub follow-none : ChangesFollow empty
    follow-none = subst (AllFollow New rows) (sym (after-empty rows)) (follow-same rows)

    pub follow-put : (changes : Changes) (k : RowKey) (x : Row) → ChangesFollow changes → Follows New rows k x → ChangesFollow (insert changes k (Some x))
    follow-put changes k x all one = subst (AllFollow New rows) (sym (after-insert rows changes k x)) (follow-insert rows (after rows changes) k x all one)

    pub follow-delete : (changes : Changes) (k : RowKey) → ChangesFollow changes → ChangesFollow (insert changes k None)
    follow-delete changes k all = subst (AllFollow New rows) (sym (after-remove rows changes k)) (follow-remove rows (after rows changes) k all)

-- where more is new
module _ (New More : Items) (weaker : (w d item : ℕ) → New w d item → More w d item) where
  follows-more : (old : Rows) (k : RowKey) (x : Row) → Follows New old k x → Follows More old k x
  follows-more old (key.OrderLine w d o n) (row.OrderLine line) (inl h) = inl h
  follows-more old (key.OrderLine w d o n) (row.OrderLine line) (inr h) = inr (weaker w d line.item h)
  follows-more old (key.DistrictNext w d) (row.DistrictNext district) h = h
  follows-more old _ _ h = tt

  pub follow-more : (old rows : Rows) → AllFollow New old rows → AllFollow More old rows
  follow-more old rows all k x h = follows-more old k x (all k x h)
