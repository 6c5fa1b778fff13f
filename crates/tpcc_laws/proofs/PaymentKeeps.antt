-- A payment keeps a database sound.
use Rattle.std.proofs.Common.{◌≡◌, ◌⊎◌, ℕ, ℤ, pos, ◌+ℤ◌, ◌==◌, Bool, true, false, cond, Option, Some, Ok, inl, inr, refl, sym, ap, subst, ◌∙◌, arith}
use Rattle.std.proofs.lemmas.Int.{ints}
use Rattle.std.specs.Option.{option_and_then}
use Rattle.std.specs.Ordering.{eq_by_cmp, nat_cmp}
use Rattle.std.specs.FinMap.{get, insert, get-insert}
use Rattle.requests.specs.declared.request.Payment.{Payment}
use Rattle.tpcc_rows.specs.Limits.{IsBetween}
use Rattle.tpcc_rows.specs.Changing.{after}
use Rattle.tpcc_rows.specs.RowKinds.{as_warehouse}
use Rattle.tpcc_rows.specs.RowMap.{Rows}
use Rattle.tpcc_rows.specs.Rows.{warehouse_row}
use Rattle.tpcc_rows.specs.Totals.{total}
use Rattle.tpcc_rows.specs.declared.key.RowKey.{RowKey}
use Rattle.tpcc_rows.specs.declared.key.RowKey.TheVariants as key
use Rattle.tpcc_rows.specs.declared.row.Row.{Row}
use Rattle.tpcc_rows.specs.declared.row.Row.TheVariants as row
use Rattle.tpcc_rows.specs.declared.row.DistrictNextRow.{DistrictNextRow}
use Rattle.tpcc_rows.proofs.Changes.{after-empty, after-insert}
use Rattle.tpcc_rows.proofs.Keys.{row_key_cmp_total, exact_keys}
use Rattle.tpcc_rows.proofs.Singles.{same_key, apart}
use Rattle.tpcc_rows.proofs.Totals.{no_share, total-insert, total-same}
use Rattle.tpcc_model.specs.Conditions.{Condition1, IsConsistent, district_share, line_share, new_order_share, promised_share}
use Rattle.tpcc_model.specs.Database.{Database}
use Rattle.tpcc_model.specs.Payments.{Paid, payment, payment_changes}
use Rattle.tpcc_model.specs.Soundness.{IsSound}
use Rattle.tpcc_laws.specs.Laws.{IsKeptSound, KeepsHistory}
use Rattle.tpcc_laws.specs.Requests.{IsPayment}
use Rattle.tpcc_laws.proofs.Conditions.{balanced, still_consistent}
use Rattle.tpcc_laws.proofs.Entries.{Each, OrdersKept, There, each-insert, each-moved, there-insert}
use Rattle.tpcc_laws.proofs.PaymentFacts.{IsPaid, found}

and_then-cond : {A B : Type 0} (f : A → Option B) (b : Bool) (x : A) (o : Option A) → option_and_then f (cond b (Some x) o) ≡ cond b (f x) (option_and_then f o)
and_then-cond f true x o = refl
and_then-cond f false x o = refl

module _ (db : Database) (p : Payment) (number : ℕ) (paid : Paid) (sound : IsSound db) (f : IsPaid db p number paid) where
  abbrev rows : Rows
  rows = db.rows

  abbrev wk : RowKey
  wk = key.Warehouse p.warehouse

  abbrev dk : RowKey
  dk = key.DistrictYtd p.warehouse p.district

  abbrev ck : RowKey
  ck = key.Customer p.customer_warehouse p.customer_district paid.customer_id

  abbrev hk : RowKey
  hk = key.History number

  -- the rows after each of the four changes
  abbrev m1 : Rows
  m1 = insert rows wk (row.Warehouse paid.warehouse)

  abbrev m2 : Rows
  m2 = insert m1 dk (row.DistrictYtd paid.district)

  abbrev m3 : Rows
  m3 = insert m2 ck (row.Customer paid.customer)

  abbrev m4 : Rows
  m4 = insert m3 hk (row.History paid.history)

  aside : (m : Rows) (k : RowKey) (x : Row) (q : RowKey) → (q ≡ k → ⊥) → get (insert m k x) q ≡ get m q
  aside m k x q n = apart row_key_cmp_total exact_keys m k x q n

  quiet : (k : RowKey) → (k ≡ hk → ⊥) → (k ≡ ck → ⊥) → (k ≡ dk → ⊥) → (k ≡ wk → ⊥) → get m4 k ≡ get rows k
  quiet k h c d w = aside m3 hk (row.History paid.history) k h ∙ aside m2 ck (row.Customer paid.customer) k c ∙ aside m1 dk (row.DistrictYtd paid.district) k d ∙ aside rows wk (row.Warehouse paid.warehouse) k w

  kept : OrdersKept rows m4
  kept v e x r h = (r, quiet (key.Order v e x) (λ s. cc) (λ s. cc) (λ s. cc) (λ s. cc) ∙ h, refl)

  -- each row is as it should be
  each : Each db.cards m4 m4
  each =
      each-moved db.cards rows m4 m4 kept
      (each-insert db.cards rows m3 hk (row.History paid.history)
      (each-insert db.cards rows m2 ck (row.Customer paid.customer)
      (each-insert db.cards rows m1 dk (row.DistrictYtd paid.district)
      (each-insert db.cards rows rows wk (row.Warehouse paid.warehouse) sound.entries (f.warehouse_card, f.warehouse))
      (f.district_card, f.district))
      (f.customer_card, f.customer)) f.history)

  there : There db.cards m4
  there = there-insert db.cards m3 hk (row.History paid.history) (there-insert db.cards m2 ck (row.Customer paid.customer) (there-insert db.cards m1 dk (row.DistrictYtd paid.district) (there-insert db.cards rows wk (row.Warehouse paid.warehouse) sound.there)))

  -- a sum to which none of the four kinds of rows adds anything
  unmoved : (s : RowKey → Row → ℤ) → ((k : RowKey) → (k ≡ hk) ⊎ (k ≡ ck) ⊎ (k ≡ dk) ⊎ (k ≡ wk) → (x : Row) → s k x ≡ pos 0) → total s m4 ≡ total s rows
  unmoved s none =
      let step : (m : Rows) (k : RowKey) (x : Row) → ((y : Row) → s k y ≡ pos 0) → total s (insert m k x) ≡ total s m = λ m k x z. total-same m k s x (no_share (s k) (get m k) z ∙ sym (z x)) in
      step m3 hk (row.History paid.history) (none hk (inl refl)) ∙ step m2 ck (row.Customer paid.customer) (none ck (inr (inl refl)))
      ∙ step m1 dk (row.DistrictYtd paid.district) (none dk (inr (inr (inl refl)))) ∙ step rows wk (row.Warehouse paid.warehouse) (none wk (inr (inr (inr refl))))

  promised : (v e : ℕ) → total (promised_share v e) m4 ≡ total (promised_share v e) rows
  promised v e = unmoved (promised_share v e) (λ k o x. elim o [ inl i ↦ ap (λ q. promised_share v e q x) i | inr o ↦ elim o [ inl i ↦ ap (λ q. promised_share v e q x) i | inr o ↦ elim o [ inl i ↦ ap (λ q. promised_share v e q x) i | inr i ↦ ap (λ q. promised_share v e q x) i ] ] ])

  lines : (v e : ℕ) → total (line_share v e) m4 ≡ total (line_share v e) rows
  lines v e = unmoved (line_share v e) (λ k o x. elim o [ inl i ↦ ap (λ q. line_share v e q x) i | inr o ↦ elim o [ inl i ↦ ap (λ q. line_share v e q x) i | inr o ↦ elim o [ inl i ↦ ap (λ q. line_share v e q x) i | inr i ↦ ap (λ q. line_share v e q x) i ] ] ])

  new_orders : (v e : ℕ) → total (new_order_share v e) m4 ≡ total (new_order_share v e) rows
  new_orders v e = unmoved (new_order_share v e) (λ k o x. elim o [ inl i ↦ ap (λ q. new_order_share v e q x) i | inr o ↦ elim o [ inl i ↦ ap (λ q. new_order_share v e q x) i | inr o ↦ elim o [ inl i ↦ ap (λ q. new_order_share v e q x) i | inr i ↦ ap (λ q. new_order_share v e q x) i ] ] ])

  consistent_at : (v e next : ℕ) → IsConsistent rows v e next → IsConsistent m4 v e next
  consistent_at v e next = still_consistent rows m4 v e (λ o. quiet (key.Order v e o) (λ s. cc) (λ s. cc) (λ s. cc) (λ s. cc)) (λ o. quiet (key.NewOrder v e o) (λ s. cc) (λ s. cc) (λ s. cc) (λ s. cc)) next (promised v e) (lines v e) (new_orders v e)

  districts : (v e : ℕ) (r : DistrictNextRow) → get m4 (key.DistrictNext v e) ≡ Some (row.DistrictNext r) → IsConsistent m4 v e r.next_order
  districts v e r h = consistent_at v e r.next_order (sound.districts v e r (sym (quiet (key.DistrictNext v e) (λ s. cc) (λ s. cc) (λ s. cc) (λ s. cc)) ∙ h))

  -- ---- condition 1
  new_warehouse : (v : ℕ) → warehouse_row m4 v ≡ cond (eq_by_cmp nat_cmp v p.warehouse) (Some paid.warehouse) (warehouse_row rows v)
  new_warehouse v =
      let o = row_key_cmp_total in
      ap (option_and_then as_warehouse) (get-insert o m3 hk (row.History paid.history) (key.Warehouse v)
      ∙ get-insert o m2 ck (row.Customer paid.customer) (key.Warehouse v)
      ∙ get-insert o m1 dk (row.DistrictYtd paid.district) (key.Warehouse v)
      ∙ get-insert o rows wk (row.Warehouse paid.warehouse) (key.Warehouse v))
      ∙ and_then-cond as_warehouse (eq_by_cmp nat_cmp v p.warehouse) (row.Warehouse paid.warehouse) (get rows (key.Warehouse v))

  new_total : (v : ℕ) → total (district_share v) m4 +ℤ cond (p.warehouse == v) f.old_district.ytd (pos 0) ≡ total (district_share v) rows +ℤ cond (p.warehouse == v) paid.district.ytd (pos 0)
  new_total v =
      let s = district_share v in
      let was : get m1 dk ≡ Some (row.DistrictYtd f.old_district) = aside rows wk (row.Warehouse paid.warehouse) dk (λ e. cc) ∙ f.has_district in
      let e1 : total s m1 ≡ total s rows = total-same rows wk s (row.Warehouse paid.warehouse) (no_share (s wk) _ (λ x. refl)) in
      let e2 : total s m2 +ℤ cond (p.warehouse == v) f.old_district.ytd (pos 0) ≡ total s m1 +ℤ cond (p.warehouse == v) paid.district.ytd (pos 0) = rw was at (total-insert s m1 dk (row.DistrictYtd paid.district)) in
      let e3 : total s m3 ≡ total s m2 = total-same m2 ck s (row.Customer paid.customer) (no_share (s ck) _ (λ x. refl)) in
      let e4 : total s m4 ≡ total s m3 = total-same m3 hk s (row.History paid.history) (no_share (s hk) _ (λ x. refl)) in
      omega (arith, ints, e1, e2, e3, e4)

  ytds : Condition1 m4
  ytds v =
      rw (new_warehouse v) (balanced v p.warehouse (warehouse_row rows v) f.old_warehouse paid.warehouse p.amount (total (district_share v) rows) (total (district_share v) m4) f.old_district.ytd paid.district.ytd
      f.warehouse_ytd f.district_ytd (new_total v) (λ k. ap (λ z. option_and_then as_warehouse (get rows (key.Warehouse z))) k ∙ ap (option_and_then as_warehouse) f.has_warehouse) (sound.condition_1 v))

  kept_all : IsSound (record db { rows = m4 })
  kept_all = record { cards = sound.cards; there = there; entries = each; condition_1 = ytds; districts = districts }

  history : KeepsHistory rows m4 number
  history n = elim (same_key row_key_cmp_total exact_keys (key.History n) hk) [
    | inl s ↦ inl cc
    | inr other ↦ inr (quiet (key.History n) other (λ s. cc) (λ s. cc) (λ s. cc))
  ]

after-payment : (db : Database) (p : Payment) (number : ℕ) (paid : Paid) → after db.rows (payment_changes p number paid)
    ≡ insert (insert (insert (insert db.rows (key.Warehouse p.warehouse) (row.Warehouse paid.warehouse)) (key.DistrictYtd p.warehouse p.district) (row.DistrictYtd paid.district)) (key.Customer p.customer_warehouse p.customer_district paid.customer_id) (row.Customer paid.customer)) (key.History number) (row.History paid.history)
unfolding payment_changes
after-payment db p number paid = simp (after-insert, after-empty)

pub payment_keeps : (db : Database) (p : Payment) (number moment : ℕ) (paid : Paid) → IsSound db → IsPayment p → IsBetween 1 999999999999999 number → IsBetween 0 999999999999 moment → payment db p moment ≡ Ok paid
    → IsKeptSound db (after db.rows (payment_changes p number paid)) number
payment_keeps db p number moment paid sound fits numbered timed h =
    let f = found db p number moment paid sound fits numbered timed h in
    subst (λ (rows : Rows). IsKeptSound db rows number) (sym (after-payment db p number paid)) (record { sound = kept_all db p number paid sound f; history = history db p number paid sound f })
