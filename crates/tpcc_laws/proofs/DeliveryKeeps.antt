-- A delivery keeps a database sound.
use Rattle.std.proofs.Common.{◌≡◌, ◌≤◌, ◌+◌, ℕ, ℤ, pos, false, ◌&&◌, ◌==◌, cond, List, [], ◌∷◌, map, Option, Some, None, Ok, IfSome, inl, inr, refl, sym, ap, subst, subst₂, ◌∙◌, arith}
use Rattle.std.proofs.lemmas.Int.{ints}
use Rattle.std.specs.Option.{option_and_then}
use Rattle.std.specs.FinMap.{empty, get, insert, remove}
use Rattle.requests.specs.declared.request.Delivery.{Delivery}
use Rattle.catalog.specs.CardMap.{Cards}
use Rattle.catalog.specs.Lookups.{warehouse_card}
use Rattle.tpcc_rows.specs.Changing.{after}
use Rattle.tpcc_rows.specs.Limits.{IsBetween, ten}
use Rattle.tpcc_rows.specs.Picks.{oldest}
use Rattle.tpcc_rows.specs.RowKinds.{as_warehouse}
use Rattle.tpcc_rows.specs.RowMap.{Changes, Rows}
use Rattle.tpcc_rows.specs.Rows.{customer_row, order_row}
use Rattle.tpcc_rows.specs.Totals.{total, share_at}
use Rattle.tpcc_rows.specs.declared.key.RowKey.{RowKey}
use Rattle.tpcc_rows.specs.declared.key.RowKey.TheVariants as key
use Rattle.tpcc_rows.specs.declared.row.Row.{Row}
use Rattle.tpcc_rows.specs.declared.row.Row.TheVariants as row
use Rattle.tpcc_rows.specs.declared.row.CustomerRow.{CustomerRow}
use Rattle.tpcc_rows.specs.declared.row.DistrictNextRow.{DistrictNextRow}
use Rattle.tpcc_rows.specs.declared.row.OrderRow.{OrderRow}
use Rattle.tpcc_rows.specs.declared.row.OrderLineRow.{OrderLineRow}
use Rattle.tpcc_rows.proofs.Changes.{after-empty, after-insert, after-remove}
use Rattle.tpcc_rows.proofs.Keys.{row_key_cmp_total, exact_keys}
use Rattle.tpcc_rows.proofs.RowKindFacts.{order-there}
use Rattle.tpcc_rows.proofs.Singles as single
use Rattle.tpcc_rows.proofs.Totals.{no_share, total-remove, total-same}
use Rattle.tpcc_model.specs.Conditions.{Condition1, HasNewOrder, IsConsistent, IsLeast, district_share, line_share, new_order_share, promised_share}
use Rattle.tpcc_model.specs.Database.{Database, database}
use Rattle.tpcc_model.specs.Deliveries.{Delivered, carried, credited, delivery, districts_delivered, lines_amount, lines_dated, oldest_delivered, order_delivered}
use Rattle.tpcc_model.specs.Soundness.{IsCustomerRow, IsEntry, IsSound}
use Rattle.tpcc_model.specs.Staging.{known}
use Rattle.tpcc_laws.specs.Laws.{IsKeptSound}
use Rattle.tpcc_laws.proofs.Books.{shorter_book}
use Rattle.tpcc_laws.proofs.Conditions.{still_consistent}
use Rattle.tpcc_laws.proofs.DeliveryFacts.{credited-fits, oldest-is}
use Rattle.tpcc_laws.proofs.DeliveryLines.{IsDated, dated, is_dated}
use Rattle.tpcc_laws.proofs.Doing.{ok-by, ok_or-ok}
use Rattle.tpcc_laws.proofs.Entries.{Each, OrdersKept, There, each-insert, each-moved, each-remove, there-insert, there-remove}
use Rattle.tpcc_laws.proofs.NewOrderKeeps.{other_district}
use Rattle.tpcc_laws.proofs.NewOrderRuns.{book_of, consistent_of}
use Rattle.tpcc_laws.proofs.PaymentFacts.{customer-there}

-- ---- shares to which the date of a line makes no difference
alike_promised : (v e : ℕ) (k : RowKey) (r s : OrderLineRow) → promised_share v e k (row.OrderLine r) ≡ promised_share v e k (row.OrderLine s)
alike_promised v e (key.Order w d o) r s = refl
alike_promised v e _ r s = refl

alike_lines : (v e : ℕ) (k : RowKey) (r s : OrderLineRow) → line_share v e k (row.OrderLine r) ≡ line_share v e k (row.OrderLine s)
alike_lines v e (key.OrderLine w d o n) r s = refl
alike_lines v e _ r s = refl

alike_new_orders : (v e : ℕ) (k : RowKey) (r s : OrderLineRow) → new_order_share v e k (row.OrderLine r) ≡ new_order_share v e k (row.OrderLine s)
alike_new_orders v e (key.NewOrder w d o) r s = refl
alike_new_orders v e _ r s = refl

alike_payments : (v : ℕ) (k : RowKey) (r s : OrderLineRow) → district_share v k (row.OrderLine r) ≡ district_share v k (row.OrderLine s)
alike_payments v (key.DistrictYtd w d) r s = refl
alike_payments v _ r s = refl

-- after a delivery in district d of warehouse w: the history is the same, and so are the new orders of the others
pub record IsDeliveredIn (cards : Cards) (w d : ℕ) (m n : Rows) : Type 0 where
  pub sound : IsSound (database cards n)
  pub history : (i : ℕ) → get n (key.History i) ≡ get m (key.History i)
  pub others : (e x : ℕ) → (e ≡ d → ⊥) → get n (key.NewOrder w e x) ≡ get m (key.NewOrder w e x)

-- ---- one district
module _ (cards : Cards) (rows : Rows) (p : Delivery) (moment d o : ℕ) (changes : Changes) (fits : IsBetween 1 10 p.carrier) (timed : IsBetween 0 999999999999 moment) (sound : IsSound (database cards (after rows changes)))
    (least : IsLeast (HasNewOrder (after rows changes) p.warehouse d) o)
    (order : OrderRow) (has_order : get (after rows changes) (key.Order p.warehouse d o) ≡ Some (row.Order order))
    (old new : CustomerRow) (has_old : get (after rows changes) (key.Customer p.warehouse d order.customer) ≡ Some (row.Customer old)) (new_fits : IsCustomerRow new) where
  abbrev nk : RowKey
  nk = key.NewOrder p.warehouse d o

  abbrev ok : RowKey
  ok = key.Order p.warehouse d o

  abbrev ck : RowKey
  ck = key.Customer p.warehouse d order.customer

  abbrev with_carrier : OrderRow
  with_carrier = record order { carrier = Some p.carrier }

  -- the changes, and the rows after each of them
  abbrev c3 : Changes
  c3 = lines_dated rows p moment d o order.line_count (carried p d o order changes)

  abbrev m : Rows
  m = after rows changes

  abbrev m1 : Rows
  m1 = remove m nk

  abbrev m2 : Rows
  m2 = insert m1 ok (row.Order with_carrier)

  abbrev m3 : Rows
  m3 = after rows c3

  abbrev last : Rows
  last = insert m3 ck (row.Customer new)

  aside : (n : Rows) (k : RowKey) (x : Row) (q : RowKey) → (q ≡ k → ⊥) → get (insert n k x) q ≡ get n q
  aside n k x q ne = single.apart row_key_cmp_total exact_keys n k x q ne

  placed : (n : Rows) (k : RowKey) (x : Row) → get (insert n k x) k ≡ Some x
  placed n k x = single.here row_key_cmp_total exact_keys n k x

  left : (q : RowKey) → (q ≡ nk → ⊥) → get m1 q ≡ get m q
  left q ne = single.left row_key_cmp_total exact_keys m nk q ne

  is_m2 : after rows (carried p d o order changes) ≡ m2
  unfolding carried
  is_m2 = after-insert rows (insert changes nk None) ok (row.Order with_carrier) ∙ ap (λ z. insert z ok (row.Order with_carrier)) (after-remove rows changes nk)

  old_order : (v e x : ℕ) → (key.Order v e x ≡ ok → ⊥) → get m2 (key.Order v e x) ≡ get m (key.Order v e x)
  old_order v e x n = aside m1 ok (row.Order with_carrier) (key.Order v e x) n ∙ left (key.Order v e x) (λ s. cc)

  kept : OrdersKept m m2
  kept v e x r h = elim (single.same_key row_key_cmp_total exact_keys (key.Order v e x) ok) [
    | inl s ↦
        let a : get m2 (key.Order v e x) ≡ Some (row.Order with_carrier) = ap (get m2) s ∙ placed m1 ok (row.Order with_carrier) in
        let b : Some (row.Order order) ≡ Some (row.Order r) = sym has_order ∙ sym (ap (get m) s) ∙ h in
        let i : order ≡ r = cc in
        (with_carrier, a, ap (λ (z : OrderRow). z.line_count) i)
    | inr n ↦ (r, old_order v e x n ∙ h, refl)
  ]

  order_entry : IsEntry cards m2 ok (row.Order with_carrier)
  order_entry =
      let i = sound.entries ok (row.Order order) has_order in
      record { number = i.number; district = i.district; customer = i.customer; entry = i.entry; carrier = fits; line_count = i.line_count }

  each : Each cards m2 m2
  each = each-insert cards m2 m1 ok (row.Order with_carrier) (each-remove cards m2 m nk (each-moved cards m m2 m kept sound.entries)) order_entry

  there : There cards m2
  there = there-insert cards m1 ok (row.Order with_carrier) (there-remove cards m nk (λ c. c) sound.there)

  dates : IsDated cards m2 m2 m3
  dates = subst (λ (z : Rows). IsDated cards m2 z m3) is_m2
      (dated cards m2 moment timed rows p d o order.line_count (carried p d o order changes) (subst (Each cards m2) (sym is_m2) each) (subst (There cards) (sym is_m2) there))

  last_each : Each cards last last
  last_each =
      let i = sound.entries ck (row.Customer old) has_old in
      each-moved cards m2 last last (λ v e x r h. (r, aside m3 ck (row.Customer new) (key.Order v e x) (λ s. cc) ∙ dates.elsewhere (key.Order v e x) refl ∙ h, refl))
      (each-insert cards m2 m3 ck (row.Customer new) dates.entries (i.0, new_fits))

  -- keys of the kinds that stay as they were
  quiet : (k : RowKey) → is_dated k ≡ false → (k ≡ ck → ⊥) → (k ≡ ok → ⊥) → (k ≡ nk → ⊥) → get last k ≡ get m k
  quiet k f a b c = aside m3 ck (row.Customer new) k a ∙ dates.elsewhere k f ∙ aside m1 ok (row.Order with_carrier) k b ∙ left k c

  -- ---- sums
  removed : (f : RowKey → Row → ℤ) → share_at (f nk) (get m nk) ≡ pos 0 → total f m1 ≡ total f m
  removed f z = let e = total-remove f m nk in omega (arith, ints, e, z)

  promised : (v e : ℕ) → total (promised_share v e) last ≡ total (promised_share v e) m
  promised v e =
      let f = promised_share v e in
      total-same m3 ck f (row.Customer new) (no_share (f ck) _ (λ x. refl))
      ∙ dates.shares f (alike_promised v e)
      ∙ total-same m1 ok f (row.Order with_carrier) (ap (share_at (f ok)) (left ok (λ s. cc) ∙ has_order))
      ∙ removed f (no_share (f nk) _ (λ x. refl))

  lines : (v e : ℕ) → total (line_share v e) last ≡ total (line_share v e) m
  lines v e =
      let f = line_share v e in
      total-same m3 ck f (row.Customer new) (no_share (f ck) _ (λ x. refl))
      ∙ dates.shares f (alike_lines v e)
      ∙ total-same m1 ok f (row.Order with_carrier) (no_share (f ok) _ (λ x. refl))
      ∙ removed f (no_share (f nk) _ (λ x. refl))

  payments : (v : ℕ) → total (district_share v) last ≡ total (district_share v) m
  payments v =
      let f = district_share v in
      total-same m3 ck f (row.Customer new) (no_share (f ck) _ (λ x. refl))
      ∙ dates.shares f (alike_payments v)
      ∙ total-same m1 ok f (row.Order with_carrier) (no_share (f ok) _ (λ x. refl))
      ∙ removed f (no_share (f nk) _ (λ x. refl))

  -- of another district
  other_new_orders : (v e : ℕ) → (v ≡ p.warehouse → e ≡ d → ⊥) → total (new_order_share v e) last ≡ total (new_order_share v e) m
  other_new_orders v e far =
      let f = new_order_share v e in
      let t : (p.warehouse == v && d == e) ≡ false = other_district v p.warehouse e d far in
      total-same m3 ck f (row.Customer new) (no_share (f ck) _ (λ x. refl))
      ∙ dates.shares f (alike_new_orders v e)
      ∙ total-same m1 ok f (row.Order with_carrier) (no_share (f ok) _ (λ x. refl))
      ∙ removed f (ap (share_at (f nk)) least.there ∙ ap (λ b. cond b (pos 1) (pos 0)) t)

  ytds : Condition1 last
  ytds v = subst₂ (λ (a : Option Row) (t : ℤ). IfSome (option_and_then as_warehouse a) (λ warehouse. warehouse.ytd ≡ t))
      (sym (quiet (key.Warehouse v) refl (λ s. cc) (λ s. cc) (λ s. cc))) (sym (payments v)) (sound.condition_1 v)

  -- ---- conditions 2 to 4
  own_district : (next : ℕ) → 1 ≤ next → IsConsistent m p.warehouse d next → IsConsistent last p.warehouse d next
  own_district next low c = consistent_of p.warehouse d last next low
      (shorter_book m last p.warehouse d next o with_carrier least
      (aside m3 ck (row.Customer new) nk (λ s. cc) ∙ dates.elsewhere nk refl ∙ aside m1 ok (row.Order with_carrier) nk (λ s. cc) ∙ single.gone row_key_cmp_total exact_keys m nk)
      (aside m3 ck (row.Customer new) ok (λ s. cc) ∙ dates.elsewhere ok refl ∙ placed m1 ok (row.Order with_carrier))
      (λ x n. quiet (key.Order p.warehouse d x) refl (λ s. cc) (λ s. n cc) (λ s. cc))
      (λ x n. quiet (key.NewOrder p.warehouse d x) refl (λ s. cc) (λ s. cc) (λ s. n cc))
      (promised p.warehouse d) (lines p.warehouse d) (book_of p.warehouse d m next low c))

  other_districts : (v e next : ℕ) → (v ≡ p.warehouse → e ≡ d → ⊥) → IsConsistent m v e next → IsConsistent last v e next
  other_districts v e next far c = still_consistent m last v e
      (λ x. quiet (key.Order v e x) refl (λ s. cc) (λ s. (let a : v ≡ p.warehouse = cc in let b : e ≡ d = cc in far a b)) (λ s. cc))
      (λ x. quiet (key.NewOrder v e x) refl (λ s. cc) (λ s. cc) (λ s. (let a : v ≡ p.warehouse = cc in let b : e ≡ d = cc in far a b)))
      next (promised v e) (lines v e) (other_new_orders v e far) c

  districts : (v e : ℕ) (r : DistrictNextRow) → get last (key.DistrictNext v e) ≡ Some (row.DistrictNext r) → IsConsistent last v e r.next_order
  districts v e r h =
      let was : get m (key.DistrictNext v e) ≡ Some (row.DistrictNext r) = sym (quiet (key.DistrictNext v e) refl (λ s. cc) (λ s. cc) (λ s. cc)) ∙ h in
      let low = (sound.entries (key.DistrictNext v e) (row.DistrictNext r) was).1.0 in
      let before = sound.districts v e r was in
      elim (single.same_key row_key_cmp_total exact_keys (key.DistrictNext v e) (key.DistrictNext p.warehouse d)) [
        | inl s ↦
            let both : ◌≡◌ {A = ℕ × ℕ} (v, e) (p.warehouse, d) = cc in
            subst (λ (z : ℕ × ℕ). IsConsistent last z.0 z.1 r.next_order) (sym both) (own_district r.next_order low (subst (λ (z : ℕ × ℕ). IsConsistent m z.0 z.1 r.next_order) both before))
        | inr n ↦ other_districts v e r.next_order (λ a b. n cc) before
      ]

  pub in_district : IsDeliveredIn cards p.warehouse d m (after rows (insert c3 ck (Some (row.Customer new))))
  in_district = subst (IsDeliveredIn cards p.warehouse d m) (sym (after-insert rows c3 ck (row.Customer new))) (record {
    sound = record {
      cards = sound.cards;
      there = there-insert cards m3 ck (row.Customer new) dates.there;
      entries = last_each;
      condition_1 = ytds;
      districts = districts;
    };
    history = λ i. quiet (key.History i) refl (λ s. cc) (λ s. cc) (λ s. cc);
    others = λ e x n. quiet (key.NewOrder p.warehouse e x) refl (λ s. cc) (λ s. cc) (λ s. n cc);
  })

-- ---- the districts in turn
module _ (cards : Cards) (rows : Rows) (p : Delivery) (moment : ℕ) (fits : IsBetween 1 10 p.carrier) (timed : IsBetween 0 999999999999 moment) where
  order_keeps : (d o : ℕ) (changes more : Changes) → IsSound (database cards (after rows changes)) → IsLeast (HasNewOrder (after rows changes) p.warehouse d) o → order_delivered rows p moment d o changes ≡ Ok more
      → IsDeliveredIn cards p.warehouse d (after rows changes) (after rows more)
  unfolding order_delivered
  order_keeps d o changes more sound least h =
      let m = after rows changes in
      ok-by (known (order_row m p.warehouse d o)) _ _ h λ order e1 h1.
      ok-by (known (customer_row m p.warehouse d order.customer)) _ _ h1 λ old e2 h2.
      ok-by (credited old (lines_amount m p d o order.line_count)) _ _ h2 λ new e3 h3.
      let has_order = order-there _ order (ok_or-ok _ _ _ e1) in
      let has_old = customer-there _ old (ok_or-ok _ _ _ e2) in
      let new_fits = credited-fits old new _ (sound.entries (key.Customer p.warehouse d order.customer) (row.Customer old) has_old).1 e3 in
      let is : insert (lines_dated rows p moment d o order.line_count (carried p d o order changes)) (key.Customer p.warehouse d order.customer) (Some (row.Customer new)) ≡ more = cc in
      subst (λ (c : Changes). IsDeliveredIn cards p.warehouse d m (after rows c)) is (in_district cards rows p moment d o changes fits timed sound least order has_order old new has_old new_fits)

  district_keeps : (d : ℕ) (changes more : Changes) (o : Option ℕ) → oldest rows p.warehouse d ≡ o → IsSound (database cards (after rows changes))
      → ((x : ℕ) → get (after rows changes) (key.NewOrder p.warehouse d x) ≡ get rows (key.NewOrder p.warehouse d x)) → oldest_delivered rows p moment d o changes ≡ Ok more
      → IsDeliveredIn cards p.warehouse d (after rows changes) (after rows more)
  district_keeps d changes more None is sound same h =
      let e : changes ≡ more = cc in
      subst (λ (c : Changes). IsDeliveredIn cards p.warehouse d (after rows changes) (after rows c)) e (record { sound = sound; history = λ i. refl; others = λ e x n. refl })
  district_keeps d changes more (Some o) is sound same h =
      let l = oldest-is rows p.warehouse d o is in
      order_keeps d o changes more sound (record { there = same o ∙ l.there; below = λ x has. l.below x (sym (same x) ∙ has) }) h

  -- the numbers rise, from this one at least
  abbrev RisesFrom : ℕ → List ℕ → Type 0
  RisesFrom low [] = Unit {0}
  RisesFrom low (d ∷ ds) = (low ≤ d) × RisesFrom (d + 1) ds

  -- the new orders of the districts from this one on are those of the rows before the delivery
  abbrev IsUntouched : ℕ → Changes → Type 0
  IsUntouched low changes = (d x : ℕ) → low ≤ d → get (after rows changes) (key.NewOrder p.warehouse d x) ≡ get rows (key.NewOrder p.warehouse d x)

  districts_keep : (low : ℕ) (ds : List ℕ) (changes last : Changes) → RisesFrom low ds → IsUntouched low changes → IsSound (database cards (after rows changes)) → districts_delivered rows p moment ds changes ≡ Ok last
      → IsSound (database cards (after rows last)) × ((i : ℕ) → get (after rows last) (key.History i) ≡ get (after rows changes) (key.History i))
  unfolding districts_delivered
  districts_keep low [] changes last rises same sound h =
      let e : changes ≡ last = cc in
      subst (λ (c : Changes). IsSound (database cards (after rows c)) × ((i : ℕ) → get (after rows c) (key.History i) ≡ get (after rows changes) (key.History i))) e (sound, λ i. refl)
  districts_keep low (d ∷ ds) changes last rises same sound h =
      ok-by (oldest_delivered rows p moment d (oldest rows p.warehouse d) changes) _ _ h λ more e1 h1.
      let from : low ≤ d = rises.0 in
      let one = district_keeps d changes more (oldest rows p.warehouse d) refl sound (λ x. same d x from) e1 in
      let rest = districts_keep (d + 1) ds more last rises.1 (λ e x above. one.others e x (λ s. omega arith) ∙ same e x (omega arith)) one.sound h1 in
      (rest.0, λ i. rest.1 i ∙ one.history i)

  ten_rise : RisesFrom 1 ten
  ten_rise = (omega arith, (omega arith, (omega arith, (omega arith, (omega arith, (omega arith, (omega arith, (omega arith, (omega arith, (omega arith, tt))))))))))

  pub all_keep : (last : Changes) → IsSound (database cards rows) → districts_delivered rows p moment ten empty ≡ Ok last → IsSound (database cards (after rows last)) × ((i : ℕ) → get (after rows last) (key.History i) ≡ get rows (key.History i))
  all_keep last sound h =
      let start : after rows empty ≡ rows = after-empty rows in
      let kept = districts_keep 1 ten empty last ten_rise (λ d x above. ap (λ (z : Rows). get z (key.NewOrder p.warehouse d x)) start) (subst (λ (z : Rows). IsSound (database cards z)) (sym start) sound) h in
      (kept.0, λ i. kept.1 i ∙ ap (λ (z : Rows). get z (key.History i)) start)

pub delivery_keeps : (db : Database) (p : Delivery) (number moment : ℕ) (made : Delivered) → IsSound db → IsBetween 1 10 p.carrier → IsBetween 0 999999999999 moment → delivery db p moment ≡ Ok made → IsKeptSound db (after db.rows made.changes) number
unfolding delivery
delivery_keeps db p number moment made sound fits timed h =
    ok-by (known (warehouse_card db.cards p.warehouse)) _ _ h λ card e1 h1.
    ok-by (districts_delivered db.rows p moment ten empty) _ _ h1 λ last e2 h2.
    let kept = all_keep db.cards db.rows p moment fits timed last sound e2 in
    let is : ◌≡◌ {A = Delivered} (record { reply = record { orders = map (oldest db.rows p.warehouse) ten }; changes = last }) made = cc in
    subst (λ (z : Delivered). IsKeptSound db (after db.rows z.changes) number) is (record { sound = kept.0; history = λ n. inr (kept.1 n) })
