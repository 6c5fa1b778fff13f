-- A delivery dates lines, and changes neither an item nor a next number.
use Rattle.std.proofs.Common.{◌≡◌, ℕ, zero, suc, List, [], ◌∷◌, map, Option, Some, None, Ok, refl, subst}
use Rattle.std.specs.FinMap.{empty, insert}
use Rattle.catalog.specs.Lookups.{warehouse_card}
use Rattle.requests.specs.declared.request.Delivery.{Delivery}
use Rattle.tpcc_rows.specs.Changing.{after}
use Rattle.tpcc_rows.specs.Limits.{ten}
use Rattle.tpcc_rows.specs.Picks.{oldest}
use Rattle.tpcc_rows.specs.RowMap.{Changes, Rows}
use Rattle.tpcc_rows.specs.Rows.{customer_row, order_line_row, order_row}
use Rattle.tpcc_rows.specs.declared.key.RowKey.TheVariants as key
use Rattle.tpcc_rows.specs.declared.row.OrderLineRow.{OrderLineRow}
use Rattle.tpcc_rows.specs.declared.row.OrderRow.{OrderRow}
use Rattle.tpcc_rows.specs.declared.row.Row.TheVariants as row
use Rattle.tpcc_rows.proofs.RowKindFacts.{order-line-there}
use Rattle.tpcc_model.specs.Database.{Database}
use Rattle.tpcc_model.specs.Deliveries.{Delivered, carried, credited, delivery, districts_delivered, line_dated, lines_amount, lines_dated, oldest_delivered, order_delivered}
use Rattle.tpcc_model.specs.Staging.{known}
use Rattle.tpcc_laws.proofs.Doing.{ok-by}
use Rattle.profile_laws.proofs.Following.{ChangesFollow, Items, follow-delete, follow-none, follow-put}

module _ (New : Items) (rows : Rows) (p : Delivery) (moment : ℕ) where
  abbrev Keeps : Changes → Type 0
  Keeps changes = ChangesFollow New rows changes

  -- a line that gets a date keeps its item
  line_follows : (w d o n : ℕ) (line : Option OrderLineRow) (changes : Changes) → order_line_row (after rows changes) w d o n ≡ line → Keeps changes
      → Keeps (line_dated moment (key.OrderLine w d o n) line changes)
  line_follows w d o n None changes is all = all
  line_follows w d o n (Some line) changes is all =
      let k = key.OrderLine w d o n in
      follow-put New rows changes k (row.OrderLine (record line { delivery = Some moment })) all (all k (row.OrderLine line) (order-line-there _ line is))

  lines_follow : (d o n : ℕ) (changes : Changes) → Keeps changes → Keeps (lines_dated rows p moment d o n changes)
  unfolding lines_dated
  lines_follow d o zero changes all = all
  lines_follow d o (suc n) changes all = line_follows p.warehouse d o (suc n) _ (lines_dated rows p moment d o n changes) refl (lines_follow d o n changes all)

  carried_follows : (d o : ℕ) (order : OrderRow) (changes : Changes) → Keeps changes → Keeps (carried p d o order changes)
  unfolding carried
  carried_follows d o order changes all =
      follow-put New rows _ (key.Order p.warehouse d o) (row.Order (record order { carrier = Some p.carrier })) (follow-delete New rows changes (key.NewOrder p.warehouse d o) all) tt

  order_follows : (d o : ℕ) (changes more : Changes) → Keeps changes → order_delivered rows p moment d o changes ≡ Ok more → Keeps more
  unfolding order_delivered
  order_follows d o changes more all h =
      ok-by (known (order_row (after rows changes) p.warehouse d o)) _ _ h λ order e1 h1.
      ok-by (known (customer_row (after rows changes) p.warehouse d order.customer)) _ _ h1 λ old e2 h2.
      ok-by (credited old (lines_amount (after rows changes) p d o order.line_count)) _ _ h2 λ new e3 h3.
      let dated = lines_dated rows p moment d o order.line_count (carried p d o order changes) in
      let k = key.Customer p.warehouse d order.customer in
      let is : insert dated k (Some (row.Customer new)) ≡ more = cc in
      subst Keeps is (follow-put New rows dated k (row.Customer new) (lines_follow d o order.line_count (carried p d o order changes) (carried_follows d o order changes all)) tt)

  oldest_follows : (d : ℕ) (o : Option ℕ) (changes more : Changes) → Keeps changes → oldest_delivered rows p moment d o changes ≡ Ok more → Keeps more
  oldest_follows d None changes more all h = (let is : changes ≡ more = cc in subst Keeps is all)
  oldest_follows d (Some o) changes more all h = order_follows d o changes more all h

  districts_follow : (ds : List ℕ) (changes last : Changes) → Keeps changes → districts_delivered rows p moment ds changes ≡ Ok last → Keeps last
  unfolding districts_delivered
  districts_follow [] changes last all h = (let is : changes ≡ last = cc in subst Keeps is all)
  districts_follow (d ∷ ds) changes last all h =
      ok-by (oldest_delivered rows p moment d (oldest rows p.warehouse d) changes) _ _ h λ more e1 h1.
      districts_follow ds more last (oldest_follows d (oldest rows p.warehouse d) changes more all e1) h1

pub delivery_follows : (New : Items) (db : Database) (p : Delivery) (moment : ℕ) (made : Delivered) → delivery db p moment ≡ Ok made → ChangesFollow New db.rows made.changes
unfolding delivery
delivery_follows New db p moment made h =
    ok-by (known (warehouse_card db.cards p.warehouse)) _ _ h λ card e1 h1.
    ok-by (districts_delivered db.rows p moment ten empty) _ _ h1 λ last e2 h2.
    let is : ◌≡◌ {A = Delivered} (record { reply = record { orders = map (oldest db.rows p.warehouse) ten }; changes = last }) made = cc in
    subst (λ (z : Delivered). ChangesFollow New db.rows z.changes) is (districts_follow New db.rows p moment ten empty last (follow-none New db.rows) e2)
