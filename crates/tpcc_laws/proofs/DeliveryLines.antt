-- What the lines of a delivery change.
use Rattle.std.proofs.Common.{◌≡◌, ℕ, zero, suc, ℤ, Bool, true, false, Option, Some, None, refl, sym, ap, subst, ◌∙◌}
use Rattle.std.specs.FinMap.{get, insert}
use Rattle.requests.specs.declared.request.Delivery.{Delivery}
use Rattle.catalog.specs.CardMap.{Cards}
use Rattle.tpcc_rows.specs.Changing.{after}
use Rattle.tpcc_rows.specs.Limits.{IsBetween}
use Rattle.tpcc_rows.specs.Rows.{order_line_row}
use Rattle.tpcc_rows.specs.RowMap.{Changes, Rows}
use Rattle.tpcc_rows.specs.Totals.{total, share_at}
use Rattle.tpcc_rows.specs.declared.key.RowKey.{RowKey}
use Rattle.tpcc_rows.specs.declared.key.RowKey.TheVariants as key
use Rattle.tpcc_rows.specs.declared.row.Row.{Row}
use Rattle.tpcc_rows.specs.declared.row.Row.TheVariants as row
use Rattle.tpcc_rows.specs.declared.row.OrderLineRow.{OrderLineRow}
use Rattle.tpcc_rows.proofs.Changes.{after-insert}
use Rattle.tpcc_rows.proofs.Keys.{row_key_cmp_total, exact_keys}
use Rattle.tpcc_rows.proofs.RowKindFacts.{order-line-there}
use Rattle.tpcc_rows.proofs.Singles.{apart}
use Rattle.tpcc_rows.proofs.Totals.{total-same}
use Rattle.tpcc_model.specs.Deliveries.{line_dated, lines_dated}
use Rattle.tpcc_laws.proofs.Entries.{Each, There, each-insert, there-insert}

-- the keys whose rows the lines change
abbrev pub is_dated : RowKey → Bool
is_dated (key.OrderLine w d o n) = true
is_dated _ = false

-- from m to n some order lines got a date, with their parents in p
pub record IsDated (cards : Cards) (p m n : Rows) : Type 0 where
  pub entries : Each cards p n
  pub there : There cards n
  pub elsewhere : (k : RowKey) → is_dated k ≡ false → get n k ≡ get m k
  pub shares : (f : RowKey → Row → ℤ) → ((k : RowKey) (r s : OrderLineRow) → f k (row.OrderLine r) ≡ f k (row.OrderLine s)) → total f n ≡ total f m

module _ (cards : Cards) (p : Rows) (moment : ℕ) (timed : IsBetween 0 999999999999 moment) where
  one_dated : (m : Rows) (w d o n : ℕ) (r : OrderLineRow) → get m (key.OrderLine w d o n) ≡ Some (row.OrderLine r) → Each cards p m → There cards m
      → IsDated cards p m (insert m (key.OrderLine w d o n) (row.OrderLine (record r { delivery = Some moment })))
  one_dated m w d o n r has each there =
      let k = key.OrderLine w d o n in
      let new : OrderLineRow = record r { delivery = Some moment } in
      let i = each k (row.OrderLine r) has in
      record {
        entries = each-insert cards p m k (row.OrderLine new) each (record { order = i.order; has_order = i.has_order; number = i.number; stock = i.stock; delivery = timed; quantity = i.quantity; amount = i.amount; district_info = i.district_info });
        there = there-insert cards m k (row.OrderLine new) there;
        elsewhere = λ q f. apart row_key_cmp_total exact_keys m k (row.OrderLine new) q (λ e. (let t : is_dated q ≡ true = ap is_dated e in let no : false ≡ true = sym f ∙ t in cc));
        shares = λ f alike. total-same m k f (row.OrderLine new) (ap (share_at (f k)) has ∙ alike k r new);
      }

  dated_then : (m n q : Rows) → IsDated cards p m n → IsDated cards p n q → IsDated cards p m q
  dated_then m n q a b = record {
    entries = b.entries;
    there = b.there;
    elsewhere = λ k f. b.elsewhere k f ∙ a.elsewhere k f;
    shares = λ f alike. b.shares f alike ∙ a.shares f alike;
  }

  line_then : (m rows : Rows) (w d o n : ℕ) (line : Option OrderLineRow) (changes : Changes) → order_line_row (after rows changes) w d o n ≡ line → IsDated cards p m (after rows changes)
      → IsDated cards p m (after rows (line_dated moment (key.OrderLine w d o n) line changes))
  line_then m rows w d o n None changes is so_far = so_far
  line_then m rows w d o n (Some r) changes is so_far =
      let k = key.OrderLine w d o n in
      let new : Row = row.OrderLine (record r { delivery = Some moment }) in
      let one = one_dated (after rows changes) w d o n r (order-line-there _ r is) so_far.entries so_far.there in
      subst (IsDated cards p m) (sym (after-insert rows changes k new)) (dated_then m (after rows changes) (insert (after rows changes) k new) so_far one)

  -- the lines in turn
  pub dated : (rows : Rows) (q : Delivery) (d o n : ℕ) (changes : Changes) → Each cards p (after rows changes) → There cards (after rows changes)
      → IsDated cards p (after rows changes) (after rows (lines_dated rows q moment d o n changes))
  unfolding lines_dated
  dated rows q d o zero changes each there = record { entries = each; there = there; elsewhere = λ k f. refl; shares = λ f alike. refl }
  dated rows q d o (suc n) changes each there =
      line_then (after rows changes) rows q.warehouse d o (suc n) _ (lines_dated rows q moment d o n changes) refl (dated rows q d o n changes each there)
