-- The oldest new order of a district, and a customer that is credited.
use Rattle.std.proofs.Common.{◌≡◌, ◌+◌, ℕ, pos, ◌+ℤ◌, cond, ◌&&◌, ◌==◌, true, Some, None, Ok, refl, ap, subst, subst₂, arith}
use Rattle.std.proofs.lemmas.Bool.Decides.{nat_tests}
use Rattle.std.specs.FinMap.{get}
use Rattle.tpcc_rows.specs.Limits.{between, cents_of}
use Rattle.tpcc_rows.specs.Picks.{new_pick, oldest, picked}
use Rattle.tpcc_rows.specs.RowMap.{Rows}
use Rattle.tpcc_rows.specs.declared.key.RowKey.{RowKey}
use Rattle.tpcc_rows.specs.declared.key.RowKey.TheVariants as key
use Rattle.tpcc_rows.specs.declared.row.Row.{Row}
use Rattle.tpcc_rows.specs.declared.row.Row.TheVariants as row
use Rattle.tpcc_rows.specs.declared.row.CustomerRow.{CustomerRow}
use Rattle.tpcc_rows.proofs.Picks.{least-is, picked-row, row-picked}
use Rattle.tpcc_model.specs.Conditions.{HasNewOrder, IsLeast}
use Rattle.tpcc_model.specs.Deliveries.{credited}
use Rattle.tpcc_model.specs.Soundness.{IsCustomerRow}
use Rattle.tpcc_model.specs.Staging.{within}
use Rattle.tpcc_laws.proofs.Doing.{between-some, cents-some, ok-by, ok_or-ok, passed}

pub picked_new : (w d : ℕ) (k : RowKey) (x : Row) (o : ℕ) → new_pick w d k x ≡ Some o → (k ≡ key.NewOrder w d o) × (x ≡ row.NewOrder)
picked_new w d (key.NewOrder v e z) row.NewOrder o h =
    let p = passed (v == w && e == d) z o h in
    let t : (v == w && e == d) ≡ true = p.0 in
    let a : v ≡ w = grind (arith, nat_tests) in
    let b : e ≡ d = grind (arith, nat_tests) in
    let c : z ≡ o = p.1 in
    (cc, refl)
picked_new w d _ _ o h = cc

pub new_picked : (w d o : ℕ) → new_pick w d (key.NewOrder w d o) row.NewOrder ≡ Some o
new_picked w d o = ap (λ b. cond b (Some o) None) (let t : (w == w && d == d) ≡ true = grind (arith, nat_tests) in t)

-- the oldest new order is the least one
pub oldest-is : (rows : Rows) (w d o : ℕ) → oldest rows w d ≡ Some o → IsLeast (HasNewOrder rows w d) o
unfolding oldest
oldest-is rows w d o h =
    let l = least-is (picked (new_pick w d) rows) o h in
    let r = picked-row (new_pick w d) rows o l.0 in
    let k = picked_new w d r.0 r.1 o r.3 in
    record {
      there = subst₂ (λ (z : RowKey) (y : Row). get rows z ≡ Some y) k.0 k.1 r.2;
      below = λ x has. l.1 x (row-picked (new_pick w d) rows (key.NewOrder w d x) row.NewOrder x has (new_picked w d x));
    }

-- a customer's row stays within its limits
pub credited-fits : (old new : CustomerRow) (amount : ℕ) → IsCustomerRow old → credited old amount ≡ Ok new → IsCustomerRow new
unfolding credited
credited-fits old new amount fits h =
    ok-by (within (cents_of (old.balance +ℤ pos amount))) _ _ h λ balance e1 h1.
    ok-by (within (between 0 1000000000 (old.delivery_count + 1))) _ _ h1 λ count e2 h2.
    let is : ◌≡◌ {A = CustomerRow} (record old { balance = balance; delivery_count = count }) new = cc in
    subst IsCustomerRow is (record {
      balance = (cents-some (old.balance +ℤ pos amount) balance (ok_or-ok _ _ _ e1)).1;
      ytd_payment = fits.ytd_payment;
      payment_count = fits.payment_count;
      delivery_count = (between-some 0 1000000000 (old.delivery_count + 1) count (ok_or-ok _ _ _ e2)).1;
      text = fits.text;
    })
