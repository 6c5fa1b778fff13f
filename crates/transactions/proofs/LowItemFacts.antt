-- The low items of one line more, and of one order more.
use Rattle.std.proofs.Common.{◌≡◌, ◌≤◌, ◌+◌, ◌-◌, ℕ, suc, List, [], length, Option, sym, ap, subst, ◌∙◌, add-one, arith}
use Rattle.std.specs.BTreeMap.{is_at}
use Rattle.std.specs.BTreeSet.{BTreeSet}
use Rattle.std.specs.List.{list_any}
use Rattle.std.specs.Ordering.{nat_cmp}
use Rattle.tpcc_rows.specs.Rows.{order_line_row}
use Rattle.tpcc_rows.specs.declared.row.OrderLineRow.{OrderLineRow}
use Rattle.requests.specs.declared.request.StockLevel.{StockLevel}
use Rattle.tpcc_model.specs.Database.{Database}
use Rattle.tpcc_model.specs.StockLevels.{low_items, with_line, with_lines}
use Rattle.transactions.specs.LowItems.{IsHeld}

pub lines-more : (db : Database) (p : StockLevel) (o n : ℕ) (items : List ℕ) → with_lines db p o (n + 1) items ≡ with_line db p (order_line_row db.rows p.warehouse p.district o (n + 1)) (with_lines db p o n items)
unfolding with_lines
lines-more db p o n items = ap (λ k. with_lines db p o k items) (add-one n) ∙ sym (ap (λ k. with_line db p (order_line_row db.rows p.warehouse p.district o k) (with_lines db p o n items)) (add-one n))

-- a set that holds the lines so far and the next one
pub lines_held : (db : Database) (p : StockLevel) (o n number : ℕ) → number ≡ n + 1 → (line : Option OrderLineRow) → line ≡ order_line_row db.rows p.warehouse p.district o number → (set : BTreeSet ℕ) (items : List ℕ)
    → IsHeld set (with_line db p line (with_lines db p o n items)) → IsHeld set (with_lines db p o (n + 1) items)
lines_held db p o n number same line is set items held =
    subst (IsHeld set) (ap (λ l. with_line db p l (with_lines db p o n items)) (is ∙ ap (order_line_row db.rows p.warehouse p.district o) same) ∙ sym (lines-more db p o n items)) held

-- a set that holds nothing yet
pub none_held : (db : Database) (p : StockLevel) (first n : ℕ) → n ≡ 0 → (set : BTreeSet ℕ) → set.keys ≡ [] → IsHeld set (low_items db p first n)
unfolding low_items
none_held db p first n none set empty = subst (λ k. IsHeld set (low_items db p first k)) (sym none) (record {
  members = λ q. ap (λ (keys : List ℕ). list_any (is_at (nat_cmp q)) keys) empty;
  count = ap length empty;
})

-- a set that holds the orders so far and the next one
pub orders_held : (db : Database) (p : StockLevel) (first o number : ℕ) → number ≡ o → first ≤ o → (set : BTreeSet ℕ) → IsHeld set (with_lines db p number 15 (low_items db p first (o - first))) → IsHeld set (low_items db p first (o + 1 - first))
unfolding low_items
orders_held db p first o number same from set held =
    let n : o + 1 - first ≡ suc (o - first) = omega arith in
    let at : number ≡ first + (o - first) = omega (arith, same) in
    subst (IsHeld set) (ap (λ k. with_lines db p k 15 (low_items db p first (o - first))) at ∙ sym (ap (low_items db p first) n)) held
