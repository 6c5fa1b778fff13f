-- The totals of the districts, row by row.
use Rattle.std.proofs.Common.{◌≡◌, ℕ, ◌*◌, ◌+◌, ◌≤◌, ℤ, ◌+ℤ◌, max, min, List, [], ◌∷◌, Option, Some, None, refl, sym, ap, ◌∙◌, arith}
use Rattle.std.proofs.lemmas.Int.{ints}
use Rattle.std.proofs.lemmas.List.{get_or-replicate}
use Rattle.std.proofs.Math.ListN.{replicate}
use Rattle.std.specs.FinMap.{entries}
use Rattle.std.specs.List.{cons_option, filter_map}
use Rattle.records.specs.Fields.{IsWithin}
use Rattle.tpcc_model.specs.Conditions.{line_share, new_order_share, promised_share}
use Rattle.tpcc_rows.specs.Limits.{IsBetween}
use Rattle.tpcc_rows.specs.Picks.{greatest, larger, least, lesser, new_pick, picked}
use Rattle.tpcc_rows.specs.RowMap.{Rows}
use Rattle.tpcc_rows.specs.Totals.{sum_entries, total}
use Rattle.tpcc_rows.specs.declared.key.RowKey.{RowKey}
use Rattle.tpcc_rows.specs.declared.row.Row.{Row}
use Rattle.image_checks.specs.Totals.{AreOfRows, AreTotals, IsOfRows, both, district_totals, empty_totals, one_of, row_totals, totals_at}
use Rattle.image_checks.specs.Districts.{district_order_pick}
use Rattle.image_checks.specs.declared.totals.Totals.{Totals}

-- ---- one of two numbers
module _ (choice : ℕ → ℕ → ℕ) where
  none-one_of : (n : Option ℕ) → one_of choice None n ≡ n
  none-one_of None = refl
  none-one_of (Some n) = refl

  one_of-assoc : ((a b c : ℕ) → choice (choice a b) c ≡ choice a (choice b c)) → (l m n : Option ℕ) → one_of choice (one_of choice l m) n ≡ one_of choice l (one_of choice m n)
  one_of-assoc assoc l m None = refl
  one_of-assoc assoc l None (Some c) = refl
  one_of-assoc assoc None (Some b) (Some c) = refl
  one_of-assoc assoc (Some a) (Some b) (Some c) = ap (λ (n : ℕ). Some n) (assoc a b c)

max-assoc : (a b c : ℕ) → max (max a b) c ≡ max a (max b c)
max-assoc a b c = omega arith

min-assoc : (a b c : ℕ) → min (min a b) c ≡ min a (min b c)
min-assoc a b c = omega arith

add-assoc : (x y z : ℤ) → (x +ℤ y) +ℤ z ≡ x +ℤ (y +ℤ z)
add-assoc x y z = omega (arith, ints)

-- ---- the sum of two totals
same_totals : (a b : Totals) → a.last_order ≡ b.last_order → a.first_new_order ≡ b.first_new_order → a.last_new_order ≡ b.last_new_order
    → a.new_orders ≡ b.new_orders → a.promised_lines ≡ b.promised_lines → a.lines ≡ b.lines → a ≡ b
same_totals a b p q r s t u = λ i. record { last_order = p i; first_new_order = q i; last_new_order = r i; new_orders = s i; promised_lines = t i; lines = u i }

both-empty : (b : Totals) → both b empty_totals ≡ b
both-empty b = same_totals (both b empty_totals) b refl refl refl (omega (arith, ints)) (omega (arith, ints)) (omega (arith, ints))

empty-both : (b : Totals) → both empty_totals b ≡ b
empty-both b = same_totals (both empty_totals b) b (none-one_of max b.last_order) (none-one_of min b.first_new_order) (none-one_of max b.last_new_order) (omega (arith, ints)) (omega (arith, ints)) (omega (arith, ints))

both-assoc : (a b c : Totals) → both (both a b) c ≡ both a (both b c)
both-assoc a b c = same_totals (both (both a b) c) (both a (both b c))
    (one_of-assoc max max-assoc a.last_order b.last_order c.last_order)
    (one_of-assoc min min-assoc a.first_new_order b.first_new_order c.first_new_order)
    (one_of-assoc max max-assoc a.last_new_order b.last_new_order c.last_new_order)
    (add-assoc a.new_orders b.new_orders c.new_orders) (add-assoc a.promised_lines b.promised_lines c.promised_lines) (add-assoc a.lines b.lines c.lines)

-- ---- the rows that are left
-- the totals of a list of rows
abbrev pub entries_totals : ℕ → ℕ → List (RowKey × Row) → Totals
entries_totals w d es = record {
  last_order = greatest (filter_map (λ e. district_order_pick w d e.0 e.1) es);
  first_new_order = least (filter_map (λ e. new_pick w d e.0 e.1) es);
  last_new_order = greatest (filter_map (λ e. new_pick w d e.0 e.1) es);
  new_orders = sum_entries (new_order_share w d) es;
  promised_lines = sum_entries (promised_share w d) es;
  lines = sum_entries (line_share w d) es;
}

greatest-cons : (o : Option ℕ) (xs : List ℕ) → greatest (cons_option o xs) ≡ one_of max o (greatest xs)
greatest-cons None xs = sym (none-one_of max (greatest xs))
greatest-cons (Some x) xs = at (greatest xs)
  where
    at : (o : Option ℕ) → Some (larger x o) ≡ one_of max (Some x) o
    at None = refl
    at (Some y) = refl

least-cons : (o : Option ℕ) (xs : List ℕ) → least (cons_option o xs) ≡ one_of min o (least xs)
least-cons None xs = sym (none-one_of min (least xs))
least-cons (Some x) xs = at (least xs)
  where
    at : (o : Option ℕ) → Some (lesser x o) ≡ one_of min (Some x) o
    at None = refl
    at (Some y) = refl

entries_totals-cons : (w d : ℕ) (e : RowKey × Row) (es : List (RowKey × Row)) → entries_totals w d (e ∷ es) ≡ both (row_totals w d e) (entries_totals w d es)
entries_totals-cons w d e es = same_totals (entries_totals w d (e ∷ es)) (both (row_totals w d e) (entries_totals w d es))
    (greatest-cons (district_order_pick w d e.0 e.1) (filter_map (λ e. district_order_pick w d e.0 e.1) es))
    (least-cons (new_pick w d e.0 e.1) (filter_map (λ e. new_pick w d e.0 e.1) es))
    (greatest-cons (new_pick w d e.0 e.1) (filter_map (λ e. new_pick w d e.0 e.1) es))
    refl refl refl

-- the totals so far and those of the rows left sum to the totals of all rows
abbrev pub AreTotalsBefore : List (RowKey × Row) → List Totals → Rows → Type 0
AreTotalsBefore left totals rows = (w d : ℕ) → IsBetween 1 100 w → IsBetween 1 10 d → both (totals_at totals w d) (entries_totals w d left) ≡ district_totals w d rows

district_totals-entries : (w d : ℕ) (rows : Rows) → entries_totals w d (entries rows) ≡ district_totals w d rows
unfolding picked total
district_totals-entries w d rows = refl

-- at the start all rows are left
pub none_added : (totals : List Totals) (left : List (RowKey × Row)) (rows : Rows) → totals ≡ replicate 1011 empty_totals → left ≡ entries rows → AreTotalsBefore left totals rows
none_added totals left rows empty all w d within within_ten =
    let here : totals_at totals w d ≡ empty_totals = ap (λ z. totals_at z w d) empty ∙ get_or-replicate 1011 (w * 10 + d) empty_totals empty_totals (omega arith) in
    ap (λ b. both b (entries_totals w d left)) here ∙ empty-both (entries_totals w d left) ∙ ap (entries_totals w d) all ∙ district_totals-entries w d rows

pub one_added : (totals new : List Totals) (e : RowKey × Row) (rest left : List (RowKey × Row)) (rows : Rows) → left ≡ e ∷ rest
    → ((w d : ℕ) → IsBetween 1 100 w → IsBetween 1 10 d → totals_at new w d ≡ both (totals_at totals w d) (row_totals w d e))
    → AreTotalsBefore left totals rows → AreTotalsBefore rest new rows
one_added totals new e rest left rows is added so_far w d within within_ten =
    ap (λ b. both b (entries_totals w d rest)) (added w d within within_ten)
    ∙ both-assoc (totals_at totals w d) (row_totals w d e) (entries_totals w d rest)
    ∙ ap (both (totals_at totals w d)) (sym (entries_totals-cons w d e rest))
    ∙ ap (λ es. both (totals_at totals w d) (entries_totals w d es)) (sym is)
    ∙ so_far w d within within_ten

-- no row is left, so the totals are those of all rows
pub all_added : (totals : List Totals) (left : List (RowKey × Row)) (rows : Rows) → left ≡ [] → AreTotalsBefore left totals rows → AreTotals totals rows
all_added totals left rows none so_far w d within within_ten =
    sym (both-empty (totals_at totals w d))
    ∙ ap (λ es. both (totals_at totals w d) (entries_totals w d es)) (sym none)
    ∙ so_far w d within within_ten

-- ---- the sums stay small
pub empty_small : (n : ℕ) (totals : List Totals) → totals ≡ replicate 1011 empty_totals → AreOfRows n totals
empty_small n totals empty w d within within_ten =
    rw (empty, get_or-replicate 1011 (w * 10 + d) empty_totals empty_totals (omega arith)) (record {
      new_orders = (omega (arith, ints), omega (arith, ints));
      promised_lines = (omega (arith, ints), omega (arith, ints));
      lines = (omega (arith, ints), omega (arith, ints));
    })

wider : (n : ℕ) (x y : ℤ) → IsWithin (n * 15) x → IsWithin (1 * 15) y → IsWithin ((n + 1) * 15) (x +ℤ y)
wider n x y h k = (omega (arith, ints), omega (arith, ints))

pub still_small : (n m : ℕ) (totals new : List Totals) (e : RowKey × Row) → m ≡ n + 1
    → ((w d : ℕ) → IsBetween 1 100 w → IsBetween 1 10 d → totals_at new w d ≡ both (totals_at totals w d) (row_totals w d e))
    → ((w d : ℕ) → IsOfRows 1 (row_totals w d e)) → AreOfRows n totals → AreOfRows m new
still_small n m totals new e more added small sums w d within within_ten =
    let one = small w d in
    let so_far = sums w d within within_ten in
    rw (more, added w d within within_ten) (record {
      new_orders = wider n _ _ so_far.new_orders one.new_orders;
      promised_lines = wider n _ _ so_far.promised_lines one.promised_lines;
      lines = wider n _ _ so_far.lines one.lines;
    })

longer : (n m : ℕ) (z : ℤ) → n ≤ m → IsWithin (n * 15) z → IsWithin (m * 15) z
longer n m z more h = (omega (arith, ints), omega (arith, ints))

pub small_enough : (n m : ℕ) (totals : List Totals) → n ≤ m → AreOfRows n totals → AreOfRows m totals
small_enough n m totals more sums w d within within_ten =
    let so_far = sums w d within within_ten in
    record {
      new_orders = longer n m _ more so_far.new_orders;
      promised_lines = longer n m _ more so_far.promised_lines;
      lines = longer n m _ more so_far.lines;
    }
