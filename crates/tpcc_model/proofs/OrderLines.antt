-- In a sound database an order has the lines 1 to O_OL_CNT, and no others: each line has its order, so the lines of a
-- district are at most as many as its orders promise, and where one is missing they are fewer.
use Rattle.std.proofs.Common.{◌≡◌, ◌≤◌, ℕ, zero, suc, pos, ◌+ℤ◌, ◌≤ℤ◌, ◌==◌, ◌&&◌, Bool, true, false, cond, List, [], ◌∷◌, Option, Some, None, IsSome, inl, inr, refl, sym, ap, subst, subst₂, ◌∙◌, arith}
use Rattle.std.proofs.lemmas.Int.{ints}
use Rattle.std.proofs.lemmas.Bool.{cases_Bool, cases_eq}
use Rattle.std.proofs.lemmas.Bool.Decides.{nat_tests}
use Rattle.std.specs.FinMap.{entries, find, get, get-entries, insert, remove}
use Rattle.tpcc_rows.specs.Limits.{IsBetween}
use Rattle.tpcc_rows.specs.RowMap.{Rows, row_key_cmp}
use Rattle.tpcc_rows.specs.Totals.{share_at, sum_entries, total}
use Rattle.tpcc_rows.specs.declared.key.RowKey.{RowKey}
use Rattle.tpcc_rows.specs.declared.key.RowKey.TheVariants as key
use Rattle.tpcc_rows.specs.declared.row.Row.{Row}
use Rattle.tpcc_rows.specs.declared.row.Row.TheVariants as row
use Rattle.tpcc_rows.specs.declared.row.OrderRow.{OrderRow}
use Rattle.tpcc_rows.specs.declared.row.OrderLineRow.{OrderLineRow}
use Rattle.tpcc_rows.proofs.Keys.{row_key_cmp_total, exact_keys}
use Rattle.tpcc_rows.proofs.Singles.{apart, entry_left, entry_of, found_first, gone}
use Rattle.tpcc_rows.proofs.Totals.{total-new, total-remove, total-zero}
use Rattle.tpcc_model.specs.Conditions.{line_share, promised_share}
use Rattle.tpcc_model.specs.Database.{Database}
use Rattle.tpcc_model.specs.Laws.{HasLine, LinesAreCounted}
use Rattle.tpcc_model.specs.Soundness.{IsEntry, IsSound}

one_at_most : (b : Bool) → cond b (pos 1) (pos 0) ≤ℤ pos 1
one_at_most true = omega (arith, ints)
one_at_most false = omega (arith, ints)

module _ (w d : ℕ) where
  -- ---- the rows without the lines that are promised
  -- without the order's lines 1 to n
  abbrev without_lines : Rows → ℕ → ℕ → Rows
  without_lines m o zero = m
  without_lines m o (suc n) = remove (without_lines m o n) (key.OrderLine w d o (suc n))

  -- without the lines of the entry, where it is an order of the district
  abbrev without_promised : Rows → RowKey → Row → Rows
  without_promised m (key.Order v e o) (row.Order r) = cond (v == w && e == d) (without_lines m o r.line_count) m
  without_promised m _ _ = m

  abbrev without_all : Rows → List (RowKey × Row) → Rows
  without_all m [] = m
  without_all m (e ∷ es) = without_promised (without_all m es) e.0 e.1

  -- ---- they are fewer by at most as many as are promised
  counts_once : (o n : ℕ) (x : Option Row) → share_at (line_share w d (key.OrderLine w d o n)) x ≤ℤ pos 1
  counts_once o n None = omega (arith, ints)
  counts_once o n (Some (row.OrderLine r)) = one_at_most (w == w && d == d)
  counts_once o n (Some _) = omega (arith, ints)

  few_lines : (m : Rows) (o n : ℕ) → total (line_share w d) m ≤ℤ (total (line_share w d) (without_lines m o n) +ℤ pos n)
  few_lines m o zero = omega (arith, ints)
  few_lines m o (suc n) =
      let left = without_lines m o n in
      let k = key.OrderLine w d o (suc n) in
      let so_far = few_lines m o n in
      let once = counts_once o (suc n) (get left k) in
      let less = total-remove (line_share w d) left k in
      omega (arith, ints, so_far, once, less)

  few_promised : (m : Rows) (k : RowKey) (x : Row) → total (line_share w d) m ≤ℤ (total (line_share w d) (without_promised m k x) +ℤ promised_share w d k x)
  few_promised m (key.Order v e o) (row.Order r) = at (v == w && e == d)
    where
      at : (b : Bool) → total (line_share w d) m ≤ℤ (total (line_share w d) (cond b (without_lines m o r.line_count) m) +ℤ cond b (pos r.line_count) (pos 0))
      at true = few_lines m o r.line_count
      at false = omega (arith, ints)
  few_promised m _ _ = omega (arith, ints)

  few_all : (m : Rows) (es : List (RowKey × Row)) → total (line_share w d) m ≤ℤ (total (line_share w d) (without_all m es) +ℤ sum_entries (promised_share w d) es)
  few_all m [] = omega (arith, ints)
  few_all m (e ∷ es) =
      let so_far = few_all m es in
      let more = few_promised (without_all m es) e.0 e.1 in
      omega (arith, ints, so_far, more)

  -- ---- what is left was there
  left_lines : (m : Rows) (o n : ℕ) (q : RowKey) (y : Row) → get (without_lines m o n) q ≡ Some y → get m q ≡ Some y
  left_lines m o zero q y h = h
  left_lines m o (suc n) q y h = left_lines m o n q y (entry_left row_key_cmp_total exact_keys (without_lines m o n) (key.OrderLine w d o (suc n)) q y h)

  left_promised : (m : Rows) (k : RowKey) (x : Row) (q : RowKey) (y : Row) → get (without_promised m k x) q ≡ Some y → get m q ≡ Some y
  left_promised m (key.Order v e o) (row.Order r) q y h = at (v == w && e == d) h
    where
      at : (b : Bool) → get (cond b (without_lines m o r.line_count) m) q ≡ Some y → get m q ≡ Some y
      at true there = left_lines m o r.line_count q y there
      at false there = there
  left_promised m _ _ q y h = h

  left_all : (m : Rows) (es : List (RowKey × Row)) (q : RowKey) (y : Row) → get (without_all m es) q ≡ Some y → get m q ≡ Some y
  left_all m [] q y h = h
  left_all m (e ∷ es) q y h = left_all m es q y (left_promised (without_all m es) e.0 e.1 q y h)

  -- ---- the lines that are promised aren't left
  no_line : (m : Rows) (o n k : ℕ) (y : Row) → 1 ≤ k → k ≤ n → get (without_lines m o n) (key.OrderLine w d o k) ≡ Some y → ⊥
  no_line m o zero k y from to h = omega arith
  no_line m o (suc n) k y from to h = elim (cases_eq k (suc n)) [
    | inl e ↦
        let last : get (without_lines m o (suc n)) (key.OrderLine w d o (suc n)) ≡ Some y = subst (λ z. get (without_lines m o (suc n)) (key.OrderLine w d o z) ≡ Some y) e h in
        let none : None ≡ Some y = sym (gone row_key_cmp_total exact_keys (without_lines m o n) (key.OrderLine w d o (suc n))) ∙ last in
        cc
    | inr ne ↦ no_line m o n k y from (omega arith) (entry_left row_key_cmp_total exact_keys (without_lines m o n) (key.OrderLine w d o (suc n)) (key.OrderLine w d o k) y h)
  ]

  no_line_of : (m : Rows) (o k : ℕ) (r : OrderRow) (y : Row) → 1 ≤ k → k ≤ r.line_count → get (without_promised m (key.Order w d o) (row.Order r)) (key.OrderLine w d o k) ≡ Some y → ⊥
  no_line_of m o k r y from to h =
      let here : (w == w && d == d) ≡ true = grind (arith, nat_tests) in
      no_line m o r.line_count k y from to (subst (λ b. get (cond b (without_lines m o r.line_count) m) (key.OrderLine w d o k) ≡ Some y) here h)

  no_line_left : (m : Rows) (es : List (RowKey × Row)) (o k : ℕ) (r : OrderRow) (y : Row) → find row_key_cmp (key.Order w d o) es ≡ Some (row.Order r) → 1 ≤ k → k ≤ r.line_count → get (without_all m es) (key.OrderLine w d o k) ≡ Some y → ⊥
  no_line_left m [] o k r y found from to h = cc
  no_line_left m (e ∷ es) o k r y found from to h = elim (found_first row_key_cmp_total exact_keys e es (key.Order w d o) (row.Order r) found) [
    | inl same ↦ no_line_of (without_all m es) o k r y from to (subst₂ (λ (q : RowKey) (x : Row). get (without_promised (without_all m es) q x) (key.OrderLine w d o k) ≡ Some y) (sym same.0) (sym same.1) h)
    | inr later ↦ no_line_left m es o k r y later from to (left_promised (without_all m es) e.0 e.1 (key.OrderLine w d o k) y h)
  ]

  none_left : (m : Rows) (o k : ℕ) (r : OrderRow) (y : Row) → get m (key.Order w d o) ≡ Some (row.Order r) → 1 ≤ k → k ≤ r.line_count → get (without_all m (entries m)) (key.OrderLine w d o k) ≡ Some y → ⊥
  none_left m o k r y has from to h = no_line_left m (entries m) o k r y (sym (get-entries m (key.Order w d o)) ∙ has) from to h

  -- ---- lines that have their orders
  abbrev HaveOrders : Rows → Type 0
  HaveOrders m = (o n : ℕ) (x : Row) → get m (key.OrderLine w d o n) ≡ Some x → (order : OrderRow) × (get m (key.Order w d o) ≡ Some (row.Order order)) × (1 ≤ n) × (n ≤ order.line_count)

  none_shared : (m : Rows) → HaveOrders m → (k : RowKey) (x : Row) → get (without_all m (entries m)) k ≡ Some x → line_share w d k x ≡ pos 0
  none_shared m have (key.OrderLine v e o n) (row.OrderLine r) h = elim (cases_Bool (v == w && e == d)) [
    | inl t ↦
        let a : v ≡ w = grind (arith, nat_tests) in
        let b : e ≡ d = grind (arith, nat_tests) in
        let s : key.OrderLine v e o n ≡ key.OrderLine w d o n = cc in
        let there : get (without_all m (entries m)) (key.OrderLine w d o n) ≡ Some (row.OrderLine r) = ap (get (without_all m (entries m))) (sym s) ∙ h in
        let its = have o n (row.OrderLine r) (left_all m (entries m) (key.OrderLine w d o n) (row.OrderLine r) there) in
        absurd (none_left m o n its.0 (row.OrderLine r) its.1 its.2 its.3 there)
    | inr f ↦ ap (λ b. cond b (pos 1) (pos 0)) f
  ]
  none_shared m have _ _ h = refl

  promised_entries : (m : Rows) → total (promised_share w d) m ≡ sum_entries (promised_share w d) (entries m)
  unfolding total
  promised_entries m = refl

  -- they are at most as many as are promised
  within_promised : (m : Rows) → HaveOrders m → total (line_share w d) m ≤ℤ total (promised_share w d) m
  within_promised m have =
      let few = few_all m (entries m) in
      let none = total-zero (line_share w d) (without_all m (entries m)) (none_shared m have) in
      let promised = promised_entries m in
      omega (arith, ints, few, none, promised)

-- ---- a sound database
some_line : OrderLineRow
some_line = record { item = 1; supply = 1; delivery = None; quantity = 0; amount = 0; district_info = [] }

module _ (db : Database) (sound : IsSound db) (w d : ℕ) where
  have_orders : HaveOrders w d db.rows
  have_orders o n x h = at x (sound.entries (key.OrderLine w d o n) x h)
    where
      at : (y : Row) → IsEntry db.cards db.rows (key.OrderLine w d o n) y → (order : OrderRow) × (get db.rows (key.Order w d o) ≡ Some (row.Order order)) × (1 ≤ n) × (n ≤ order.line_count)
      at (row.OrderLine r) i = (i.order, i.has_order, i.number.0, i.number.1)
      at _ i = absurd i

  has_line : (o n : ℕ) (x : Row) → get db.rows (key.OrderLine w d o n) ≡ Some x → HasLine db.rows w d o n
  has_line o n x h = at x h (sound.entries (key.OrderLine w d o n) x h)
    where
      at : (y : Row) → get db.rows (key.OrderLine w d o n) ≡ Some y → IsEntry db.cards db.rows (key.OrderLine w d o n) y → HasLine db.rows w d o n
      at (row.OrderLine r) is i = (r, is)
      at _ is i = absurd i

  -- condition 4 of an order's district
  as_many : (o : ℕ) (order : OrderRow) → get db.rows (key.Order w d o) ≡ Some (row.Order order) → total (promised_share w d) db.rows ≡ total (line_share w d) db.rows
  as_many o order has = there (get db.rows (key.DistrictNext w d)) refl (sound.there (key.DistrictNext w d) (sound.entries (key.Order w d o) (row.Order order) has).district)
    where
      at : (y : Row) → get db.rows (key.DistrictNext w d) ≡ Some y → IsEntry db.cards db.rows (key.DistrictNext w d) y → total (promised_share w d) db.rows ≡ total (line_share w d) db.rows
      at (row.DistrictNext r) is i = (sound.districts w d r is).lines
      at _ is i = absurd i

      there : (x : Option Row) → get db.rows (key.DistrictNext w d) ≡ x → IsSome x → total (promised_share w d) db.rows ≡ total (line_share w d) db.rows
      there None is some = cc
      there (Some y) is some = at y is (sound.entries (key.DistrictNext w d) y is)

  module _ (o n : ℕ) (order : OrderRow) (has : get db.rows (key.Order w d o) ≡ Some (row.Order order)) (from : 1 ≤ n) (to : n ≤ order.line_count) where
    abbrev with_one_more : Rows
    with_one_more = insert db.rows (key.OrderLine w d o n) (row.OrderLine some_line)

    kept : (p : ℕ) → get with_one_more (key.Order w d p) ≡ get db.rows (key.Order w d p)
    kept p = apart row_key_cmp_total exact_keys db.rows (key.OrderLine w d o n) (row.OrderLine some_line) (key.Order w d p) (λ e. cc)

    still_have : HaveOrders w d with_one_more
    still_have p q x h = elim (entry_of row_key_cmp_total exact_keys db.rows (key.OrderLine w d o n) (row.OrderLine some_line) (key.OrderLine w d p q) x h) [
      | inl same ↦
          let a : o ≡ p = cc in
          let b : n ≡ q = cc in
          (order, kept p ∙ subst (λ z. get db.rows (key.Order w d z) ≡ Some (row.Order order)) a has, omega arith, omega arith)
      | inr there ↦ (let its = have_orders p q x there in (its.0, kept p ∙ its.1, its.2, its.3))
    ]

    -- with one line more the lines were more than are promised
    not_missing : get db.rows (key.OrderLine w d o n) ≡ None → ⊥
    not_missing none =
        let here : (w == w && d == d) ≡ true = grind (arith, nat_tests) in
        let one : line_share w d (key.OrderLine w d o n) (row.OrderLine some_line) ≡ pos 1 = ap (λ b. cond b (pos 1) (pos 0)) here in
        let lines = total-new db.rows (key.OrderLine w d o n) (line_share w d) (row.OrderLine some_line) none in
        let promised : total (promised_share w d) with_one_more ≡ total (promised_share w d) db.rows +ℤ pos 0 = total-new db.rows (key.OrderLine w d o n) (promised_share w d) (row.OrderLine some_line) none in
        let equal = as_many o order has in
        let most = within_promised w d with_one_more still_have in
        omega (arith, ints, one, lines, promised, equal, most)

    is_there : HasLine db.rows w d o n
    is_there = at (get db.rows (key.OrderLine w d o n)) refl
      where
        at : (x : Option Row) → get db.rows (key.OrderLine w d o n) ≡ x → HasLine db.rows w d o n
        at None none = absurd (not_missing none)
        at (Some y) is = has_line o n y is

pub lines_are_counted : LinesAreCounted
lines_are_counted db w d o n order sound has = (
  λ line. (
      let its = have_orders db sound w d o n (row.OrderLine line.0) line.1 in
      let same : its.0 ≡ order = (let both : Some (row.Order its.0) ≡ Some (row.Order order) = sym its.1 ∙ has in cc) in
      subst (λ (r : OrderRow). IsBetween 1 r.line_count n) same (its.2, its.3)),
  λ within. is_there db sound w d o n order has within.0 within.1,
)
