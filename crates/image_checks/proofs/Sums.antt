-- The sums of each warehouse's districts, row by row.
use Rattle.std.proofs.Common.{◌≡◌, ℕ, zero, suc, add-one, ◌*◌, ◌+◌, ◌-◌, ◌<◌, ◌^◌, ℤ, pos, ◌+ℤ◌, ◌-ℤ◌, ◌≤ℤ◌, cond, true, false, ◌==◌, List, [], ◌∷◌, length, get_or, refl, sym, ap, ◌∙◌, arith}
use Rattle.std.proofs.lemmas.Int.{ints}
use Rattle.std.proofs.Math.ListN.{replicate}
use Rattle.std.specs.FinMap.{entries}
use Rattle.tpcc_model.specs.Conditions.{district_share}
use Rattle.tpcc_rows.specs.Limits.{IsCents}
use Rattle.tpcc_rows.specs.RowMap.{Rows}
use Rattle.tpcc_rows.specs.Totals.{sum_entries, total}
use Rattle.tpcc_rows.specs.declared.key.RowKey.{RowKey}
use Rattle.tpcc_rows.specs.declared.row.Row.{Row}
use Rattle.image_checks.specs.Checks.{AreSums, AreSumsBefore, AreWithin}

pub near_share : (v w : ℕ) (z : ℤ) → IsCents z → IsCents (cond (v == w) z (pos 0))
near_share v w z h = elim (v == w) as (λ b. IsCents (cond b z (pos 0))) [
  | true ↦ h
  | false ↦ (omega (arith, ints), omega (arith, ints))
]

-- one more amount keeps a sum within limits
nearer : (m n : ℕ) (old new z : ℤ) → n ≡ m + 1 → IsCents z → new ≡ old +ℤ z → (pos 0 -ℤ pos (m * 1000000000000000)) ≤ℤ old → old ≤ℤ pos (m * 1000000000000000)
    → ((pos 0 -ℤ pos (n * 1000000000000000)) ≤ℤ new) × (new ≤ℤ pos (n * 1000000000000000))
nearer m n old new z e h is low high =
    let least = h.0 in
    let most = h.1 in
    (omega (arith, ints, least, most), omega (arith, ints, least, most))

get_or-zeros : (n w : ℕ) → get_or (replicate n (pos 0)) w (pos 0) ≡ pos 0
get_or-zeros zero w = refl
get_or-zeros (suc n) zero = refl
get_or-zeros (suc n) (suc w) = get_or-zeros n w

abbrev pub zeros : List ℤ
zeros = replicate 101 (pos 0)

pub zeros_within : (n : ℕ) → AreWithin n zeros
zeros_within n w below = rw (get_or-zeros 101 w) (omega (arith, ints), omega (arith, ints))

-- at the start all rows with a share are left
pub none_added : (left : List (RowKey × Row)) (rows : Rows) → ((w : ℕ) → sum_entries (district_share w) left ≡ sum_entries (district_share w) (entries rows)) → AreSumsBefore left zeros rows
unfolding total
none_added left rows e w below = let same = e w in rw (get_or-zeros 101 w) (omega (arith, ints, same))

pub one_added : (sums new : List ℤ) (e : RowKey × Row) (rest left : List (RowKey × Row)) (rows : Rows) → left ≡ e ∷ rest
    → ((w : ℕ) → w < 101 → get_or new w (pos 0) ≡ get_or sums w (pos 0) +ℤ district_share w e.0 e.1) → AreSumsBefore left sums rows → AreSumsBefore rest new rows
one_added sums new e rest left rows is add so_far w below =
    let more = add w below in
    let before = rw is at (so_far w below) in
    omega (arith, ints, more, before)

pub still_within : (sums new : List ℤ) (e : RowKey × Row) (rest left : List (RowKey × Row)) → left ≡ e ∷ rest → length left < 2 ^ 63
    → ((w : ℕ) → w < 101 → get_or new w (pos 0) ≡ get_or sums w (pos 0) +ℤ district_share w e.0 e.1)
    → ((w : ℕ) → w < 101 → IsCents (district_share w e.0 e.1)) → AreWithin (2 ^ 63 - length left) sums → AreWithin (2 ^ 63 - length rest) new
still_within sums new e rest left is room add near within w below =
    let fewer : length left ≡ length rest + 1 = ap length is ∙ sym (add-one (length rest)) in
    nearer (2 ^ 63 - length left) (2 ^ 63 - length rest) (get_or sums w (pos 0)) (get_or new w (pos 0)) (district_share w e.0 e.1)
    (omega (arith, room, fewer)) (near w below) (add w below) (within w below).0 (within w below).1

-- no row is left, so the sums are those of all rows
pub all_added : (sums : List ℤ) (left : List (RowKey × Row)) (rows : Rows) → left ≡ [] → AreSumsBefore left sums rows → AreSums sums rows
all_added sums left rows none so_far w below = let whole = rw none at (so_far w below) in omega (arith, ints, whole)
