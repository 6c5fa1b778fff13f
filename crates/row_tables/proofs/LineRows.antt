-- The lines of an order in the table of their district.
use Rattle.std.proofs.Common.{◌≡◌, ◌<◌, ◌+◌, ◌*◌, ◌^◌, ◌++◌, ℕ, length, get_or, List, [], ◌∷◌, Option, Some, None, inl, inr, refl, sym, ap, ◌∙◌, arith}
use Rattle.std.proofs.lemmas.Bool.{cases_lt}
use Rattle.std.proofs.lemmas.List.{get_or_append_left, get_or_push}
use Rattle.std.specs.FinMap.{get}
use Rattle.std.specs.Prelude.{option_and_then, option_map}
use Rattle.tables.specs.ByRank.{ByRank}
use Rattle.tables.specs.Shelves.{place_of}
use Rattle.tpcc_rows.specs.Ranks.{IsNumbered, rank}
use Rattle.tpcc_rows.specs.RowKinds.{as_order_line}
use Rattle.tpcc_rows.specs.RowMap.{Rows}
use Rattle.tpcc_rows.specs.Rows.{order_line_row}
use Rattle.tpcc_rows.specs.declared.key.RowKey.TheVariants as key
use Rattle.tpcc_rows.specs.declared.row.OrderLineRow.{OrderLineRow}
use Rattle.tpcc_rows.specs.declared.row.Row.TheVariants as row
use Rattle.row_tables.specs.Kinds.{table_of}
use Rattle.row_tables.specs.OrderLines.{AreFirstLines}
use Rattle.row_tables.specs.RankRows.{RankRows}
use Rattle.row_tables.specs.Stored.{AreKept, keyed}
use Rattle.row_tables.proofs.Keyed.{row-at, table-at}
use Rattle.row_tables.proofs.NewNumbers.{place-of}

-- a row of a line, as one of any kind and back
line-back : (o : Option OrderLineRow) → o ≡ option_and_then as_order_line (option_map (λ r. row.OrderLine r) o)
line-back None = refl
line-back (Some x) = refl

place-line : (w d o n : ℕ) → IsNumbered (key.OrderLine w d o n) → place_of (rank (key.OrderLine w d o n)) ≡ w * 16 + d
place-line w d o n h = let a = h.0.1 in let b = h.1.1 in let c = h.2.1 in let l = h.3.1 in place-of 7 w d o n (omega (arith, a)) (omega (arith, b)) (omega (arith, c)) (omega (arith, l))

-- what the rank has in the table of the order's first line, the line has
pub line-found : (m : RankRows) → AreKept m → (w d o first_number number first r : ℕ) → IsNumbered (key.OrderLine w d o first_number) → first ≡ rank (key.OrderLine w d o first_number)
    → IsNumbered (key.OrderLine w d o number) → r ≡ rank (key.OrderLine w d o number) → (t : ByRank OrderLineRow)
    → ((q : ℕ) → place_of q ≡ place_of first → table_of q ≡ 5 → option_map (λ x. row.OrderLine x) (get t q) ≡ get m q)
    → get t r ≡ order_line_row (keyed m) w d o number
line-found m kept w d o first_number number first r first_limits is_first limits is t there =
    let near : place_of r ≡ place_of first =
    ap (λ q. place_of q) is ∙ place-line w d o number limits ∙ sym (ap (λ q. place_of q) is_first ∙ place-line w d o first_number first_limits) in
    line-back (get t r)
    ∙ ap (option_and_then as_order_line) (there r near (table-at m kept (key.OrderLine w d o number) limits r is) ∙ row-at m kept (key.OrderLine w d o number) limits r is)

-- the line at a place, counted from 0, is one, and has the rank that is so much above the first one's
module _ (w d o n first place : ℕ) (one : n ≡ 1) (limits : IsNumbered (key.OrderLine w d o n)) (is : first ≡ rank (key.OrderLine w d o n)) (below : place < 15) where
  pub line-numbered : IsNumbered (key.OrderLine w d o (place + 1))
  line-numbered = (limits.0, limits.1, limits.2, (omega arith, omega (arith, below)))

  pub line-rank : first + place ≡ rank (key.OrderLine w d o (place + 1))
  line-rank = omega (arith, one, is)

  pub line-small : first + place < 2 ^ 64
  line-small = let a = limits.0.1 in let b = limits.1.1 in let c = limits.2.1 in omega (arith, one, is, below, a, b, c)

-- one line more
pub line-more : (rows : Rows) (w d o n : ℕ) (lines after : List (Option OrderLineRow)) (line : Option OrderLineRow) → length lines ≡ n → AreFirstLines rows w d o n lines
    → line ≡ order_line_row rows w d o (n + 1) → after ≡ lines ++ line ∷ [] → AreFirstLines rows w d o (n + 1) after
line-more rows w d o n lines after line long before here is k below = ap (λ xs. get_or xs k None) is ∙ elim (cases_lt k n) [
  | inl earlier ↦ get_or_append_left lines (line ∷ []) None k (omega (arith, earlier, long)) ∙ before k earlier
  | inr last ↦
      let same : k ≡ n = omega (arith, below, last) in
      get_or_push lines line None k (long ∙ sym same) ∙ here ∙ ap (λ q. order_line_row rows w d o (q + 1)) (sym same)
]
