-- What the rows that a view lends have in common with all of its rows.
use Rattle.std.proofs.Common.{◌≡◌, ◌+◌, ℕ, true, false, cond, get_or, List, [], ◌∷◌, None, inl, inr, refl, sym, ap, ◌∙◌}
use Rattle.std.proofs.lemmas.Bool.{cond-true, cond-false}
use Rattle.std.specs.FinMap.{get, get-retain_keys}
use Rattle.std.specs.Prelude.{option_and_then}
use Rattle.row_tables.specs.OrderLines.{AreOrderLines, lines_of}
use Rattle.row_tables.specs.declared.order_lines.OrderLines.{OrderLines}
use Rattle.serializability.specs.Footprints.{Has}
use Rattle.tpcc_rows.specs.Picks.{latest, oldest}
use Rattle.tpcc_rows.specs.declared.granule.Granule.{Granule}
use Rattle.tpcc_rows.specs.declared.granule.Granule.TheVariants as part
use Rattle.tpcc_rows.specs.RowKinds.{as_order_line}
use Rattle.tpcc_rows.specs.declared.key.RowKey.{RowKey}
use Rattle.tpcc_rows.specs.declared.key.RowKey.TheVariants as key
use Rattle.tpcc_rows.proofs.Keys.{exact_keys}
use Rattle.tpcc_model.proofs.Agreeing.{same_latest, same_oldest}
use Rattle.tpcc_model.specs.Touches.{Agree}
use Rattle.worker_rows.specs.Views.{View, may_read, readable, readable_at}
use Rattle.transactions.specs.Lending.{lent}

-- ---- rows
pub get-lent : (view : View) (k : RowKey) → get (lent view) k ≡ cond (readable view k) (get view.rows k) None
unfolding lent
get-lent view k = get-retain_keys view.rows (readable view) k (λ x e. ap (readable view) (sym (exact_keys k x e)))

pub lent_row : (view : View) (k : RowKey) → readable view k ≡ true → get (lent view) k ≡ get view.rows k
lent_row view k read = get-lent view k ∙ cond-true (readable view k) (get view.rows k) None read

pub no_row_lent : (view : View) (k : RowKey) → readable view k ≡ false → get (lent view) k ≡ None
no_row_lent view k strays = get-lent view k ∙ cond-false (readable view k) (get view.rows k) None strays

-- where each granule of a list may be read, the rows agree there
pub lent_agree : (view : View) (gs : List Granule) → ((g : Granule) → Has gs g → may_read view g ≡ true) → Agree (lent view) view.rows gs
lent_agree view gs read k g at has = lent_row view k (ap (readable_at view) at ∙ read g has)

module _ (view : View) (w d : ℕ) (read : may_read view (part.Book w d) ≡ true) where
  book_agrees : Agree (lent view) view.rows (part.Book w d ∷ [])
  book_agrees = lent_agree view (part.Book w d ∷ []) at
    where
      at : (g : Granule) → Has (part.Book w d ∷ []) g → may_read view g ≡ true
      at g (inl e) = sym (ap (may_read view) e) ∙ read
      at g (inr none) = absurd none

  pub lent_oldest : oldest view.rows w d ≡ oldest (lent view) w d
  lent_oldest = same_oldest (lent view) view.rows (part.Book w d ∷ []) book_agrees w d (inl refl)

  pub lent_latest : (c : ℕ) → latest view.rows w d c ≡ latest (lent view) w d c
  lent_latest = same_latest (lent view) view.rows (part.Book w d ∷ []) book_agrees w d (inl refl)

  -- the lines of an order of the book
  pub lent_lines : (o : ℕ) (lines : OrderLines) → AreOrderLines view.rows w d o lines → AreOrderLines (lent view) w d o lines
  lent_lines o lines are k below = are k below ∙ sym (ap (option_and_then as_order_line) (lent_row view (key.OrderLine w d o (k + 1)) read))

-- where the book may not be read, no order has lines
pub no_lines_lent : (view : View) (w d o : ℕ) → may_read view (part.Book w d) ≡ false → (lines : OrderLines) → lines_of lines ≡ [] → AreOrderLines (lent view) w d o lines
no_lines_lent view w d o strays lines none k below =
    ap (λ xs. get_or xs k None) none ∙ sym (ap (option_and_then as_order_line) (no_row_lent view (key.OrderLine w d o (k + 1)) strays))
