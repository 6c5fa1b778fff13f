-- Rows of a leaf, and keys on different leaves.
use Rattle.std.proofs.Common.{◌≡◌, ℕ, eqb, true, false, cond, None, refl, sym, ap}
use Rattle.std.proofs.lemmas.Bool.{eqb-false}
use Rattle.std.specs.FinMap.{get, get-retain_keys}
use Rattle.std.specs.Ordering.{eq_by_cmp}
use Rattle.tpcc_rows.specs.declared.key.RowKey.{RowKey}
use Rattle.tpcc_rows.specs.RowMap.{Rows, row_key_cmp}
use Rattle.tpcc_rows.specs.Leaves.{leaf, page_rows}
use Rattle.tpcc_rows.proofs.Keys.{exact_keys}
use Rattle.tpcc_rows.proofs.Singles.{tied}

pub get-page_rows : (rows : Rows) (n : ℕ) (q : RowKey) → get (page_rows rows n) q ≡ cond (eqb (leaf q) n) (get rows q) None
unfolding page_rows
get-page_rows rows n q = get-retain_keys rows (λ k. eqb (leaf k) n) q (λ x t. ap (λ k. eqb (leaf k) n) (sym (exact_keys q x t)))

-- on another leaf no key ties
pub other_leaf : (q k : RowKey) → eqb (leaf q) (leaf k) ≡ false → eq_by_cmp row_key_cmp q k ≡ false
other_leaf q k e = elim (eq_by_cmp row_key_cmp q k) as (λ b. eq_by_cmp row_key_cmp q k ≡ b → b ≡ false) [
  | true ↦ λ t. absurd (eqb-false (leaf q) (leaf k) e (ap leaf (exact_keys q k (tied _ t))))
  | false ↦ λ t. refl
] refl
