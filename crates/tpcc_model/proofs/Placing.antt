-- Changes of placed keys.
use Rattle.std.proofs.Common.{◌≡◌, ℕ, List, Option, Some, None, inl, inr, sym, subst, ◌∙◌}
use Rattle.std.specs.FinMap.{empty, insert, get-empty}
use Rattle.serializability.specs.Footprints.{Has}
use Rattle.tpcc_rows.specs.Granules.{granule}
use Rattle.tpcc_rows.specs.RowMap.{Changes, row_key_cmp}
use Rattle.tpcc_rows.specs.declared.granule.Granule.{Granule}
use Rattle.tpcc_rows.specs.declared.key.RowKey.{RowKey}
use Rattle.tpcc_rows.specs.declared.row.Row.{Row}
use Rattle.tpcc_rows.proofs.Keys.{row_key_cmp_total, exact_keys}
use Rattle.tpcc_rows.proofs.Singles.{entry_of}
use Rattle.tpcc_model.specs.Touches.{ArePlaced, IsPlaced}

module _ (number : ℕ) (gs : List Granule) where
  pub placed-none : ArePlaced number gs empty
  placed-none k new h = (let no : None ≡ Some new = sym (get-empty row_key_cmp k) ∙ h in cc)

  pub placed-insert : (changes : Changes) (k : RowKey) (new : Option Row) → IsPlaced number gs k → ArePlaced number gs changes → ArePlaced number gs (insert changes k new)
  placed-insert changes k new is placed q x h = elim (entry_of row_key_cmp_total exact_keys changes k new q x h) [
    | inl same ↦ subst (IsPlaced number gs) (sym same.0) is
    | inr before ↦ placed q x before
  ]

  -- a key of a granule in the list
  pub in_granule : (k : RowKey) (g : Granule) → granule k ≡ Some g → Has gs g → IsPlaced number gs k
  in_granule k g is h = inr (g, is, h)
