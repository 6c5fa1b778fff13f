-- A row put in the place of its key's, or given back.
use Rattle.std.proofs.Common.{◌≡◌, Bool, true, false, cond, is_none, is_some, [], ◌∷◌, Option, Some, None, sym, ap, ◌∙◌}
use Rattle.std.specs.FinMap as map
use Rattle.std.specs.Option.{option_map}
use Rattle.tpcc_rows.specs.declared.key.RowKey.{RowKey}
use Rattle.tpcc_rows.specs.declared.row.Row.{Row}
use Rattle.tpcc_rows.specs.RowMap.{Rows}
use Rattle.pointed_tables.specs.Logs.{IsReplaced, IsSwapped, LeadBack}
use Rattle.pointed_tables.proofs.Undoing.{back-put}

module _ (k : RowKey) (x y : Row) (m m2 : Rows) where
  -- the two have changed places
  pub replaced-swapped : (b : Bool) → b ≡ true → IsSwapped k x y b m m2 → IsReplaced k x None m m2
  replaced-swapped b e h = (ap is_some (h.was e), h.made ∙ ap (λ c. cond c (map.insert m k x) m) e)

  -- neither has
  pub replaced-kept : (b : Bool) → b ≡ false → IsSwapped k x y b m m2 → IsReplaced k x (Some y) m m2
  replaced-kept b e h = (h.kept e, h.made ∙ ap (λ c. cond c (map.insert m k x) m) e)

  pub back-swapped : (b : Bool) → b ≡ true → IsSwapped k x y b m m2 → LeadBack ((k, Some y) ∷ []) 0 m m2
  back-swapped b e h = back-put m m2 k x (Some y) (sym (h.was e)) h.fit (h.made ∙ ap (λ c. cond c (map.insert m k x) m) e)

module _ {A : Type 0} (f : A → Row) (k : RowKey) (x : Row) (m m2 : Rows) where
  pub put-in-place : (back : Option A) → is_none back ≡ true → IsReplaced k x (option_map f back) m m2 → m2 ≡ map.insert m k x
  put-in-place None e h = h.1
  put-in-place (Some y) e h = cc

  pub came-back : (back : Option A) → is_none back ≡ false → IsReplaced k x (option_map f back) m m2 → m2 ≡ m
  came-back None e h = cc
  came-back (Some y) e h = h.1
