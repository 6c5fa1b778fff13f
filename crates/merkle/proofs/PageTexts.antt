-- The text of a page, slot by slot.
use Rattle.std.proofs.Common.{◌≡◌, ℕ, ◌+◌, ◌<◌, ◌≤◌, List, ◌∷◌, ◌++◌, drop, get_or, length, Option, Some, None, sym, ap, ◌∙◌, append_assoc, append-nil}
use Rattle.std.proofs.lemmas.List.{at_drop_more, drop_all}
use Rattle.row_store.specs.Slots.{filled}
use Rattle.tpcc_rows.specs.Encodings.{row_bytes, rows_bytes}
use Rattle.tpcc_rows.specs.declared.key.RowKey.{RowKey}
use Rattle.tpcc_rows.specs.declared.row.Row.{Row}

-- the bytes of the rows from a slot on
abbrev pub bytes_from : List (Option (RowKey × Row)) → ℕ → List ℕ
bytes_from ss i = rows_bytes (filled (drop i ss))

module _ (ss : List (Option (RowKey × Row))) (i : ℕ) where
  -- a slot begins them
  next : (slot : Option (RowKey × Row)) → i < length ss → slot ≡ get_or ss i None → bytes_from ss i ≡ rows_bytes (filled (slot ∷ drop (i + 1) ss))
  next slot small is = at_drop_more (λ rest. rows_bytes (filled rest)) ss i None small ∙ ap (λ first. rows_bytes (filled (first ∷ drop (i + 1) ss))) (sym is)

  module _ (text whole : List ℕ) (before : text ++ bytes_from ss i ≡ whole) where
    -- an empty slot has no bytes
    pub none_more : i < length ss → None ≡ get_or ss i None → text ++ bytes_from ss (i + 1) ≡ whole
    none_more small is = ap (λ rest. text ++ rest) (sym (next None small is)) ∙ before

    pub some_more : (key : RowKey) (row : Row) → i < length ss → Some (key, row) ≡ get_or ss i None → (text ++ row_bytes key row) ++ bytes_from ss (i + 1) ≡ whole
    some_more key row small is = append_assoc text (row_bytes key row) (bytes_from ss (i + 1)) ∙ ap (λ rest. text ++ rest) (sym (next (Some (key, row)) small is)) ∙ before

    -- behind the last slot there are none
    pub none_left : length ss ≤ i → text ≡ whole
    none_left all = sym (append-nil text) ∙ ap (λ rest. text ++ rows_bytes (filled rest)) (sym (drop_all i ss all)) ∙ before
