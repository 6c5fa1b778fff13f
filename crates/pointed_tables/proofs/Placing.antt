-- Rows aside after a change.
use Rattle.std.proofs.Common.{◌≡◌, ◌<◌, ◌≤◌, ◌+◌, ◌-◌, ℕ, true, false, cond, is_some, List, [], ◌∷◌, length, Some, None, Ok, Err, inl, inr, ◌⊎◌, refl, sym, ap, subst, ◌∙◌, arith}
use Rattle.std.specs.FinMap.{get, insert, remove}
use Rattle.std.specs.List as list
use Rattle.std.proofs.lemmas.List.{length-set}
use Rattle.std.proofs.lemmas.List.Edits.{length-insert}
use Rattle.std.specs.List.{HoldsAt, slice_set}
use Rattle.tpcc_rows.specs.declared.key.RowKey.{RowKey}
use Rattle.tpcc_rows.specs.declared.row.Row.{Row}
use Rattle.tpcc_rows.specs.Places.{IsPlaceOf, are_in_order}
use Rattle.tpcc_rows.specs.RowMap.{Rows, row_key_cmp}
use Rattle.tpcc_rows.proofs.Keys.{row_key_cmp_total, exact_keys}
use Rattle.tpcc_rows.proofs.Places.{got, got-none, in_order-inserted, in_order-removed, in_order-set, map_of, map_of-inserted, map_of-removed, map_of-set, nothing-removed}
use Rattle.pointed_tables.specs.Aside.{IsHeld, Roomy}

abbrev pub rows_of : List (RowKey × Row) → Rows
rows_of es = map_of row_key_cmp es

-- what a map of rows with room shows
pub rows-are : (es : List (RowKey × Row)) (room : ℕ) (s : Roomy) → record { rows = rows_of es; room = room } ≡ s → rows_of es ≡ s.rows
rows-are es room s is = ap (λ (z : Roomy). z.rows) is

module _ (es : List (RowKey × Row)) (k : RowKey) (i n room : ℕ) (h : IsHeld es n room) (s : Roomy) (is : record { rows = rows_of es; room = room } ≡ s) where
  -- ---- where the key has a row
  module _ (there : IsPlaceOf row_key_cmp k es (Ok i)) where
    pub row-at : (x : Row) → HoldsAt (λ e. e.1 ≡ x) es i → Some x ≡ get s.rows k
    row-at x holds = sym (ap Some (holds (k, x))) ∙ sym (got row_key_cmp_total exact_keys es k i h.order there (k, x)) ∙ ap (λ (z : Roomy). get z.rows k) is

    pub some-here : (d : RowKey × Row) → is_some (get s.rows k) ≡ true
    some-here d = ap (λ (z : Roomy). is_some (get z.rows k)) (sym is) ∙ ap is_some (got row_key_cmp_total exact_keys es k i h.order there d)

    pub held-set : (es2 : List (RowKey × Row)) (n2 : ℕ) (x : Row) → es2 ≡ slice_set es i (k, x) → n2 ≡ n → IsHeld es2 n2 room
    held-set es2 n2 x e same = record {
      order = ap (are_in_order row_key_cmp) e ∙ in_order-set row_key_cmp_total exact_keys es k i h.order there x;
      enough = (
          let count : length es2 ≡ length es = ap length e ∙ length-set es i (k, x) in
          let enough = h.enough in
          omega (arith, count, enough, same)
          );
    }

    pub rows-set : (es2 : List (RowKey × Row)) (x : Row) → es2 ≡ slice_set es i (k, x) → rows_of es2 ≡ insert s.rows k x
    rows-set es2 x e = ap rows_of e ∙ map_of-set row_key_cmp_total exact_keys es k i h.order there x ∙ ap (λ (z : Roomy). insert z.rows k x) is

    pub held-removed : (es2 : List (RowKey × Row)) (n2 : ℕ) → es2 ≡ list.remove es i → n2 ≡ n → length es2 ≤ length es → IsHeld es2 n2 room
    held-removed es2 n2 e same fewer = record {
      order = ap (are_in_order row_key_cmp) e ∙ in_order-removed row_key_cmp_total exact_keys es k i h.order there;
      enough = (
          let enough = h.enough in
          omega (arith, enough, same, fewer)
          );
    }

    pub rows-removed : (es2 : List (RowKey × Row)) → es2 ≡ list.remove es i → rows_of es2 ≡ remove s.rows k
    rows-removed es2 e = ap rows_of e ∙ map_of-removed row_key_cmp_total exact_keys es k i h.order there ∙ ap (λ (z : Roomy). remove z.rows k) is

    pub room-set : (d : RowKey × Row) → room ≡ cond (is_some (get s.rows k)) s.room (s.room - 1)
    room-set d = ap (λ (z : Roomy). z.room) is ∙ sym (ap (λ b. cond b s.room (s.room - 1)) (some-here d))

  -- ---- where it has none
  module _ (absent : IsPlaceOf row_key_cmp k es (Err i)) where
    pub none-here : get s.rows k ≡ None
    none-here = ap (λ (z : Roomy). get z.rows k) (sym is) ∙ got-none row_key_cmp_total exact_keys es k i h.order absent

    -- a new key has room
    pub room-left : (is_some (get s.rows k) ≡ true) ⊎ (0 < s.room) → 0 < room
    room-left (inl there) = (let wrong : false ≡ true = ap is_some (sym none-here) ∙ there in cc)
    room-left (inr some) = subst (λ (z : Roomy). 0 < z.room) (sym is) some

    pub held-inserted : (es2 : List (RowKey × Row)) (n2 : ℕ) (x : Row) → es2 ≡ list.insert es i (k, x) → n2 ≡ n → 0 < room → IsHeld es2 n2 (room - 1)
    held-inserted es2 n2 x e same some = record {
      order = ap (are_in_order row_key_cmp) e ∙ in_order-inserted row_key_cmp_total exact_keys es k i h.order absent x;
      enough = (
          let count : length es2 ≡ length es + 1 = ap length e ∙ length-insert es i (k, x) absent.0 in
          let enough = h.enough in
          omega (arith, count, enough, same, some)
          );
    }

    pub rows-inserted : (es2 : List (RowKey × Row)) (x : Row) → es2 ≡ list.insert es i (k, x) → rows_of es2 ≡ insert s.rows k x
    rows-inserted es2 x e = ap rows_of e ∙ map_of-inserted row_key_cmp_total exact_keys es k i h.order absent x ∙ ap (λ (z : Roomy). insert z.rows k x) is

    pub rows-kept : s.rows ≡ remove s.rows k
    rows-kept = sym (rows-are es room s is) ∙ sym (nothing-removed row_key_cmp_total exact_keys es k i h.order absent) ∙ ap (λ (z : Roomy). remove z.rows k) is

    pub room-inserted : room - 1 ≡ cond (is_some (get s.rows k)) s.room (s.room - 1)
    room-inserted = ap (λ (z : Roomy). z.room - 1) is ∙ sym (ap (λ o. cond (is_some o) s.room (s.room - 1)) none-here)

pub nothing-in : (es : List (RowKey × Row)) → length es ≡ 0 → es ≡ []
nothing-in [] e = refl
nothing-in (x ∷ es) e = absurd (omega arith)
