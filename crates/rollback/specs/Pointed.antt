-- Rows, the points to which they can go back, and the leaves on which they have changed.
use Rattle.std.specs.Prelude.{◌≡◌, ℕ, false, List, [], ◌∷◌, refl}
use Rattle.std.specs.Coded.{Coded, code_by, coded×, coded_list, coded_ℕ}
use Rattle.tpcc_rows.specs.Leaves.{page_rows}
use Rattle.tpcc_rows.specs.RowMap.{Rows, rows_code}
use Rattle.rollback.specs.Marks.{is_dirty}

-- the present rows, the rows as they were at each point, the oldest first, and the leaves on which they have changed
pub record Pointed : Type 0 where
  pub rows : Rows
  pub points : List Rows
  pub dirty : List ℕ

abbrev pub pointed_code : Coded Pointed
pointed_code = code_by (Rows × (List Rows × List ℕ)) (coded× rows_code (coded× (coded_list rows_code) (coded_list coded_ℕ))) (λ p. (p.rows, (p.points, p.dirty))) (λ p. record { rows = p.0; points = p.1.0; dirty = p.1.1 }) (λ _. refl)

-- each leaf whose rows change is dirty afterwards, and so is each that was: a clean one was clean, and has the rows that it had
abbrev pub KeepsCleanLeaves : Pointed → Pointed → Type 0
KeepsCleanLeaves old new = (n : ℕ) → is_dirty new.dirty n ≡ false → (is_dirty old.dirty n ≡ false) × (page_rows new.rows n ≡ page_rows old.rows n)

-- the first of some rows, the others where there are none
abbrev pub first_or : List Rows → Rows → Rows
first_or [] rows = rows
first_or (point ∷ points) rows = point
