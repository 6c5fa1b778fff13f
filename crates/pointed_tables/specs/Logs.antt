-- Rows as they were before the changes of logs.
use Rattle.std.specs.Prelude.{◌≡◌, ◌≤◌, ◌+◌, ◌||◌, ℕ, Bool, ⊤, true, false, cond, eqb, is_some, length, take, drop, All, List, [], ◌∷◌, Option, Some, None}
use Rattle.std.specs.FinMap as map
use Rattle.std.specs.List.{list_any}
use Rattle.serializability.specs.Changes.{apply, changed}
use Rattle.tpcc_rows.specs.declared.key.RowKey.{RowKey}
use Rattle.tpcc_rows.specs.declared.row.Row.{Row}
use Rattle.tpcc_rows.specs.Changing.{new_row_fits}
use Rattle.tpcc_rows.specs.Leaves.{leaf, page_rows}
use Rattle.tpcc_rows.specs.RowKinds.{fits}
use Rattle.tpcc_rows.specs.RowMap.{Rows}
use Rattle.rollback.specs.Marks.{is_dirty}
use Rattle.rollback.specs.Pointed.{Pointed, first_or}
use Rattle.pointed_tables.specs.Bounds.{may_be_noted}
use Rattle.pointed_tables.specs.declared.bounds.Bounds.{Bounds}
use Rattle.pointed_tables.specs.declared.log.Log.{Log}

-- keys with what they had
abbrev pub Olds : Type 0
Olds = List (RowKey × Option Row)

-- the rows once each key has what it had, the one that was noted last first
abbrev pub undone : Olds → Rows → Rows
undone [] rows = rows
undone (old ∷ olds) rows = changed (undone olds rows) old.0 old.1

-- the room that a row takes that comes back: none where it takes the place of another
abbrev pub wants : RowKey → Option Row → Rows → ℕ
wants key None rows = 0
wants key (Some row) rows = cond (is_some (map.get rows key)) 0 1

-- the room that all of them take
abbrev pub needed : Olds → Rows → ℕ
needed [] rows = 0
needed (old ∷ olds) rows = needed olds rows + wants old.0 old.1 (undone olds rows)

-- each of its key's kind
abbrev pub AreOlds : Olds → Type 0
AreOlds [] = ⊤
AreOlds (old ∷ olds) = (new_row_fits old.0 old.1 ≡ true) × AreOlds olds

-- by these bounds each of the rows may have been noted
abbrev pub AreWithin : Bounds → Olds → Type 0
AreWithin bounds [] = ⊤
AreWithin bounds (old ∷ olds) = (is_some old.1 ≡ true → may_be_noted bounds old.0 ≡ true) × AreWithin bounds olds

abbrev pub IsBounded : Log → Type 0
IsBounded log = AreWithin log.bounds log.olds.items

-- a log that leads back from these rows, with the number of rows that come back to keys without one
pub record IsLogOf (log : Log) (rows : Rows) : Type 0 where
  pub fit : AreOlds log.olds.items
  pub counted : needed log.olds.items rows ≡ log.removals
  pub bounded : IsBounded log

-- a log with the same changes
pub record IsSame (old new : Log) : Type 0 where
  pub olds : new.olds.items ≡ old.olds.items
  pub removals : new.removals ≡ old.removals
  pub bounded : IsBounded old → IsBounded new

-- a leaf that isn't marked afterwards wasn't before, and has the rows that it had
abbrev pub KeepsOthers : List ℕ → List ℕ → Rows → Rows → Type 0
KeepsOthers before after old new = (n : ℕ) → is_dirty after n ≡ false → (is_dirty before n ≡ false) × (page_rows new n ≡ page_rows old n)

-- ---- changes in exchange for what the keys had
-- a change and what its key had have changed places, and so many rows were removed
pub record IsExchanged (change old : RowKey × Option Row) (before after : Rows) (removed : ℕ) : Type 0 where
  pub key : old.0 ≡ change.0
  pub was : old.1 ≡ map.get before change.0
  pub fit : new_row_fits old.0 old.1 ≡ true
  pub made : after ≡ changed before change.0 change.1
  pub counted : removed ≡ wants change.0 old.1 after

-- a key's row and another of its kind have changed places; or neither has
pub record IsSwapped (key : RowKey) (given left : Row) (swapped : Bool) (before after : Rows) : Type 0 where
  pub was : swapped ≡ true → map.get before key ≡ Some left
  pub fit : fits key left ≡ true
  pub made : after ≡ cond swapped (map.insert before key given) before
  pub kept : swapped ≡ false → left ≡ given

-- a row has taken the place of its key's; or it comes back, and no row has changed
abbrev pub IsReplaced : RowKey → Row → Option Row → Rows → Rows → Type 0
IsReplaced key row None before after = (is_some (map.get before key) ≡ true) × (after ≡ map.insert before key row)
IsReplaced key row (Some back) before after = (back ≡ row) × (after ≡ before)

-- the first n of these changes have been made, and the marked leaves are those that were and theirs
pub record AreMade (changes : Olds) (n : ℕ) (old new : Rows) (before after : List ℕ) : Type 0 where
  pub few : n ≤ length changes
  pub rows : new ≡ apply (take n changes) old
  pub none : n ≡ 0 → after ≡ before
  pub marks : (m : ℕ) → is_dirty after m ≡ (list_any (λ change. eqb m (leaf change.0)) (take n changes) || is_dirty before m)
  pub clean : KeepsOthers before after old new

-- these lead back from the new rows to the old ones, with so many rows that come back to keys without one
pub record LeadBack (olds : Olds) (removals : ℕ) (old new : Rows) : Type 0 where
  pub back : undone olds new ≡ old
  pub fit : AreOlds olds
  pub counted : needed olds new ≡ removals

-- one log in place of another, with the rows after a change in place of those before
pub record IsStep (old new : Log) (before after : Rows) : Type 0 where
  pub back : undone new.olds.items after ≡ undone old.olds.items before
  pub log : IsLogOf old before → IsLogOf new after

-- ---- points as logs
-- the logs stand for these rows, the oldest first: each against the point that follows, the newest against the present rows
abbrev pub points_of : List Log → Rows → List Rows
points_of [] rows = []
points_of (log ∷ logs) rows = undone log.olds.items (first_or (points_of logs rows) rows) ∷ points_of logs rows

abbrev pub AreLogs : List Log → Rows → Type 0
AreLogs [] rows = ⊤
AreLogs (log ∷ logs) rows = IsLogOf log (first_or (points_of logs rows) rows) × AreLogs logs rows

-- the rows that come back to keys without one
abbrev pub held : List Log → ℕ
held [] = 0
held (log ∷ logs) = log.removals + held logs

-- each log leads back, and there is room for all rows that come back
pub record IsPointed (logs : List Log) (rows : Rows) (room : ℕ) : Type 0 where
  pub are_logs : AreLogs logs rows
  pub enough : held logs ≡ room

-- the key has no row, and had none at any point but the oldest
pub record IsGone (key : RowKey) (store : Pointed) : Type 0 where
  pub present : map.get store.rows key ≡ None
  pub before : All (λ (rows : Rows). map.get rows key ≡ None) (drop 1 store.points)
