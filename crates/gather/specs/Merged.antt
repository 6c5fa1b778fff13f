-- Merged deltas.
use Rattle.std.specs.Prelude.{◌≡◌, ◌↔◌, List, [], ◌∷◌, Option, Some, None, IsSome}
use Rattle.std.specs.FinMap as map
use Rattle.std.specs.List.{AllPairs, Any, flat_map}
use Rattle.std.specs.List.Sorted.{IsPermutation}
use Rattle.serializability.specs.Changes.{last_changes}
use Rattle.tpcc_rows.specs.declared.key.RowKey.{RowKey}
use Rattle.tpcc_rows.specs.declared.row.Row.{Row}
use Rattle.tpcc_rows.specs.Changing.{after}
use Rattle.tpcc_rows.specs.RowMap.{Changes, Rows}

-- the last change of each key over all of them
abbrev pub merged : List Changes → Changes
merged deltas = last_changes (flat_map map.entries deltas)

-- the rows after each of them in turn
abbrev pub after_each : Rows → List Changes → Rows
after_each rows [] = rows
after_each rows (delta ∷ deltas) = after_each (after rows delta) deltas

-- no key is changed by both
abbrev pub IsApart : Changes → Changes → Type 0
IsApart one other = (key : RowKey) → IsSome (map.get one key) → map.get other key ≡ None

-- no key is changed by two of them
abbrev pub AreApart : List Changes → Type 0
AreApart deltas = AllPairs IsApart deltas

-- a change is in the merged delta exactly if it is in one of them
abbrev pub IsUnion : List Changes → Changes → Type 0
IsUnion deltas union = (key : RowKey) (change : Option Row) → (map.get union key ≡ Some change) ↔ Any (λ delta. map.get delta key ≡ Some change) deltas

-- deltas without a common key merge in any order
abbrev pub OrderIsFree : Type 0
OrderIsFree = (deltas others : List Changes) → AreApart deltas → IsPermutation deltas others → merged others ≡ merged deltas
