-- A row of tables, each rank in the table at its place.
use Rattle.std.specs.Prelude.{◌≡◌, ℕ, ◌/◌, ◌%◌, ◌^◌, eqb, false, List, [], ◌∷◌, ◌++◌, length, get_or, None}
use Rattle.std.specs.FinMap as map
use Rattle.tables.specs.ByRank.{ByRank}
use Rattle.tables.specs.declared.keys.TheConstants.{PLACES}

-- the place of a rank: its warehouse's and district's
abbrev pub place_of : ℕ → ℕ
place_of r = r / 2 ^ 28 % PLACES

module _ {X : Type 0} where
  -- all entries, table after table
  abbrev pub entries_of : List (ByRank X) → List (ℕ × X)
  entries_of [] = []
  entries_of (t ∷ ts) = map.entries t ++ entries_of ts

  -- the rows of all tables
  unfoldable pub union : List (ByRank X) → ByRank X
  union ts = map.from_entries (entries_of ts)

  -- table n, empty past the end
  abbrev pub table_at : List (ByRank X) → ℕ → ByRank X
  table_at ts n = get_or ts n map.empty

  -- each rank is in the table at its place alone
  pub record IsPlaced (place : ℕ → ℕ) (ts : List (ByRank X)) : Type 0 where
    pub placed : (n r : ℕ) → eqb (place r) n ≡ false → map.get (table_at ts n) r ≡ None

  -- so many tables
  pub record IsShelf (count : ℕ) (place : ℕ → ℕ) (ts : List (ByRank X)) : Type 0 where
    pub full : length ts ≡ count
    pub fits : IsPlaced place ts

  -- the rows of one table
  unfoldable pub rows_at : (ℕ → ℕ) → ByRank X → ℕ → ByRank X
  rows_at place m n = map.retain_keys m (λ r. eqb (place r) n)
