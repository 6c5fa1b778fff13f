-- The items that a set holds.
use Rattle.std.specs.Prelude.{◌≡◌, ◌-◌, ℕ, nat_eq, List, length}
use Rattle.std.specs.BTreeSet.{BTreeSet, contains}
use Rattle.std.specs.Ordering.{nat_cmp}
use Rattle.std.specs.Set.{distinct_count, is_member}
use Rattle.requests.specs.declared.request.StockLevel.{StockLevel}
use Rattle.tpcc_model.specs.Database.{Database}
use Rattle.tpcc_model.specs.StockLevels.{first_recent, low_items}
use Rattle.tpcc_rows.specs.declared.row.DistrictNextRow.{DistrictNextRow}

-- the set has what the list has, and each once
pub record IsHeld (set : BTreeSet ℕ) (items : List ℕ) : Type 0 where
  pub members : (item : ℕ) → contains nat_cmp set item ≡ is_member nat_eq items item
  pub count : length set.keys ≡ distinct_count nat_eq items

-- a set that held a list's items holds more
abbrev pub HoldsToo : (List ℕ → List ℕ) → BTreeSet ℕ → BTreeSet ℕ → Type 0
HoldsToo more old new = (items : List ℕ) → IsHeld old items → IsHeld new (more items)

-- the low items of the district's last twenty orders
abbrev pub recent_items : Database → StockLevel → DistrictNextRow → List ℕ
recent_items db p district = low_items db p (first_recent district.next_order) (district.next_order - first_recent district.next_order)
