-- The rank of a key, a number below 2^64 that ascends with the keys: the kind in the first byte, then the columns. It is injective
-- on all keys of their types, where codes are on those of a database.
use Rattle.std.specs.Prelude.{◌≡◌, ℕ, ◌+◌, ◌*◌, ◌^◌, List}
use Rattle.std.specs.List.{AllZip}
use Rattle.tpcc_rows.specs.Limits.{IsBetween}
use Rattle.tpcc_rows.specs.declared.id.TheConstants.{LAST_REQUEST}
use Rattle.tpcc_rows.specs.declared.key.RowKey.{RowKey}
use Rattle.tpcc_rows.specs.declared.key.RowKey.TheVariants as key

-- the warehouse, the district in four bits, a number in 24 and a line in four
abbrev pub columns : ℕ → ℕ → ℕ → ℕ → ℕ
columns warehouse district number line = ((warehouse * 16 + district) * 2 ^ 24 + number) * 16 + line

abbrev pub kind : RowKey → ℕ
kind (key.Warehouse w) = 1
kind (key.Customer w d c) = 3
kind (key.Stock w i) = 4
kind (key.Order w d o) = 5
kind (key.NewOrder w d o) = 6
kind (key.OrderLine w d o n) = 7
kind (key.History n) = 8
kind (key.DistrictYtd w d) = 9
kind (key.DistrictNext w d) = 10

-- 0 stands for a column that the kind lacks
abbrev pub rank_in_kind : RowKey → ℕ
rank_in_kind (key.Warehouse w) = columns w 0 0 0
rank_in_kind (key.Customer w d c) = columns w d c 0
rank_in_kind (key.Stock w i) = columns w 0 i 0
rank_in_kind (key.Order w d o) = columns w d o 0
rank_in_kind (key.NewOrder w d o) = columns w d o 0
rank_in_kind (key.OrderLine w d o n) = columns w d o n
rank_in_kind (key.History n) = n
rank_in_kind (key.DistrictYtd w d) = columns w d 0 0
rank_in_kind (key.DistrictNext w d) = columns w d 0 0

abbrev pub rank : RowKey → ℕ
rank k = kind k * 2 ^ 56 + rank_in_kind k

abbrev pub IsDistrict : ℕ → ℕ → Type 0
IsDistrict w d = IsBetween 1 100 w × IsBetween 1 10 d

abbrev pub IsOrder : ℕ → ℕ → ℕ → Type 0
IsOrder w d o = IsBetween 1 100 w × IsBetween 1 10 d × IsBetween 1 9999999 o

-- the key's numbers are within the limits of their types
abbrev pub IsNumbered : RowKey → Type 0
IsNumbered (key.Warehouse w) = IsBetween 1 100 w
IsNumbered (key.Customer w d c) = IsBetween 1 100 w × IsBetween 1 10 d × IsBetween 1 3000 c
IsNumbered (key.Stock w i) = IsBetween 1 100 w × IsBetween 1 999999 i
IsNumbered (key.Order w d o) = IsOrder w d o
IsNumbered (key.NewOrder w d o) = IsOrder w d o
IsNumbered (key.OrderLine w d o n) = IsBetween 1 100 w × IsBetween 1 10 d × IsBetween 1 9999999 o × IsBetween 1 15 n
IsNumbered (key.History n) = IsBetween 1 LAST_REQUEST n
IsNumbered (key.DistrictYtd w d) = IsDistrict w d
IsNumbered (key.DistrictNext w d) = IsDistrict w d

-- the ranks of the entries' keys, in the same order; and the keys are numbered
abbrev pub AreRanksOf : {X : Type 0} → List (RowKey × X) → List ℕ → Type 0
AreRanksOf entries ranks = AllZip (λ entry r. (r ≡ rank entry.0) × IsNumbered entry.0) entries ranks
