-- Which rows a log may have noted, by the least number of each district's new orders.
use Rattle.std.specs.Prelude.{◌≡◌, ◌+◌, ◌*◌, Bool, true, nat_le, slice_index}
use Rattle.pointed_tables.specs.declared.bounds.Bounds.{Bounds}
use Rattle.tpcc_rows.specs.declared.key.RowKey.{RowKey}
use Rattle.tpcc_rows.specs.declared.key.RowKey.TheVariants as key

-- whether a row of the key may have been noted: none is of a new order whose number is below its district's
abbrev pub may_be_noted : Bounds → RowKey → Bool
may_be_noted bounds (key.NewOrder w d o) = nat_le (slice_index bounds.least.items (10 * w + d)) o
may_be_noted bounds (key.Warehouse w) = true
may_be_noted bounds (key.Customer w d c) = true
may_be_noted bounds (key.Stock w i) = true
may_be_noted bounds (key.Order w d o) = true
may_be_noted bounds (key.OrderLine w d o n) = true
may_be_noted bounds (key.History n) = true
may_be_noted bounds (key.DistrictYtd w d) = true
may_be_noted bounds (key.DistrictNext w d) = true

-- what may have been noted before still may
abbrev pub IsLowered : Bounds → Bounds → Type 0
IsLowered old new = (k : RowKey) → may_be_noted old k ≡ true → may_be_noted new k ≡ true
