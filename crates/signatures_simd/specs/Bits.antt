-- The bit of a granule.
use Rattle.std.specs.Prelude.{ℕ, ◌+◌, ◌*◌, ◌/◌, ◌%◌, ◌^◌}
use Rattle.tpcc_rows.specs.declared.granule.Granule.{Granule}
use Rattle.tpcc_rows.specs.declared.granule.Granule.TheVariants.{Warehouse, Customer, Stock, Book, DistrictYtd, DistrictNext}

-- a kind, a warehouse, a district and a number within it, as one number
abbrev pub pack : ℕ → ℕ → ℕ → ℕ → ℕ
pack kind w d n = kind * 2 ^ 48 + w * 2 ^ 32 + d * 2 ^ 24 + n

-- a granule as one number, with 0 for what it doesn't have
abbrev pub packed : Granule → ℕ
packed (Warehouse w) = pack 1 w 0 0
packed (Customer w d c) = pack 3 w d c
packed (Stock w i) = pack 4 w 0 i
packed (Book w d) = pack 5 w d 0
packed (DistrictYtd w d) = pack 6 w d 0
packed (DistrictNext w d) = pack 7 w d 0

-- the bit of a granule, from 0 to 511: the top nine bits of its number times 0x9E3779B97F4A7C15, in 64 bits
unfoldable pub bit : Granule → ℕ
bit g = packed g * 11400714819323198485 % 2 ^ 64 / 2 ^ 55
