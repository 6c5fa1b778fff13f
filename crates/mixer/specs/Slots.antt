-- The slot of a granule.
use Rattle.std.specs.Prelude.{ℕ, ◌*◌, ◌/◌, ◌%◌, ◌^◌}
use Rattle.tpcc_rows.specs.declared.granule.Granule.{Granule}
use Rattle.signatures_simd.specs.Bits.{packed}

-- from 0 to 262,143: the top 18 bits of its number times 0x9E3779B97F4A7C15, in 64 bits
unfoldable pub slot : Granule → ℕ
slot g = packed g * 11400714819323198485 % 2 ^ 64 / 2 ^ 46
