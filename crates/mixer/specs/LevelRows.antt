-- The rows of a batch, and the signatures of a request.
use Rattle.std.specs.Prelude.{ℕ, List}
use Rattle.serializability.specs.Footprints.{Footprint}
use Rattle.serializability.specs.LevelRows as level_rows
use Rattle.tpcc_rows.specs.declared.granule.Granule.{Granule}
use Rattle.signatures_simd.specs.Bits.{bit}
use Rattle.mixer.specs.declared.rows.Rows.{Rows}
use Rattle.mixer.specs.declared.signing.Signed.{Signed}

-- what a request declares, and the footprints placed so far, each with its level
abbrev pub Declared : Type 0
Declared = Footprint Granule

abbrev pub Done : Type 0
Done = List (ℕ × Declared)

-- the signatures of all granules of the footprint, and of those that are written
abbrev pub IsSigned : Signed → Declared → Type 0
IsSigned s f = level_rows.IsSigned bit s.reads s.writes f

-- what the levels so far read, and what they write
abbrev pub AreRows : Rows → Done → Type 0
AreRows rows done = level_rows.AreRows bit rows.reads.items rows.writes.items done
