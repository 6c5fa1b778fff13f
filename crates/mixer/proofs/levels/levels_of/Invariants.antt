use Rattle.std.proofs.Common.{◌≡◌, ◌<◌, ◌≤◌, drop, length, ◌++◌}
use Rattle.std.specs.List.{All, zip}
use Rattle.serializability.specs.Levels.{levels_after, levels}
use Rattle.serializability.specs.Signatures.{meets_by}
use Rattle.signatures_simd.specs.Bits.{bit}
use Rattle.mixer.specs.LevelRows.{AreRows}
use Rattle.mixer.proofs.levels.levels_of.Given as goal

abbrev pub invariant-loop-footprint : goal.invariant-loop-footprint
invariant-loop-footprint l = record {
  told : l.levels.items ++ levels_after (meets_by bit) (zip l.levels.items l.footprints) (drop l.footprint-index l.footprints) ≡ levels (meets_by bit) l.footprints;
  rows : AreRows l.rows (zip l.levels.items l.footprints);
  count : length l.levels.items ≡ l.footprint-index;
  reads : length l.rows.reads.items ≤ l.footprint-index;
  writes : length l.rows.writes.items ≤ l.footprint-index;
  below : All (λ level. level < length l.levels.items) l.levels.items;
}
