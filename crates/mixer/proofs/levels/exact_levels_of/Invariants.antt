use Rattle.std.proofs.Common.{◌≡◌, ◌<◌, drop, length, ◌++◌}
use Rattle.std.specs.List.{All, zip}
use Rattle.serializability.specs.Levels.{levels_after, levels}
use Rattle.serializability.specs.Signatures.{meets_by}
use Rattle.mixer.specs.Slots.{slot}
use Rattle.mixer.specs.Tables.{AreColumns}
use Rattle.mixer.proofs.levels.exact_levels_of.Given as goal

abbrev pub invariant-loop-footprint : goal.invariant-loop-footprint
invariant-loop-footprint l = record {
  told : l.levels.items ++ levels_after (meets_by slot) (zip l.levels.items l.footprints) (drop l.footprint-index l.footprints) ≡ levels (meets_by slot) l.footprints;
  columns : AreColumns l.table (zip l.levels.items l.footprints);
  count : length l.levels.items ≡ l.footprint-index;
  placed : l.table.placed ≡ l.footprint-index;
  below : All (λ level. level < length l.levels.items) l.levels.items;
}
