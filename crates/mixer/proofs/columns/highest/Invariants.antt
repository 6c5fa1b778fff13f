use Rattle.std.proofs.Common.{◌≡◌, max, map, drop}
use Rattle.mixer.specs.Columns.{highest}
use Rattle.mixer.specs.Slots.{slot}
use Rattle.mixer.proofs.columns.highest.Given as goal

abbrev pub invariant-loop-granule : goal.invariant-loop-granule
invariant-loop-granule l = max l.top (highest l.column (map slot (drop l.granule-index l.granules))) ≡ highest l.column (map slot l.granules)
