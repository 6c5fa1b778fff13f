use Rattle.std.specs.Prelude.{◌-◌, ◌<◌, ◌^◌, length}
use Rattle.row_tables.specs.Walks.{left}
use Rattle.image_checks.specs.Totals.{AreOfRows}
use Rattle.image_checks.proofs.TotalsLemmas.{AreTotalsBefore}
use Rattle.image_checks.proofs.totals.totals_of.Given as goal

-- each sum has room for the rows left
abbrev pub invariant-loop-key : goal.invariant-loop-key
invariant-loop-key l = (length (left l.walk) < 2 ^ 63) × AreOfRows (2 ^ 63 - length (left l.walk)) l.totals.districts.items × AreTotalsBefore (left l.walk) l.totals.districts.items l.rows

abbrev pub decreases-loop-key : goal.decreases-loop-key
decreases-loop-key l = length (left l.walk)
