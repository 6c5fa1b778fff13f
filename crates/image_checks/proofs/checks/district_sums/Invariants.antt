use Rattle.std.specs.Prelude.{◌-◌, ◌<◌, ◌^◌, length}
use Rattle.row_tables.specs.Walks.{left}
use Rattle.image_checks.specs.Checks.{AreSumsBefore, AreWithin}
use Rattle.image_checks.proofs.checks.district_sums.Given as goal

-- each sum has room for the rows left
abbrev pub invariant-loop-key : goal.invariant-loop-key
invariant-loop-key l = (length (left l.walk) < 2 ^ 63) × AreWithin (2 ^ 63 - length (left l.walk)) l.sums × AreSumsBefore (left l.walk) l.sums l.rows

abbrev pub decreases-loop-key : goal.decreases-loop-key
decreases-loop-key l = length (left l.walk)
