use Rattle.std.specs.Prelude.{length}
use Rattle.row_tables.specs.Walks.{left}
use Rattle.image_checks.proofs.ConditionLemmas.{AreConditionsBefore}
use Rattle.image_checks.proofs.districts.order_conditions.Given as goal

abbrev pub invariant-loop-key : goal.invariant-loop-key
invariant-loop-key l = AreConditionsBefore l.rows (left l.walk) l.all

abbrev pub decreases-loop-key : goal.decreases-loop-key
decreases-loop-key l = length (left l.walk)
