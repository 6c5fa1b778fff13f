use Rattle.std.specs.Prelude.{◌≡◌, length}
use Rattle.std.specs.FinMap as map
use Rattle.std.specs.List.{filter, list_all}
use Rattle.row_tables.specs.Parts.{is_of_table}
use Rattle.row_tables.specs.Walks.{left}
use Rattle.image_checks.specs.Checks.{ytd_agrees}
use Rattle.image_checks.proofs.checks.ytds_agree.Given as goal

-- the rest decides
abbrev pub invariant-loop-key : goal.invariant-loop-key
invariant-loop-key l = list_all (ytd_agrees l.rows) (left l.walk) ≡ list_all (ytd_agrees l.rows) (filter (is_of_table 0) (map.entries l.rows))

abbrev pub decreases-loop-key : goal.decreases-loop-key
decreases-loop-key l = length (left l.walk)
