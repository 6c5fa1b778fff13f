use Rattle.std.specs.Prelude.{◌≡◌, length}
use Rattle.std.specs.FinMap as map
use Rattle.std.specs.List.{list_all}
use Rattle.row_tables.specs.Walks.{left}
use Rattle.image_checks.specs.Checks.{row_has_parents}
use Rattle.tpcc_model.specs.Database.{database}
use Rattle.image_checks.proofs.parents.rows_have_parents.Given as goal

-- the rest decides
abbrev pub invariant-loop-key : goal.invariant-loop-key
invariant-loop-key l = list_all (row_has_parents (database l.catalog l.rows)) (left l.walk) ≡ list_all (row_has_parents (database l.catalog l.rows)) (map.entries l.rows)

abbrev pub decreases-loop-key : goal.decreases-loop-key
decreases-loop-key l = length (left l.walk)
