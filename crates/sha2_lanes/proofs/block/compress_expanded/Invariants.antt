use Rattle.std.proofs.Common.{◌≡◌, ◌<◌, ◌*◌, ℕ, List}
use Rattle.sha2.specs.Sha256.{rounds, schedule}
use Rattle.sha2_lanes.specs.Lanes.{lane, row}
use Rattle.sha2_lanes.specs.Schedules.{AreSums}
use Rattle.sha2_lanes.proofs.block.compress_expanded.Given as goal

abbrev pub invariant-turns : goal.invariant-turns
invariant-turns l =
    (j : ℕ) → j < 4 → (b : List ℕ) → AreSums (row j l.rows) b → lane j l.variables ≡ rounds (lane j l.state) (schedule b 48) (8 * l.turn)
