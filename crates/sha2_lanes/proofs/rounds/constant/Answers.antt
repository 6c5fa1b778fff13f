use Rattle.std.proofs.Common.{add-zero, arith}
use Rattle.sha2.specs.Sha256.{round_constants}
use Rattle.sha2_lanes.proofs.Bits.{below_four}
use Rattle.sha2_lanes.proofs.Schedules.{four_times, four_times_at}
use Rattle.sha2_lanes.proofs.rounds.constant.Goals as goal

pub returns : goal.returns
unfolding four_times
returns c =
    below_four _
    (rw add-zero at (four_times_at round_constants c.args.t 0 (omega arith)))
    (four_times_at round_constants c.args.t 1 (omega arith))
    (four_times_at round_constants c.args.t 2 (omega arith))
    (four_times_at round_constants c.args.t 3 (omega arith))
