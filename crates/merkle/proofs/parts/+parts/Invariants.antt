use Prim.Native.Nat.{◌+◌, ◌*◌}
use Rattle.std.proofs.Common.{length}
use Rattle.merkle.proofs.parts.+parts.Given as goal

abbrev pub decreases-refresh_by : goal.decreases-refresh_by
decreases-refresh_by g l = 4 * length l.nodes.now

abbrev pub decreases-do_parts : goal.decreases-do_parts
decreases-do_parts g l = 4 * length l.back.now + 2

abbrev pub decreases-do_parts-there : goal.decreases-do_parts-there
decreases-do_parts-there g l = 4 * length l.back.now + 1
