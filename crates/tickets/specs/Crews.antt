-- The number of workers.
use Rattle.std.specs.Prelude.{ℕ, ◌≤◌, ◌&&◌, nat_le, Option, Some, None, if◌then◌else◌}
use Rattle.tickets.specs.declared.size.TheConstants.{MOST_WORKERS}

abbrev pub IsCrew : ℕ → Type 0
IsCrew n = (1 ≤ n) × (n ≤ MOST_WORKERS)

-- this number of workers, if within the limits
abbrev pub crew_of : ℕ → Option ℕ
crew_of n = if nat_le 1 n && nat_le n MOST_WORKERS then Some n else None
