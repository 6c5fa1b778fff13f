use Rattle.std.proofs.Common.{◌≡◌, ◌<◌, ℕ, get_or, length}
use Rattle.tables.proofs.last_orders.clear.Given as goal

abbrev pub invariant-loop-n : goal.invariant-loop-n
invariant-loop-n l = record { none : (k : ℕ) → k < l.n → get_or l.numbers.items k 0 ≡ 0; same : length l.numbers.items ≡ length l.fn.numbers.items }
