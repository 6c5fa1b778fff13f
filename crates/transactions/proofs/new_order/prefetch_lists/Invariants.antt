use Rattle.std.proofs.Common.{◌≡◌}
use Rattle.transactions.proofs.new_order.prefetch_lists.Given as goal

abbrev pub invariant-loop-index : goal.invariant-loop-index
invariant-loop-index l = l.store ≡ l.fn.store
