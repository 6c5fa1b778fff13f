use Rattle.std.proofs.Common.{◌≡◌, drop}
use Rattle.std.specs.List.{filter_map}
use Rattle.tpcc_rows.specs.Picks.{greatest, larger_of, order_pick}
use Rattle.pointed_tables.proofs.picks.greatest_order.Given as goal

-- what is found so far, and what is still to come
abbrev pub invariant-loop-n : goal.invariant-loop-n
invariant-loop-n l = larger_of l.found (greatest (filter_map (λ e. order_pick l.warehouse l.district l.customer e.0 e.1) (drop l.n l.rows))) ≡ larger_of l.fn.first (greatest (filter_map (λ e. order_pick l.warehouse l.district l.customer e.0 e.1) l.rows))
