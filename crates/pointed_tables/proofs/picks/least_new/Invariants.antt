use Rattle.std.proofs.Common.{◌≡◌, drop}
use Rattle.std.specs.List.{filter_map}
use Rattle.tpcc_rows.specs.Picks.{least, lesser_of, new_pick}
use Rattle.pointed_tables.proofs.picks.least_new.Given as goal

-- what is found so far, and what is still to come
abbrev pub invariant-loop-n : goal.invariant-loop-n
invariant-loop-n l = lesser_of l.found (least (filter_map (λ e. new_pick l.warehouse l.district e.0 e.1) (drop l.n l.rows))) ≡ lesser_of l.fn.first (least (filter_map (λ e. new_pick l.warehouse l.district e.0 e.1) l.rows))
