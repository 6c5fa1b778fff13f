use Rattle.std.proofs.Common.{◌≡◌, ◌+◌, ◌<◌, ◌^◌, length, drop}
use Rattle.std.specs.List.{filter_map}
use Rattle.runner.specs.CheckTexts.{warehouse_count, warehouse_pick}
use Rattle.runner.proofs.check.warehouse_count.Given as goal

-- the warehouses so far and those that are left are all of them
abbrev pub invariant-loop-key : goal.invariant-loop-key
invariant-loop-key l =
    (l.count + length (filter_map (λ e. warehouse_pick e.0) (drop l.key-index l.key-items)) ≡ warehouse_count l.catalog)
    × (l.count + length (drop l.key-index l.key-items) < 2 ^ 63)
