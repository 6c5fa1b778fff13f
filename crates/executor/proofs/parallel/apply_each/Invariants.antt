use Rattle.std.proofs.Common.{◌≡◌}
use Rattle.gather.specs.Merged.{after_each}
use Rattle.rollback.specs.Pointed.{KeepsCleanLeaves}
use Rattle.executor.proofs.parallel.apply_each.Given as goal

-- the changes that are left lead where all lead
abbrev pub invariant-loop-delta : goal.invariant-loop-delta
invariant-loop-delta l = record {
  rows : after_each l.store.rows l.delta-iterator.rest.items ≡ after_each l.fn.store.rows l.fn.deltas.items;
  points : l.store.points ≡ l.fn.store.points;
  clean : KeepsCleanLeaves l.fn.store l.store;
}
