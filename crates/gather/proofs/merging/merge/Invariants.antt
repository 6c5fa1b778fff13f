use Rattle.std.proofs.Common.{◌≡◌}
use Rattle.gather.specs.Merged.{merged}
use Rattle.gather.proofs.Deltas.{with_deltas}
use Rattle.gather.proofs.merging.merge.Given as goal

-- with the deltas that are left come the changes of all
abbrev pub invariant-loop-delta : goal.invariant-loop-delta
invariant-loop-delta l = with_deltas l.merged l.delta-iterator.rest.items ≡ merged l.fn.deltas.items
