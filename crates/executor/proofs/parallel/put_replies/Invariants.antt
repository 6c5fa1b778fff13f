use Rattle.std.proofs.Common.{◌≡◌, ◌++◌, ◌<◌, length, map}
use Rattle.std.specs.List.{All}
use Rattle.executor.specs.Slots.{with_each}
use Rattle.executor.proofs.parallel.put_replies.Given as goal

-- the outcomes that are left lead where all lead
abbrev pub invariant-loop-outcome : goal.invariant-loop-outcome
invariant-loop-outcome l =
    let left = l.outcome-iterator.rest.items in
    record {
      within : All (λ done. done.place < length l.replies) left;
      replies : with_each left l.replies ≡ with_each l.fn.outcomes.items l.fn.replies;
      changes : l.deltas.items ++ map (λ done. done.changes) left ≡ map (λ done. done.changes) l.fn.outcomes.items;
    }
