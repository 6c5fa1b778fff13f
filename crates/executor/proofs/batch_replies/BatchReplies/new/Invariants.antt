use Rattle.std.proofs.Common.{◌≡◌, None, replicate}
use Rattle.executor.proofs.batch_replies.BatchReplies.new.Given as goal

abbrev pub invariant-loop : goal.invariant-loop
invariant-loop l = l.slots.items ≡ replicate l.counter None
