use Rattle.std.proofs.Common.{◌≡◌, length}
use Rattle.tables.proofs.Shelved.{AreEmpty}
use Rattle.tables.proofs.queues.RankQueues.new.Given as goal

abbrev pub invariant-loop : goal.invariant-loop
invariant-loop l = record { len : length l.queues.items ≡ l.counter; empty : AreEmpty l.queues.items }
