use Rattle.std.proofs.Common.{◌≡◌, length}
use Rattle.executor.proofs.executor.Executor.commit_all.Given as goal

abbrev pub invariant-loop : goal.invariant-loop
invariant-loop l = record {
  cards : l.self.cards ≡ l.fn.self.cards;
  present : l.self.present ≡ l.fn.self.present;
}

abbrev pub decreases-loop : goal.decreases-loop
decreases-loop l = length l.self.earlier
