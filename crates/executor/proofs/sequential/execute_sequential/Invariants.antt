use Rattle.std.proofs.Common.{◌≡◌, ◌+◌, ◌++◌, drop}
use Rattle.rollback.specs.Pointed.{KeepsCleanLeaves}
use Rattle.tpcc_model.specs.Database.{database}
use Rattle.tpcc_model.specs.Steps.{replies, rows_after}
use Rattle.executor.proofs.sequential.execute_sequential.Given as goal

-- what is told so far, and where what is left leads
abbrev pub invariant-loop-place : goal.invariant-loop-place
invariant-loop-place g l = record {
  replies : l.replies.items ++ replies (database l.catalog l.store.rows) l.next.batch.now.moment (l.next.stamp.next + l.place) (drop l.place l.next.batch.now.requests) ≡ replies (database l.catalog l.fn.store.rows) l.next.batch.now.moment l.next.stamp.next l.next.batch.now.requests;
  rows : rows_after (database l.catalog l.store.rows) l.next.batch.now.moment (l.next.stamp.next + l.place) (drop l.place l.next.batch.now.requests) ≡ rows_after (database l.catalog l.fn.store.rows) l.next.batch.now.moment l.next.stamp.next l.next.batch.now.requests;
  points : l.store.points ≡ l.fn.store.points;
  clean : KeepsCleanLeaves l.fn.store l.store;
}
