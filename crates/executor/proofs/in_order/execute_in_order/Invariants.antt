use Rattle.std.proofs.Common.{◌≡◌, ◌+◌, ◌++◌, ◌||◌, drop}
use Rattle.rollback.specs.Pointed.{KeepsCleanLeaves}
use Rattle.tpcc_model.specs.Database.{database}
use Rattle.tpcc_model.specs.Steps.{replies, rows_after}
use Rattle.executor.specs.InOrder.{told_strays_in_turn}
use Rattle.executor.specs.Told.{told_by}
use Rattle.executor.proofs.in_order.execute_in_order.Given as goal

-- what is told so far, and where what is left leads
abbrev pub invariant-loop-place : goal.invariant-loop-place
invariant-loop-place g l = record {
  replies : l.replies.items ++ replies (database l.catalog l.store.rows) l.plan.batch.now.moment (l.plan.first + l.place) (drop l.place l.plan.batch.now.requests) ≡ replies (database l.catalog l.fn.store.rows) l.plan.batch.now.moment l.plan.first l.plan.batch.now.requests;
  rows : rows_after (database l.catalog l.store.rows) l.plan.batch.now.moment (l.plan.first + l.place) (drop l.place l.plan.batch.now.requests) ≡ rows_after (database l.catalog l.fn.store.rows) l.plan.batch.now.moment l.plan.first l.plan.batch.now.requests;
  strayed : (l.strayed || told_strays_in_turn l.catalog l.plan.batch.now.moment l.store.rows (l.plan.first + l.place) (drop l.place l.plan.batch.now.requests) (drop l.place (told_by l.plan.told))) ≡ told_strays_in_turn l.catalog l.plan.batch.now.moment l.fn.store.rows l.plan.first l.plan.batch.now.requests (told_by l.plan.told);
  points : l.store.points ≡ l.fn.store.points;
  clean : KeepsCleanLeaves l.fn.store l.store;
}
