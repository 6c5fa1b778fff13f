use Rattle.std.proofs.Common.{◌≡◌, ◌≤◌, ℕ, List, None, Some, drop, length, replicate, slice_get}
use Rattle.serializability.specs.Footprints.{Has}
use Rattle.serializability.specs.Levels.{run_replies, run_rows, strays}
use Rattle.rollback.specs.Pointed.{KeepsCleanLeaves}
use Rattle.tpcc_model.specs.Machine.{tpcc}
use Rattle.executor.specs.PlannedLevels.{plan_levels}
use Rattle.executor.specs.Slots.{Awaits}
use Rattle.executor.proofs.Slots.{ComeToHave}
use Rattle.executor.proofs.parallel.run_levels.Given as goal

-- the levels that are left come to what all come to
abbrev pub invariant-loop-index : goal.invariant-loop-index
invariant-loop-index g l =
    let machine = tpcc l.catalog l.plan.batch.now.moment in
    let all = plan_levels l.plan l.cut in
    let left = plan_levels l.plan (drop l.index l.cut) in
    record {
      within : strays machine l.store.rows left ≡ strays machine l.fn.store.rows all;
      rows : run_rows machine l.store.rows left ≡ run_rows machine l.fn.store.rows all;
      replies : ComeToHave l.plan.first (run_replies machine l.fn.store.rows all) (run_replies machine l.store.rows left) (replicate (length l.plan.batch.now.requests) None) l.replies;
      awaited : (level place : ℕ) (places : List ℕ) → l.index ≤ level → slice_get l.cut level ≡ Some places → Has places place → Awaits l.replies place;
      points : l.store.points ≡ l.fn.store.points;
      clean : KeepsCleanLeaves l.fn.store l.store;
    }
