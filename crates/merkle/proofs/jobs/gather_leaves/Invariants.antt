use Rattle.std.proofs.Common.{◌≡◌, ◌-◌, ◌≤◌, ◌<◌, length, take}
use Rattle.tpcc_rows.specs.declared.codes.TheConstants.{LEAVES}
use Rattle.merkle.specs.Jobs.{AreGathered}
use Rattle.merkle.specs.declared.jobs.TheConstants.{MOST_JOBS}
use Rattle.rollback.specs.Marks.{is_dirty}
use Rattle.merkle.proofs.jobs.gather_leaves.Given as goal

-- the jobs are at the dirty leaves before the next one
abbrev pub invariant-loop-next : goal.invariant-loop-next
invariant-loop-next l = record {
  long : length l.jobs ≡ MOST_JOBS;
  few : l.count ≤ MOST_JOBS;
  high : l.next ≤ l.end;
  gathered : AreGathered (λ n. n < LEAVES) (is_dirty l.dirty) l.from l.next (take l.count l.jobs);
}

abbrev pub decreases-loop-next : goal.decreases-loop-next
decreases-loop-next l = l.end - l.next
