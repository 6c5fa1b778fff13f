use Rattle.std.proofs.Common.{◌-◌, ◌≤◌, ◌≡◌, ◌||◌, ℕ, length, take}
use Rattle.bit_sets.specs.BitSets.{has_bit}
use Rattle.merkle.specs.Jobs.{AreGathered, has_place}
use Rattle.merkle.specs.declared.jobs.TheConstants.{MOST_JOBS}
use Rattle.merkle.specs.Marking.{is_above}
use Rattle.merkle.specs.Nodes.{IsAtLevel}
use Rattle.merkle.proofs.jobs.gather_nodes.Given as goal

-- the jobs are at the nodes before the next one above a mark, and these are marked
abbrev pub invariant-loop-next : goal.invariant-loop-next
invariant-loop-next l = record {
  long : length l.jobs ≡ MOST_JOBS;
  few : l.count ≤ MOST_JOBS;
  high : l.next ≤ l.end;
  gathered : AreGathered (IsAtLevel l.level.low l.level.high) (is_above l.fn.marks.words) l.from l.next (take l.count l.jobs);
  marked : (k : ℕ) → has_bit l.marks.words k ≡ (has_place (take l.count l.jobs) k || has_bit l.fn.marks.words k);
}

abbrev pub decreases-loop-next : goal.decreases-loop-next
decreases-loop-next l = l.end - l.next
