use Rattle.std.proofs.Common.{◌-◌, ◌≤◌}
use Rattle.bit_sets.specs.BitSets.{has_bit}
use Rattle.rollback.specs.Marks.{is_dirty}
use Rattle.merkle.proofs.Marking.{AreMarkedTo}
use Rattle.merkle.proofs.marks.mark_dirty.Given as goal

abbrev pub invariant-loop-next : goal.invariant-loop-next
invariant-loop-next l = record {
  low : l.first ≤ l.next;
  high : l.next ≤ l.end;
  marked : AreMarkedTo (is_dirty l.dirty) (has_bit l.marks.words) l.first l.next;
}

abbrev pub decreases-loop-next : goal.decreases-loop-next
decreases-loop-next l = l.end - l.next
