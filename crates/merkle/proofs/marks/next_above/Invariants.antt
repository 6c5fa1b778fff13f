use Rattle.std.proofs.Common.{◌-◌}
use Rattle.merkle.specs.Marking.{IsNone, is_above}
use Rattle.merkle.specs.Nodes.{AreWhole, IsAtLevel}
use Rattle.merkle.proofs.marks.next_above.Given as goal

-- none before this branch
abbrev pub invariant-loop-branch : goal.invariant-loop-branch
invariant-loop-branch l = record {
  whole : AreWhole l.branch;
  none : IsNone (IsAtLevel l.level.low l.level.high) (is_above l.marks.words) l.from l.branch;
}

abbrev pub decreases-loop-branch : goal.decreases-loop-branch
decreases-loop-branch l = l.end - l.branch
