use Rattle.std.specs.Prelude.{◌≡◌, ◌-◌}
use Rattle.row_tables.specs.Walks.{left}
use Rattle.row_tables.proofs.walk.Walk.next.Given as goal

-- the rows that are left are those that were
abbrev pub invariant-loop-self : goal.invariant-loop-self
invariant-loop-self l = (left l.self ≡ left l.fn.self) × (l.self.end ≡ l.end)

abbrev pub decreases-loop-self : goal.decreases-loop-self
decreases-loop-self l = l.end - l.self.part
