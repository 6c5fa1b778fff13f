use Rattle.std.proofs.Common.{◌≡◌, ◌≤◌, length}
use Rattle.tables.specs.Leaves.{in_group}
use Rattle.tables.specs.Shelves.{IsPlaced, union}
use Rattle.tables.proofs.leaves.extend.Given as goal

abbrev pub invariant-loop : goal.invariant-loop
invariant-loop l = record { placed : IsPlaced in_group l.leaves.items; same : union l.leaves.items ≡ union l.initial.leaves.items; len : l.counter ≤ length l.leaves.items }
