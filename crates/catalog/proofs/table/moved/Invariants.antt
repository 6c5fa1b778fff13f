use Rattle.std.proofs.Common.{◌≡◌, ◌++◌}
use Rattle.catalog.proofs.table.moved.Given as goal

-- the cards that are moved, and those that are left, are all
abbrev pub invariant-loop-key : goal.invariant-loop-key
invariant-loop-key l = l.moved.items ++ l.key-iterator ≡ l.fn.cards.entries
