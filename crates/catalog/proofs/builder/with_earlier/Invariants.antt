use Rattle.std.proofs.Common.{◌≡◌, ◌++◌}
use Rattle.catalog.specs.CardMap.{firsts}
use Rattle.catalog.proofs.builder.with_earlier.Given as goal

-- the cards that were brought together, and those that are left, are all
abbrev pub invariant-loop-key : goal.invariant-loop-key
invariant-loop-key l = firsts (l.all.entries ++ l.key-iterator.rest.items) ≡ firsts (l.fn.late.entries ++ l.fn.cards.items)
