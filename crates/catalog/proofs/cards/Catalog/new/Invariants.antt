use Rattle.std.proofs.Common.{◌≡◌, ◌++◌, false}
use Rattle.catalog.specs.CardMap.{cards_of, has_twins}
use Rattle.catalog.proofs.cards.Catalog.new.Given as goal

-- the cards so far stand in the builder, no two of them have one key, and the others are left
abbrev pub invariant-loop-card : goal.invariant-loop-card
invariant-loop-card l =
    (l.builder ≡ cards_of l.yielded) × (has_twins l.yielded ≡ false) × (l.fn.cards.items ≡ l.yielded ++ l.card-iterator.rest.items)
