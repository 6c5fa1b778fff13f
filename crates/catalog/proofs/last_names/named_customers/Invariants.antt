use Rattle.std.proofs.Common.{◌≡◌, ◌++◌, drop, map}
use Rattle.catalog.specs.LastNames.{customers_among}
use Rattle.catalog.specs.NameOrder.{named}
use Rattle.catalog.proofs.last_names.named_customers.Given as goal

-- those so far and those that are left are all
abbrev pub invariant-loop-card : goal.invariant-loop-card
invariant-loop-card l = l.customers.items ++ map named (customers_among (drop l.card-index l.cards)) ≡ map named (customers_among l.cards)
