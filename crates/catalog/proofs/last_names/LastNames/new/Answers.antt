use Rattle.std.proofs.Common.{rules}
use Rattle.std.specs.Ordering.{is_lt}
use Rattle.std.proofs.lemmas.Fn.{always_returns_same}
use Rattle.std.proofs.lemmas.List.Sorted.{ranks_by}
use Rattle.catalog.specs.NameOrder.{named_cmp}
use Rattle.catalog.proofs.NameOrders.{named_cmp_total}
use Rattle.catalog.proofs.Naming.{in_order}
use Rattle.catalog.proofs.last_names.LastNames.new.Goals as goal

pub returns : goal.returns
returns c =
    in_order c.args.cards.now c.in_ok-customers.customers.items c.sort_unstable_by.new.self.items c.requires.order c.requires.keyed c.in_ok-customers.ensures c.sort_unstable_by.ensures.permutation
    (c.sort_unstable_by.ensures.sorted (λ x y. is_lt (named_cmp x y)) (ranks_by named_cmp_total (λ x. x)) (always_returns_same _ _ _ (λ a r f k. search rules)))
