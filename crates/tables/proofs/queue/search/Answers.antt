use Rattle.std.proofs.Common.{rules, subst}
use Rattle.std.proofs.lemmas.Fn.{always_returns_same}
use Rattle.std.specs.List.Sorted.{IsSearchInRange}
use Rattle.std.specs.Ordering.{nat_cmp}
use Rattle.tpcc_rows.proofs.Places.{placed}
use Rattle.tables.proofs.Tables.{rank_total, exact_ranks}
use Rattle.tables.proofs.queue.search.Goals as goal

pub returns : goal.returns
returns c =
    let facts = c.binary_search_by.ensures in
    let queue = c.args.entries.now in
    placed rank_total exact_ranks queue.items c.args.rank c.binary_search_by.result c.requires
    (subst (IsSearchInRange c.binary_search_by.result) queue.ok.0 facts.bound)
    (facts.position (λ e. nat_cmp e.0 c.args.rank) (always_returns_same _ _ _ (λ a r f k. search rules)))
