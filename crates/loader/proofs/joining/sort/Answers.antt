use Rattle.std.proofs.Common.{rules}
use Rattle.std.proofs.lemmas.Fn.{always_returns_same}
use Rattle.loader.proofs.Sorting.{fits-sorted, listed-sorted}
use Rattle.loader.proofs.joining.sort.Goals as goal
use Rattle.tpcc_rows.specs.declared.key.RowKey.{RowKey}
use Rattle.tpcc_rows.specs.declared.row.Row.{Row}

pub returns-clause-all : goal.returns-clause-all
returns-clause-all c = listed-sorted c.args.rows.now.items c.sort_by_key.new.self.items
    (c.in_ok-sort_by_key.ensures.stable (λ (e : RowKey × Row). e.0) (always_returns_same _ _ _ (λ a r f k. search rules)))

pub returns-clause-kinds : goal.returns-clause-kinds
returns-clause-kinds c = fits-sorted c.args.rows.now.items c.sort_by_key.new.self.items c.sort_by_key.ensures.permutation c.requires
