use Rattle.std.proofs.Common.{sym, ap, ◌∙◌}
use Rattle.std.specs.FinMap as map
use Rattle.std.specs.Ordering.{nat_cmp}
use Rattle.tpcc_rows.specs.Places.{are_in_order}
use Rattle.tpcc_rows.proofs.Places.{got, got-none, in_order-removed, map_of-removed, nothing-removed}
use Rattle.tables.proofs.Tables.{rank_total, exact_ranks, table_of}
use Rattle.tables.proofs.queue.RankQueue.remove.Goals as goal

pub invariant_of-self-in-Ok : goal.invariant_of-self-in-Ok
invariant_of-self-in-Ok c =
    ap (are_in_order nat_cmp) c.in_ok-remove-in-Ok.ensures.items
    ∙ in_order-removed rank_total exact_ranks c.self.inside.entries.items c.args.rank c.in-Ok.place c.self.invariant c.in-Ok.ensures

pub returns-in_ok-remove-in-Ok-clause-value : goal.returns-in_ok-remove-in-Ok-clause-value
returns-in_ok-remove-in-Ok-clause-value c =
    sym (got rank_total exact_ranks c.self.inside.entries.items c.args.rank c.in-Ok.place c.self.invariant c.in-Ok.ensures (c.args.rank, tt)) ∙ ap (λ m. map.get m c.args.rank) c.self.view_is

pub returns-in_ok-remove-in-Ok-clause-after : goal.returns-in_ok-remove-in-Ok-clause-after
returns-in_ok-remove-in-Ok-clause-after c =
    ap (λ xs. table_of xs) c.in_ok-remove-in-Ok.ensures.items
    ∙ map_of-removed rank_total exact_ranks c.self.inside.entries.items c.args.rank c.in-Ok.place c.self.invariant c.in-Ok.ensures
    ∙ ap (λ m. map.remove m c.args.rank) c.self.view_is

pub returns-in-Err-clause-value : goal.returns-in-Err-clause-value
returns-in-Err-clause-value c =
    sym (got-none rank_total exact_ranks c.self.inside.entries.items c.args.rank c.in-Err.field-0 c.self.invariant c.in-Err.ensures) ∙ ap (λ m. map.get m c.args.rank) c.self.view_is

pub returns-in-Err-clause-after : goal.returns-in-Err-clause-after
returns-in-Err-clause-after c =
    sym c.self.view_is
    ∙ sym (nothing-removed rank_total exact_ranks c.self.inside.entries.items c.args.rank c.in-Err.field-0 c.self.invariant c.in-Err.ensures)
    ∙ ap (λ m. map.remove m c.args.rank) c.self.view_is
