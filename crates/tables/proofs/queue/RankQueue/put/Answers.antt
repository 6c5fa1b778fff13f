use Rattle.std.proofs.Common.{◌≡◌, Some, None, sym, ap, ◌∙◌}
use Rattle.std.specs.FinMap as map
use Rattle.std.specs.Ordering.{nat_cmp}
use Rattle.tpcc_rows.specs.Places.{are_in_order}
use Rattle.tpcc_rows.proofs.Places.{got, got-none, in_order-inserted, map_of-inserted}
use Rattle.tables.proofs.Shelved.{insert-same}
use Rattle.tables.proofs.Tables.{rank_total, exact_ranks, on_err, table_of}
use Rattle.tables.proofs.queue.RankQueue.put.Goals.{In-Ok, In-Err}
use Rattle.tables.proofs.queue.RankQueue.put.Goals as goal

there : (c : In-Ok) → Some tt ≡ map.get c.args.self.now c.args.rank
there c = sym (got rank_total exact_ranks c.self.inside.entries.items c.args.rank c.in-Ok.field-0 c.self.invariant c.in-Ok.ensures (c.args.rank, tt)) ∙ ap (λ m. map.get m c.args.rank) c.self.view_is

absent : (c : In-Err) → None ≡ map.get c.args.self.now c.args.rank
absent c = sym (got-none rank_total exact_ranks c.self.inside.entries.items c.args.rank c.in-Err.place c.self.invariant c.in-Err.ensures) ∙ ap (λ m. map.get m c.args.rank) c.self.view_is

pub returns-in-Ok-clause-value : goal.returns-in-Ok-clause-value
returns-in-Ok-clause-value c = there (goal.at.returns-in-Ok-clause-value c).In-Ok

pub returns-in-Ok-clause-ok : goal.returns-in-Ok-clause-ok
returns-in-Ok-clause-ok c = insert-same c.args.self.now c.args.rank tt (sym (there (goal.at.returns-in-Ok-clause-ok c).In-Ok))

pub invariant_of-self-in-Err : goal.invariant_of-self-in-Err
invariant_of-self-in-Err c =
    ap (are_in_order nat_cmp) c.in_ok-insert-in-Err.ensures.items
    ∙ in_order-inserted rank_total exact_ranks c.self.inside.entries.items c.args.rank c.in-Err.place c.self.invariant c.in-Err.ensures tt

pub returns-in_ok-insert-in-Err-clause-value : goal.returns-in_ok-insert-in-Err-clause-value
returns-in_ok-insert-in-Err-clause-value c = absent (goal.at.returns-in_ok-insert-in-Err-clause-value c).In-Err

pub returns-in_ok-insert-in-Err-clause-ok : goal.returns-in_ok-insert-in-Err-clause-ok
returns-in_ok-insert-in-Err-clause-ok c =
    ap (λ xs. table_of xs) c.in_ok-insert-in-Err.ensures.items
    ∙ map_of-inserted rank_total exact_ranks c.self.inside.entries.items c.args.rank c.in-Err.place c.self.invariant c.in-Err.ensures tt
    ∙ ap (λ m. map.insert m c.args.rank tt) c.self.view_is

pub returns-in_err-insert-in-Err-clause-new : goal.returns-in_err-insert-in-Err-clause-new
returns-in_err-insert-in-Err-clause-new c = on_err c.from_residual.result (sym (absent (goal.at.returns-in_err-insert-in-Err-clause-new c).In-Err))
