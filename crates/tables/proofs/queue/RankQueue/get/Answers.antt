use Rattle.std.proofs.Common.{sym, ap, ◌∙◌}
use Rattle.std.specs.FinMap as map
use Rattle.tpcc_rows.proofs.Places.{got, got-none}
use Rattle.tables.proofs.Tables.{rank_total, exact_ranks}
use Rattle.tables.proofs.queue.RankQueue.get.Goals as goal

pub returns-in-Ok : goal.returns-in-Ok
returns-in-Ok c =
    sym (got rank_total exact_ranks c.self.inside.entries.items c.args.rank c.in-Ok.field-0 c.self.invariant c.in-Ok.ensures (c.args.rank, tt)) ∙ ap (λ m. map.get m c.args.rank) c.self.view_is

pub returns-in-Err : goal.returns-in-Err
returns-in-Err c =
    sym (got-none rank_total exact_ranks c.self.inside.entries.items c.args.rank c.in-Err.field-0 c.self.invariant c.in-Err.ensures) ∙ ap (λ m. map.get m c.args.rank) c.self.view_is
