use Rattle.std.proofs.Common.{ap, ◌∙◌}
use Rattle.tables.specs.declared.keys.TheConstants.{PLACES}
use Rattle.tables.specs.Shelves.{place_of, rows_at}
use Rattle.tables.proofs.Shelved.{table-at}
use Rattle.tables.proofs.queues.RankQueues.queue_at.Goals as goal

pub returns : goal.returns
returns c =
    table-at place_of c.self.inside.queues.items PLACES c.self.invariant c.place_of.result c.args.rank c.index.result.now c.place_of.ensures.value c.place_of.ensures.below c.index.ensures
    ∙ ap (λ m. rows_at place_of m (place_of c.args.rank)) c.self.view_is
