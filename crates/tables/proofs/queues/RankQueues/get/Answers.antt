use Rattle.std.proofs.Common.{ap, ◌∙◌}
use Rattle.std.specs.FinMap as map
use Rattle.tables.specs.declared.keys.TheConstants.{PLACES}
use Rattle.tables.specs.Shelves.{place_of}
use Rattle.tables.proofs.Shelved.{get-at}
use Rattle.tables.proofs.queues.RankQueues.get.Goals as goal

pub returns : goal.returns
returns c =
    c.get.ensures
    ∙ get-at place_of c.self.inside.queues.items PLACES c.self.invariant c.place_of.result c.args.rank c.index.result.now c.place_of.ensures.value c.place_of.ensures.below c.index.ensures
    ∙ ap (λ m. map.get m c.args.rank) c.self.view_is
