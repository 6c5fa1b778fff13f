use Rattle.std.proofs.Common.{None, ap, ◌∙◌}
use Rattle.std.specs.FinMap as map
use Rattle.tables.specs.Shelves.{place_of}
use Rattle.tables.proofs.Shelved.{IsChange, get-at, shelf-change, union-change}
use Rattle.tables.proofs.queues.RankQueues.remove.Goals as goal

change : (c : goal.After-self-1) → IsChange place_of c.self.inside.queues.items c.place_of-n.result c.index_mut.result.now c.remove.new.self c.args.rank None
change c = record { at = c.place_of-n.ensures.value; small = rw c.self.invariant.full c.place_of-n.ensures.below; here = c.index_mut.ensures.value; change = c.remove.ensures.after }

pub invariant_of-self : goal.invariant_of-self
invariant_of-self c = shelf-change place_of 2048 _ c.self.invariant _ _ _ _ _ (change c)

pub returns-clause-value : goal.returns-clause-value
returns-clause-value c =
    c.remove.ensures.value
    ∙ get-at place_of c.self.inside.queues.items 2048 c.self.invariant c.place_of-n.result c.args.rank c.index_mut.result.now c.place_of-n.ensures.value c.place_of-n.ensures.below c.index_mut.ensures.value
    ∙ ap (λ m. map.get m c.args.rank) c.self.view_is

pub returns-clause-after : goal.returns-clause-after
returns-clause-after c = union-change place_of _ c.self.invariant.fits _ _ _ _ _ (change c) ∙ ap (λ m. map.remove m c.args.rank) c.self.view_is
