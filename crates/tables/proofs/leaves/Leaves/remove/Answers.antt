use Rattle.std.proofs.Common.{None, ◌/◌, ap, ◌∙◌}
use Rattle.std.specs.FinMap as map
use Rattle.tables.specs.Leaves.{group_of}
use Rattle.tables.proofs.Grouped.{group-below}
use Rattle.tables.proofs.Shelved.{IsChange, shelf-change, union-change}
use Rattle.tables.proofs.leaves.Leaves.remove.Goals as goal

change : (c : goal.After-self-1) → IsChange group_of c.self.inside.groups.items (c.args.leaf / 16) c.index_mut-group.result.now c.remove.new.self c.args.rank None
change c = record { at = ap (λ l. l / 16) c.requires.at; small = rw c.self.invariant.full (group-below c.args.leaf c.requires.small); here = c.index_mut-group.ensures.value; change = c.remove.ensures }

pub invariant_of-self : goal.invariant_of-self
invariant_of-self c = shelf-change group_of 4096 _ c.self.invariant _ _ _ _ _ (change c)

pub returns : goal.returns
returns c = union-change group_of _ c.self.invariant.fits _ _ _ _ _ (change c) ∙ ap (λ m. map.remove m c.args.rank) c.self.view_is
