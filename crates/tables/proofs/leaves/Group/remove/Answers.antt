use Rattle.std.proofs.Common.{rules, ℕ, ◌≤◌, subst, length, None, sym, ap, ◌∙◌}
use Rattle.std.specs.FinMap as map
use Rattle.tables.specs.Leaves.{in_group}
use Rattle.tables.proofs.Grouped.{removed-past}
use Rattle.tables.proofs.Shelved.{IsChange, placed-change, union-change}
use Rattle.tables.proofs.leaves.Group.remove.Goals as goal

change : (c : goal.After-self-1) → IsChange in_group c.self.inside.leaves.items c.args.leaf c.index_mut.result.now c.remove.new.self c.args.rank None
change c = record { at = c.requires; small = search rules; here = c.index_mut.ensures.value; change = c.remove.ensures.after }

pub invariant_of-self : goal.invariant_of-self
invariant_of-self c = placed-change in_group _ c.self.invariant _ _ _ _ _ (change c)

pub returns-then-leaf-len : goal.returns-then-leaf-len
returns-then-leaf-len c = union-change in_group _ c.self.invariant _ _ _ _ _ (change c) ∙ ap (λ m. map.remove m c.args.rank) c.self.view_is

pub returns-else-leaf-len : goal.returns-else-leaf-len
returns-else-leaf-len c =
    sym c.self.view_is
    ∙ removed-past in_group c.self.inside.leaves.items c.self.invariant c.args.rank (subst (λ (x : ℕ). length c.self.inside.leaves.items ≤ x) c.requires (search rules))
    ∙ ap (λ m. map.remove m c.args.rank) c.self.view_is
