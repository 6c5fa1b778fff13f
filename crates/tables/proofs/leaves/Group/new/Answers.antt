use Rattle.tables.specs.Leaves.{in_group}
use Rattle.tables.proofs.Grouped.{placed-nothing, union-nothing}
use Rattle.tables.proofs.leaves.Group.new.Goals as goal

pub invariant_of-result : goal.invariant_of-result
invariant_of-result c = placed-nothing in_group _ c.new.ensures.items

pub returns : goal.returns
returns c = union-nothing in_group _ c.new.ensures.items
