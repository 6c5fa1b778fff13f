use Rattle.std.proofs.Common.{ap, ◌∙◌}
use Rattle.std.specs.Ordering.{nat_cmp}
use Rattle.tpcc_rows.specs.Places.{are_in_order}
use Rattle.tables.proofs.Districts.{in-order}
use Rattle.tables.proofs.order_shelf.put.Goals as goal

pub is_greatest-requires : goal.is_greatest-requires
is_greatest-requires c = ap (are_in_order nat_cmp) c.slice_at.ensures ∙ in-order _
