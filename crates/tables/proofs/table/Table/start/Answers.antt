use Rattle.std.proofs.Common.{ap, subst, ◌∙◌}
use Rattle.std.specs.Ordering.{nat_cmp}
use Rattle.tpcc_rows.specs.Places.{are_in_order}
use Rattle.tables.specs.ByRank.{IsPartedAt}
use Rattle.tables.proofs.Parted.{entries-of}
use Rattle.tables.proofs.table.Table.start.Goals as goal

pub start-requires : goal.start-requires
start-requires g c = ap (are_in_order nat_cmp) c.deref.ensures.value ∙ c.self.invariant

pub returns : goal.returns
returns g c = subst (λ es. IsPartedAt es c.args.rank c.start.result) (entries-of _ c.self.inside.entries.items _ c.deref.ensures.value c.self.invariant c.self.view_is) c.start.ensures
