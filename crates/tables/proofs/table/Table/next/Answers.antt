use Rattle.std.proofs.Common.{ap, subst, sym, ◌∙◌}
use Rattle.std.specs.FinMap as map
use Rattle.std.specs.Ordering.{nat_cmp}
use Rattle.std.specs.Prelude.{◌+◌}
use Rattle.tpcc_rows.specs.Places.{are_in_order}
use Rattle.tables.specs.ByRank.{IsPartedAt}
use Rattle.tables.proofs.Parted.{entries-of}
use Rattle.tables.proofs.Tables.{find-table}
use Rattle.tables.proofs.table.Table.next.Goals as goal

pub found_next-requires-clause-order : goal.found_next-requires-clause-order
found_next-requires-clause-order g c = ap (are_in_order nat_cmp) c.deref.ensures.value ∙ c.self.invariant

pub found_next-requires-clause-place : goal.found_next-requires-clause-place
found_next-requires-clause-place g c =
    subst (λ es. IsPartedAt es c.args.rank c.args.place) (sym (entries-of _ c.self.inside.entries.items _ c.deref.ensures.value c.self.invariant c.self.view_is)) c.requires

pub returns-clause-value : goal.returns-clause-value
returns-clause-value g c =
    c.found_next.ensures.value
    ∙ ap (λ es. map.find nat_cmp c.args.rank es) c.deref.ensures.value
    ∙ find-table c.self.inside.entries.items c.args.rank c.self.invariant
    ∙ ap (λ m. map.get m c.args.rank) c.self.view_is

pub returns-clause-next : goal.returns-clause-next
returns-clause-next g c =
    subst (λ es. IsPartedAt es (c.args.rank + 1) c.found_next.result.1) (entries-of _ c.self.inside.entries.items _ c.deref.ensures.value c.self.invariant c.self.view_is) c.found_next.ensures.next
