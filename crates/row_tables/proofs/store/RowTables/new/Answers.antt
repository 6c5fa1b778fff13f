use Rattle.std.proofs.Common.{sym, ap, ◌∙◌}
use Rattle.std.specs.FinMap.{len, len-empty}
use Rattle.std.specs.Ordering.{nat_cmp}
use Rattle.tpcc_rows.specs.declared.row.Row.{Row}
use Rattle.row_tables.specs.RankRows.{RankRows}
use Rattle.row_tables.proofs.Keyed.{kept-nothing, keyed-nothing}
use Rattle.row_tables.proofs.store.RowTables.new.Goals as goal

pub invariant_of-result : goal.invariant_of-result
invariant_of-result c = record { are_kept = kept-nothing _ c.in_ok-tables.ensures; counted = sym (ap (λ (m : RankRows). len m) c.in_ok-tables.ensures ∙ len-empty nat_cmp Row) }

pub returns : goal.returns
returns c = keyed-nothing _ c.in_ok-tables.ensures
