use Rattle.std.proofs.Common.{sym, ap, ◌∙◌}
use Rattle.std.specs.FinMap as map
use Rattle.tpcc_rows.specs.RowMap.{row_key_cmp}
use Rattle.tpcc_rows.proofs.Places.{entries-map_of}
use Rattle.pointed_tables.specs.Aside.{Roomy}
use Rattle.pointed_tables.proofs.aside.Aside.as_slice.Goals as goal

pub returns : goal.returns
returns c = c.as_slice.ensures.value ∙ sym (entries-map_of row_key_cmp c.self.inside.rows.items c.self.invariant.order) ∙ ap (λ (s : Roomy). map.entries s.rows) c.self.view_is
