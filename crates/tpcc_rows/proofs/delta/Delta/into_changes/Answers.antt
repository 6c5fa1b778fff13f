use Rattle.std.proofs.Common.{sym, ap, subst, ◌∙◌}
use Rattle.std.specs.FinMap as map
use Rattle.tpcc_rows.specs.Changing.{AreChanges}
use Rattle.tpcc_rows.specs.RowMap.{row_key_cmp}
use Rattle.tpcc_rows.proofs.Fitting.{changes-all}
use Rattle.tpcc_rows.proofs.Places.{entries-map_of}
use Rattle.tpcc_rows.proofs.delta.Delta.into_changes.Goals as goal

pub returns-clause-all : goal.returns-clause-all
returns-clause-all c = sym (entries-map_of row_key_cmp c.self.inside.changes.items c.self.invariant.0) ∙ ap (λ m. map.entries m) c.self.view_is

pub returns-clause-kinds : goal.returns-clause-kinds
returns-clause-kinds c = changes-all _ (subst AreChanges c.self.view_is c.self.invariant.1)
