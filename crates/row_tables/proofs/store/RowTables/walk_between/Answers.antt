use Rattle.std.proofs.Common.{subst, sym}
use Rattle.row_tables.specs.Parts.{AreInParts}
use Rattle.row_tables.proofs.Parts.{in-parts, left-from}
use Rattle.row_tables.proofs.store.RowTables.walk_between.Goals as goal

pub returns-clause-left : goal.returns-clause-left
returns-clause-left c = sym (left-from c.args.self.now (subst AreInParts c.self.view_is (in-parts _ c.self.invariant.are_kept)) c.args.part c.args.end)

pub returns-clause-parts : goal.returns-clause-parts
returns-clause-parts c = subst AreInParts c.self.view_is (in-parts _ c.self.invariant.are_kept)
