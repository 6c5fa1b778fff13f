use Rattle.std.proofs.Common.{Some, sym, ap, ◌∙◌}
use Rattle.pointed_tables.proofs.Besides.{got-first, got-tables, seen}
use Rattle.pointed_tables.proofs.roomy.RoomyTables.get.Goals as goal

pub returns-in-Some-clause-value : goal.returns-in-Some-clause-value
returns-in-Some-clause-value c = ap Some c.of.ensures ∙ got-first _ c.self.inside.tables c.args.key.now _ (sym c.in-Some.ensures) ∙ seen _ _ _ c.args.self.now c.self.view_is c.args.key.now

pub returns-in-None-clause-value : goal.returns-in-None-clause-value
returns-in-None-clause-value c = c.get-in-None.ensures.value ∙ got-tables _ c.self.inside.tables c.args.key.now (sym c.in-None.ensures) ∙ seen _ _ _ c.args.self.now c.self.view_is c.args.key.now
