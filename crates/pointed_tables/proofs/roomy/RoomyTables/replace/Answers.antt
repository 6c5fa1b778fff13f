use Rattle.std.proofs.Common.{Some, is_some, sym, ap, subst, ◌∙◌}
use Rattle.tpcc_rows.specs.RowMap.{Rows}
use Rattle.pointed_tables.specs.Aside.{IsBeside, both}
use Rattle.pointed_tables.proofs.Besides.{beside-aside, beside-tables, both-aside, both-tables, got-tables, none_of, seen, seen-changed}
use Rattle.pointed_tables.proofs.roomy.RoomyTables.replace.Goals as goal

pub invariant_of-self : goal.invariant_of-self
invariant_of-self c = subst (λ (a : Rows). IsBeside a c.self.inside.tables) (sym c.put.ensures.rows) (beside-aside _ _ c.args.key (Some c.args.row) c.self.invariant (c.self.invariant.apart c.args.key (sym c.has.ensures ∙ c.if-has.true)) c.requires.fit)

pub replace-requires-clause-there : goal.replace-requires-clause-there
replace-requires-clause-there c = ap is_some (got-tables _ _ c.args.key (none_of _ (sym c.has.ensures ∙ c.if-has.false)) ∙ seen _ _ _ c.args.self.now c.self.view_is c.args.key) ∙ c.requires.there

pub invariant_of-self-else-has : goal.invariant_of-self-else-has
invariant_of-self-else-has c = subst (λ (m : Rows). IsBeside c.self.inside.aside.rows m) (sym c.replace.ensures.after) (beside-tables _ _ c.args.key (Some c.args.row) c.self.invariant (none_of _ (sym c.has.ensures ∙ c.if-has.false)))

pub returns-then-has-clause-rows : goal.returns-then-has-clause-rows
returns-then-has-clause-rows c = ap (λ (a : Rows). both a c.self.inside.tables) c.put.ensures.rows ∙ both-aside _ _ c.args.key (Some c.args.row) (c.self.invariant.apart c.args.key (sym c.has.ensures ∙ c.if-has.true)) ∙ seen-changed _ _ _ c.args.self.now c.self.view_is c.args.key (Some c.args.row)

pub returns-else-has-clause-rows : goal.returns-else-has-clause-rows
returns-else-has-clause-rows c = ap (λ (m : Rows). both c.self.inside.aside.rows m) c.replace.ensures.after ∙ both-tables _ _ c.args.key (Some c.args.row) (none_of _ (sym c.has.ensures ∙ c.if-has.false)) ∙ seen-changed _ _ _ c.args.self.now c.self.view_is c.args.key (Some c.args.row)
