use Rattle.std.proofs.Common.{Some, sym, ap, subst, ◌∙◌}
use Rattle.std.proofs.lemmas.Result.{IfOk-weaker, on_ok_weaker}
use Rattle.tpcc_rows.specs.RowMap.{Rows}
use Rattle.pointed_tables.specs.Aside.{IsBeside, both}
use Rattle.pointed_tables.proofs.Besides.{beside-aside, beside-tried, both-aside, both-tables, fits-aside, got-aside, got-tables, none_of, seen, seen-changed}
use Rattle.pointed_tables.proofs.roomy.RoomyTables.put.Goals as goal

pub invariant_of-self : goal.invariant_of-self
invariant_of-self c = subst (λ (a : Rows). IsBeside a c.self.inside.tables) (sym c.put.ensures.rows) (beside-aside _ _ c.args.key (Some c.args.row) c.self.invariant (c.self.invariant.apart c.args.key (sym c.has.ensures ∙ c.if-has.true)) c.requires)

pub returns-then-has-clause-value : goal.returns-then-has-clause-value
returns-then-has-clause-value c = c.put.ensures.value ∙ got-aside _ _ c.args.key c.self.invariant (sym c.has.ensures ∙ c.if-has.true) ∙ seen _ _ _ c.args.self.now c.self.view_is c.args.key

pub returns-then-has-clause-kind : goal.returns-then-has-clause-kind
returns-then-has-clause-kind c = fits-aside _ _ c.args.key _ c.self.invariant c.put.ensures.value

pub returns-then-has-clause-ok : goal.returns-then-has-clause-ok
returns-then-has-clause-ok c = ap (λ (a : Rows). both a c.self.inside.tables) c.put.ensures.rows ∙ both-aside _ _ c.args.key (Some c.args.row) (c.self.invariant.apart c.args.key (sym c.has.ensures ∙ c.if-has.true)) ∙ seen-changed _ _ _ c.args.self.now c.self.view_is c.args.key (Some c.args.row)

pub invariant_of-self-2 : goal.invariant_of-self-2
invariant_of-self-2 c = beside-tried c.self.inside.aside.rows c.self.inside.tables c.args.key (Some c.args.row) c.put-2.new.self c.put-2.result c.put-2.ensures.ok c.put-2.ensures.err c.self.invariant (none_of _ (sym c.has.ensures ∙ c.if-has.false))

pub returns-clause-value : goal.returns-clause-value
returns-clause-value c = IfOk-weaker c.put-2.result _ _ (λ _ e. e ∙ got-tables _ _ c.args.key (none_of _ (sym c.has.ensures ∙ c.if-has.false)) ∙ seen _ _ _ c.args.self.now c.self.view_is c.args.key) c.put-2.ensures.value

pub returns-clause-ok : goal.returns-clause-ok
returns-clause-ok c = on_ok_weaker c.put-2.result (λ e. ap (λ (m : Rows). both c.self.inside.aside.rows m) e ∙ both-tables _ _ c.args.key (Some c.args.row) (none_of _ (sym c.has.ensures ∙ c.if-has.false)) ∙ seen-changed _ _ _ c.args.self.now c.self.view_is c.args.key (Some c.args.row)) c.put-2.ensures.ok
