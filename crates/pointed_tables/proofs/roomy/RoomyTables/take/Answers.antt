use Rattle.std.proofs.Common.{None, sym, ap, subst, ◌∙◌}
use Rattle.tpcc_rows.specs.RowMap.{Rows}
use Rattle.pointed_tables.specs.Aside.{IsBeside, both}
use Rattle.pointed_tables.proofs.Besides.{beside-aside, beside-tables, both-aside, both-tables, fits-aside, got-aside, got-tables, none_of, seen, seen-changed}
use Rattle.std.proofs.Common.{refl}
use Rattle.pointed_tables.proofs.roomy.RoomyTables.take.Goals as goal

pub invariant_of-self : goal.invariant_of-self
invariant_of-self c = subst (λ (a : Rows). IsBeside a c.self.inside.tables) (sym c.remove.ensures.after) (beside-aside _ _ c.args.key.now None c.self.invariant (c.self.invariant.apart c.args.key.now (sym c.has.ensures ∙ c.if-has.true)) refl)

pub invariant_of-self-else-has : goal.invariant_of-self-else-has
invariant_of-self-else-has c = subst (λ (m : Rows). IsBeside c.self.inside.aside.rows m) (sym c.remove-else-has.ensures.after) (beside-tables _ _ c.args.key.now None c.self.invariant (none_of _ (sym c.has.ensures ∙ c.if-has.false)))

pub returns-then-has-clause-value : goal.returns-then-has-clause-value
returns-then-has-clause-value c = c.remove.ensures.value ∙ got-aside _ _ c.args.key.now c.self.invariant (sym c.has.ensures ∙ c.if-has.true) ∙ seen _ _ _ c.args.self.now c.self.view_is c.args.key.now

pub returns-then-has-clause-kind : goal.returns-then-has-clause-kind
returns-then-has-clause-kind c = fits-aside _ _ c.args.key.now _ c.self.invariant c.remove.ensures.value

pub returns-then-has-clause-after : goal.returns-then-has-clause-after
returns-then-has-clause-after c = ap (λ (a : Rows). both a c.self.inside.tables) c.remove.ensures.after ∙ both-aside _ _ c.args.key.now None (c.self.invariant.apart c.args.key.now (sym c.has.ensures ∙ c.if-has.true)) ∙ seen-changed _ _ _ c.args.self.now c.self.view_is c.args.key.now None

pub returns-else-has-clause-value : goal.returns-else-has-clause-value
returns-else-has-clause-value c = c.remove-else-has.ensures.value ∙ got-tables _ _ c.args.key.now (none_of _ (sym c.has.ensures ∙ c.if-has.false)) ∙ seen _ _ _ c.args.self.now c.self.view_is c.args.key.now

pub returns-else-has-clause-after : goal.returns-else-has-clause-after
returns-else-has-clause-after c = ap (λ (m : Rows). both c.self.inside.aside.rows m) c.remove-else-has.ensures.after ∙ both-tables _ _ c.args.key.now None (none_of _ (sym c.has.ensures ∙ c.if-has.false)) ∙ seen-changed _ _ _ c.args.self.now c.self.view_is c.args.key.now None
