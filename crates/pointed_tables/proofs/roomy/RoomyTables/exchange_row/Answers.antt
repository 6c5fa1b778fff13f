use Rattle.std.proofs.Common.{sym, ap, ◌∙◌}
use Rattle.std.proofs.lemmas.Result.{on_ok_weaker}
use Rattle.tpcc_rows.specs.RowMap.{Rows}
use Rattle.pointed_tables.specs.Aside.{both}
use Rattle.pointed_tables.proofs.Besides.{beside-tried, both-tables, got-tables, none_of, seen, seen-changed}
use Rattle.pointed_tables.proofs.roomy.RoomyTables.exchange_row.Goals as goal

pub invariant_of-self : goal.invariant_of-self
invariant_of-self c = beside-tried c.self.inside.aside.rows c.self.inside.tables c.args.key.now c.args.row.now c.exchange.new.self c.exchange.result c.exchange.ensures.ok c.exchange.ensures.err c.self.invariant (none_of _ (sym c.has.ensures ∙ c.if-not-has.true))

pub returns-then-not-has-clause-value : goal.returns-then-not-has-clause-value
returns-then-not-has-clause-value c = on_ok_weaker c.exchange.result (λ e. e ∙ got-tables _ _ c.args.key.now (none_of _ (sym c.has.ensures ∙ c.if-not-has.true)) ∙ seen _ _ _ c.args.self.now c.self.view_is c.args.key.now) c.exchange.ensures.value

pub returns-then-not-has-clause-ok : goal.returns-then-not-has-clause-ok
returns-then-not-has-clause-ok c =
    on_ok_weaker c.exchange.result (λ e.
    ap (λ (m : Rows). both c.self.inside.aside.rows m) e ∙ both-tables _ _ c.args.key.now c.args.row.now (none_of _ (sym c.has.ensures ∙ c.if-not-has.true))
    ∙ seen-changed _ _ _ c.args.self.now c.self.view_is c.args.key.now c.args.row.now) c.exchange.ensures.ok
