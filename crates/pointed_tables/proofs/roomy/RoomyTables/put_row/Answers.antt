use Rattle.std.proofs.Common.{Some, sym, ap, subst, ◌∙◌}
use Rattle.std.specs.FinMap.{get, get-empty}
use Rattle.tpcc_rows.specs.Changing.{new_row_fits}
use Rattle.tpcc_rows.specs.RowMap.{Rows, row_key_cmp}
use Rattle.pointed_tables.specs.Aside.{IsBeside, both}
use Rattle.pointed_tables.proofs.Besides.{beside-tables, both-tables, got-tables, seen, seen-changed}
use Rattle.pointed_tables.proofs.roomy.RoomyTables.put_row.Goals as goal

pub invariant_of-self-2 : goal.invariant_of-self-2
invariant_of-self-2 g c =
    let none = ap (λ (a : Rows). get a c.args.key.now) (c.is_empty.ensures c.if-not-is_empty.false) ∙ get-empty row_key_cmp c.args.key.now in
    subst (λ (m : Rows). IsBeside c.self.inside.aside.rows m) (sym c.in_ok-was.ensures.ok)
    (beside-tables _ _ c.args.key.now (Some (g.R.TableRow.row_of c.args.row)) c.self.invariant none)

pub returns-clause-value : goal.returns-clause-value
returns-clause-value g c =
    let none = ap (λ (a : Rows). get a c.args.key.now) (c.is_empty.ensures c.if-not-is_empty.false) ∙ get-empty row_key_cmp c.args.key.now in
    c.into_any.ensures ∙ c.in_ok-was.ensures.value ∙ got-tables _ _ c.args.key.now none ∙ seen _ _ _ c.args.self.now c.self.view_is c.args.key.now

pub returns-clause-ok : goal.returns-clause-ok
returns-clause-ok g c =
    let none = ap (λ (a : Rows). get a c.args.key.now) (c.is_empty.ensures c.if-not-is_empty.false) ∙ get-empty row_key_cmp c.args.key.now in
    ap (λ (m : Rows). both c.self.inside.aside.rows m) c.in_ok-was.ensures.ok ∙ both-tables _ _ c.args.key.now (Some (g.R.TableRow.row_of c.args.row)) none
    ∙ seen-changed _ _ _ c.args.self.now c.self.view_is c.args.key.now (Some (g.R.TableRow.row_of c.args.row))

pub returns-clause-kind : goal.returns-clause-kind
returns-clause-kind g c = ap (new_row_fits c.args.key.now) c.into_any.ensures ∙ c.in_ok-was.ensures.kind
