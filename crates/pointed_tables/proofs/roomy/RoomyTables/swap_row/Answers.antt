use Rattle.std.proofs.Common.{refl, cond, sym, ap, ◌∙◌}
use Rattle.std.specs.FinMap.{get, get-empty, insert}
use Rattle.tpcc_rows.specs.RowMap.{Rows, row_key_cmp}
use Rattle.pointed_tables.specs.Aside.{Roomy}
use Rattle.pointed_tables.proofs.Besides.{beside-swapped, both-swapped, given-back, got-tables, not-taken, seen}
use Rattle.pointed_tables.proofs.roomy.RoomyTables.swap_row.Goals as goal

pub returns-then-not-is_empty-clause-value : goal.returns-then-not-is_empty-clause-value
returns-then-not-is_empty-clause-value g c = record { was = λ e. cc; fit = c.requires; made = refl; kept = λ _. refl }

pub invariant_of-self : goal.invariant_of-self
invariant_of-self g c =
    let none = ap (λ (a : Rows). get a c.args.key.now) (c.is_empty.ensures c.if-not-is_empty.false) ∙ get-empty row_key_cmp c.args.key.now in
    beside-swapped _ _ c.args.key.now (g.R.TableRow.row_of c.args.row.now) none c.self.invariant c.swap_row.result _ c.swap_row.ensures.after

pub returns-clause-value : goal.returns-clause-value
returns-clause-value g c =
    let key = c.args.key.now in
    let none = ap (λ (a : Rows). get a key) (c.is_empty.ensures c.if-not-is_empty.false) ∙ get-empty row_key_cmp key in
    let given = g.R.TableRow.row_of c.args.row.now in
    let e = c.swap_row.ensures in record {
      was = λ swapped. sym (got-tables _ _ key none ∙ seen _ _ _ c.args.self.now c.self.view_is key) ∙ given-back _ given _ e.row (sym e.found ∙ swapped);
      fit = e.kind;
      made = both-swapped _ _ key given none c.swap_row.result _ e.after ∙ ap (λ (z : Roomy). cond c.swap_row.result (insert z.rows key given) z.rows) c.self.view_is;
      kept = λ swapped. not-taken _ given _ e.row (sym e.found ∙ swapped);
    }
