use Rattle.std.proofs.Common.{◌≡◌, true, Option, Some, None, cond, is_some, unwrap_or, refl, sym, ap, ◌∙◌}
use Rattle.std.specs.FinMap as map
use Rattle.tpcc_rows.specs.declared.key.RowKey.{RowKey}
use Rattle.tpcc_rows.specs.declared.row.Row.{Row}
use Rattle.tpcc_rows.specs.Changing.{new_row_fits}
use Rattle.tpcc_rows.specs.RowKinds.{fits}
use Rattle.row_tables.proofs.Counting.{counted-swapped}
use Rattle.row_tables.proofs.Keyed.{fits-table, kept-swapped, keyed-swapped, new-fit-at, row-at, table-at}
use Rattle.row_tables.proofs.store.RowTables.swap_row.Goals as goal

pub swap-requires : goal.swap-requires
swap-requires g c = table-at _ c.self.invariant.are_kept c.args.key.now c.rank.ensures.limits c.rank.result c.rank.ensures.value ∙ sym (fits-table c.args.key.now (g.R.TableRow.row_of c.args.row.now) c.requires)

pub invariant_of-self : goal.invariant_of-self
invariant_of-self g c = record {
  are_kept = kept-swapped _ c.self.invariant.are_kept c.args.key.now c.rank.ensures.limits c.rank.result c.rank.ensures.value _ (g.R.TableRow.row_of c.args.row.now) c.requires _ c.swap.ensures.after;
  counted = counted-swapped _ _ c.self.invariant c.rank.result (g.R.TableRow.row_of c.args.row.now) _ _ c.swap.ensures.found c.swap.ensures.after;
}

pub returns-clause-found : goal.returns-clause-found
returns-clause-found g c = c.swap.ensures.found ∙ ap is_some (row-at _ c.self.invariant.are_kept c.args.key.now c.rank.ensures.limits c.rank.result c.rank.ensures.value ∙ ap (λ m. map.get m c.args.key.now) c.self.view_is)

pub returns-clause-row : goal.returns-clause-row
returns-clause-row g c = c.swap.ensures.row ∙ ap (λ o. unwrap_or o (g.R.TableRow.row_of c.args.row.now)) (row-at _ c.self.invariant.are_kept c.args.key.now c.rank.ensures.limits c.rank.result c.rank.ensures.value ∙ ap (λ m. map.get m c.args.key.now) c.self.view_is)

-- either row is of the key's kind
fits-either : (k : RowKey) (o : Option Row) (x : Row) → new_row_fits k o ≡ true → fits k x ≡ true → fits k (unwrap_or o x) ≡ true
fits-either k None x old new = new
fits-either k (Some y) x old new = old

pub returns-clause-kind : goal.returns-clause-kind
returns-clause-kind g c =
    ap (fits c.args.key.now) c.swap.ensures.row
    ∙ fits-either c.args.key.now _ (g.R.TableRow.row_of c.args.row.now) (new-fit-at _ c.self.invariant.are_kept c.args.key.now c.rank.ensures.limits c.rank.result c.rank.ensures.value _ refl) c.requires

pub returns-clause-after : goal.returns-clause-after
returns-clause-after g c =
    keyed-swapped _ c.self.invariant.are_kept c.args.key.now c.rank.ensures.limits c.rank.result c.rank.ensures.value _ (g.R.TableRow.row_of c.args.row.now) c.requires _ c.swap.ensures.after
    ∙ ap (λ m. cond c.swap.result (map.insert m c.args.key.now (g.R.TableRow.row_of c.args.row.now)) m) c.self.view_is
