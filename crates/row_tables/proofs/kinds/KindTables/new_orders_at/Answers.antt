use Rattle.std.proofs.Common.{refl, ap, ◌∙◌, arith}
use Rattle.std.specs.FinMap as map
use Rattle.tables.specs.Shelves.{place_of}
use Rattle.tpcc_rows.specs.declared.row.Row.TheVariants as row
use Rattle.row_tables.specs.NewRows.{as_rows, new_rows}
use Rattle.row_tables.proofs.ByKind.{entries-at}
use Rattle.row_tables.proofs.kinds.KindTables.new_orders_at.Goals as goal

pub returns : goal.returns
returns c =
    ap (λ ranks. as_rows (map.entries ranks)) c.queue_at.ensures
    ∙ entries-at (λ _. row.NewOrder) _ c.self.invariant 4 (omega arith) c.self.inside.new_orders refl place_of (place_of c.args.rank)
    ∙ ap (λ m. map.entries (new_rows m (place_of c.args.rank))) c.self.view_is
