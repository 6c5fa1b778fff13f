use Rattle.std.proofs.Common.{◌≡◌, Option, Some, None, refl, ap, ◌∙◌}
use Rattle.std.specs.Prelude.{option_and_then, option_map}
use Rattle.std.specs.FinMap as map
use Rattle.tpcc_rows.specs.declared.key.RowKey.TheVariants as key
use Rattle.tpcc_rows.specs.declared.row.Row.TheVariants as row
use Rattle.tpcc_rows.specs.declared.row.StockRow.{StockRow}
use Rattle.tpcc_rows.specs.RowKinds.{as_stock}
use Rattle.row_tables.proofs.Keyed.{row-at, table-at}
use Rattle.row_tables.proofs.store.RowTables.stock.Goals as goal

back : (o : Option StockRow) → o ≡ option_and_then as_stock (option_map (λ r. row.Stock r) o)
back None = refl
back (Some x) = refl

pub stock-requires : goal.stock-requires
stock-requires c = table-at _ c.self.invariant.are_kept (key.Stock c.args.warehouse c.args.item) c.stock_rank.ensures.limits c.stock_rank.result c.stock_rank.ensures.value

pub returns : goal.returns
returns c =
    back _
    ∙ ap (option_and_then as_stock) (c.stock.ensures
    ∙ row-at _ c.self.invariant.are_kept (key.Stock c.args.warehouse c.args.item) c.stock_rank.ensures.limits c.stock_rank.result c.stock_rank.ensures.value
    ∙ ap (λ m. map.get m (key.Stock c.args.warehouse c.args.item)) c.self.view_is)
