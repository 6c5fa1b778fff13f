use Rattle.std.proofs.Common.{◌≡◌, Option, Some, None, refl, ap, ◌∙◌}
use Rattle.std.specs.Prelude.{option_and_then, option_map}
use Rattle.std.specs.FinMap as map
use Rattle.tpcc_rows.specs.declared.key.RowKey.TheVariants as key
use Rattle.tpcc_rows.specs.declared.row.Row.TheVariants as row
use Rattle.tpcc_rows.specs.declared.row.OrderRow.{OrderRow}
use Rattle.tpcc_rows.specs.RowKinds.{as_order}
use Rattle.row_tables.proofs.Keyed.{row-at, table-at}
use Rattle.row_tables.proofs.store.RowTables.order.Goals as goal

back : (o : Option OrderRow) → o ≡ option_and_then as_order (option_map (λ r. row.Order r) o)
back None = refl
back (Some x) = refl

pub order-requires : goal.order-requires
order-requires c = table-at _ c.self.invariant.are_kept (key.Order c.args.warehouse c.args.district c.args.order) c.order_rank.ensures.limits c.order_rank.result c.order_rank.ensures.value

pub returns : goal.returns
returns c =
    back _
    ∙ ap (option_and_then as_order) (c.order.ensures
    ∙ row-at _ c.self.invariant.are_kept (key.Order c.args.warehouse c.args.district c.args.order) c.order_rank.ensures.limits c.order_rank.result c.order_rank.ensures.value
    ∙ ap (λ m. map.get m (key.Order c.args.warehouse c.args.district c.args.order)) c.self.view_is)
