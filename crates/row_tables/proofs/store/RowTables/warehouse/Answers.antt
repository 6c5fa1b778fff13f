use Rattle.std.proofs.Common.{◌≡◌, Option, Some, None, refl, ap, ◌∙◌}
use Rattle.std.specs.Prelude.{option_and_then, option_map}
use Rattle.std.specs.FinMap as map
use Rattle.tpcc_rows.specs.declared.key.RowKey.TheVariants as key
use Rattle.tpcc_rows.specs.declared.row.Row.TheVariants as row
use Rattle.tpcc_rows.specs.declared.row.WarehouseRow.{WarehouseRow}
use Rattle.tpcc_rows.specs.RowKinds.{as_warehouse}
use Rattle.row_tables.proofs.Keyed.{row-at, table-at}
use Rattle.row_tables.proofs.store.RowTables.warehouse.Goals as goal

back : (o : Option WarehouseRow) → o ≡ option_and_then as_warehouse (option_map (λ r. row.Warehouse r) o)
back None = refl
back (Some x) = refl

pub warehouse-requires : goal.warehouse-requires
warehouse-requires c = table-at _ c.self.invariant.are_kept (key.Warehouse c.args.warehouse) c.warehouse_rank.ensures.limits c.warehouse_rank.result c.warehouse_rank.ensures.value

pub returns : goal.returns
returns c =
    back _
    ∙ ap (option_and_then as_warehouse) (c.warehouse.ensures
    ∙ row-at _ c.self.invariant.are_kept (key.Warehouse c.args.warehouse) c.warehouse_rank.ensures.limits c.warehouse_rank.result c.warehouse_rank.ensures.value
    ∙ ap (λ m. map.get m (key.Warehouse c.args.warehouse)) c.self.view_is)
