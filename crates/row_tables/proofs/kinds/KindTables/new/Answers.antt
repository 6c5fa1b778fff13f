use Rattle.row_tables.specs.Kinds.{table_of}
use Rattle.tables.proofs.Shelved.{placed_empty, union_empty}
use Rattle.row_tables.proofs.ByKind.{kinds-empty}
use Rattle.row_tables.proofs.kinds.KindTables.new.Goals as goal

pub invariant_of-result : goal.invariant_of-result
invariant_of-result c = placed_empty table_of _ (kinds-empty _ _ _ _ _ _ _ _ _ c.in_ok-warehouses.ensures c.in_ok-customers.ensures c.in_ok-stocks.ensures c.in_ok-orders.ensures c.in_ok-new_orders.ensures c.in_ok-lines.ensures c.new-history.ensures c.in_ok-ytds.ensures c.in_ok-nexts.ensures)

pub returns : goal.returns
returns c = union_empty table_of _ (kinds-empty _ _ _ _ _ _ _ _ _ c.in_ok-warehouses.ensures c.in_ok-customers.ensures c.in_ok-stocks.ensures c.in_ok-orders.ensures c.in_ok-new_orders.ensures c.in_ok-lines.ensures c.new-history.ensures c.in_ok-ytds.ensures c.in_ok-nexts.ensures)
