use Rattle.std.proofs.Common.{refl, ap, ◌∙◌, arith}
use Rattle.std.specs.FinMap as map
use Rattle.tables.specs.LastOrders.{orders_of}
use Rattle.tables.specs.Shelves.{place_of}
use Rattle.tpcc_rows.specs.declared.row.Row.TheVariants as row
use Rattle.row_tables.specs.LastOrders.{order_rows}
use Rattle.row_tables.proofs.ByKind.{entries-at}
use Rattle.row_tables.proofs.kinds.KindTables.last_orders_at.Goals as goal

pub returns : goal.returns
returns c = record {
  orders = orders_of c.self.inside.orders c.args.rank;
  same =
      entries-at (λ r. row.Order r) _ c.self.invariant 3 (omega arith) c.self.inside.orders refl place_of (place_of c.args.rank)
      ∙ ap (λ m. map.entries (order_rows m (place_of c.args.rank))) c.self.view_is;
  linked = c.last_at.ensures;
}
