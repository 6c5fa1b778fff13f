use Rattle.std.proofs.Common.{ap, ◌∙◌}
use Rattle.std.specs.Prelude.{option_and_then}
use Rattle.tables.specs.Keys.{order_of}
use Rattle.row_tables.proofs.NewNumbers.{nth-number}
use Rattle.row_tables.proofs.store.RowTables.nth_new_order.Goals as goal

pub returns : goal.returns
returns c =
    c.order_of.ensures ∙ ap (option_and_then (λ r. order_of r)) c.in_ok-nth.ensures
    ∙ nth-number c.args.warehouse c.args.district c.args.self.now c.new_orders-orders.result.now c.new_orders-orders.ensures c.args.n
