use Rattle.std.proofs.Common.{Some, OnOk, subst}
use Rattle.std.specs.FinMap.{insert}
use Rattle.tpcc_rows.specs.declared.key.RowKey.{RowKey}
use Rattle.tpcc_rows.specs.declared.row.Row.TheVariants as row
use Rattle.transactions.specs.DeliveryParts.{carried_as, lines_written, order_written}
use Rattle.transactions.proofs.delivery.write_order.Goals as goal

pub returns-clause-made : goal.returns-clause-made
unfolding order_written
returns-clause-made g c = λ rows changes stands.
    let delivered = c.args.delivered in
    let lines = lines_written c.args.warehouse delivered.district delivered.order delivered.lines.items (carried_as c.args.warehouse delivered.district delivered.order delivered.row changes) in
    subst (λ (key : RowKey). OnOk c.put.result (g.W.RowWriter.Stands rows (insert lines key (Some (row.Customer delivered.customer))) c.put.new.self)) c.customer_key-key.ensures
    (c.put.ensures.made rows lines (c.in_ok-write_lines.ensures.made rows _ (c.in_ok-write_carried.ensures.made rows changes stands)))
