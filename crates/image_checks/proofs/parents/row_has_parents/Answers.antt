use Rattle.image_checks.proofs.parents.row_has_parents.Goals as goal

pub returns-in-Order : goal.returns-in-Order
returns-in-Order c = rw c.in-Order.is (c.order_has_parents.ensures c.args.rows.now c.in-Order.order)

pub returns-in-History : goal.returns-in-History
returns-in-History c = rw c.in-History.is (c.payment_has_parents.ensures c.args.rows.now c.in-History.number)
