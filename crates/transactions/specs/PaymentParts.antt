-- What the code's parts of a payment stand for.
use Rattle.tpcc_model.specs.Payments as model
use Rattle.transactions.specs.declared.payment.PaymentCards.{PaymentCards}
use Rattle.transactions.specs.declared.payment.PaymentRows.{PaymentRows}
use Rattle.transactions.specs.declared.payment.NewRows.{NewRows}

abbrev pub payment_cards_of : PaymentCards → model.PaymentCards
payment_cards_of c = record { customer_id = c.customer_id; warehouse = c.warehouse.now; district = c.district.now; customer = c.customer.now }

abbrev pub payment_rows_of : PaymentRows → model.PaymentRows
payment_rows_of rows = record { warehouse = rows.warehouse.now; district = rows.district.now; customer = rows.customer.now }

abbrev pub paid_of : NewRows → model.Paid
paid_of n = record { warehouse = n.warehouse; district = n.district; customer = n.customer; history = n.history; customer_id = n.customer_id; credit = n.credit }
