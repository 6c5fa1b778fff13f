-- The outcomes of steps that are decided and written.
use Rattle.std.proofs.Common.{◌≡◌, ℕ, Result, Ok, sym, ap, ◌∙◌}
use Rattle.std.specs.FinMap.{empty}
use Rattle.requests.specs.declared.reply.PaymentReply.{PaymentReply}
use Rattle.requests.specs.declared.reply.Reply.TheVariants as reply
use Rattle.requests.specs.declared.reply.RequestRefusal.{RequestRefusal}
use Rattle.requests.specs.declared.request.Payment.{Payment}
use Rattle.tpcc_rows.specs.RowMap.{Changes}
use Rattle.tpcc_model.specs.NewOrders as new_orders
use Rattle.tpcc_model.specs.Payments.{Paid, payment_changes, payment_reply}
use Rattle.tpcc_model.specs.Steps.{new_order_outcome, payment_outcome}
use Rattle.transactions.specs.NewOrderParts.{placed_order_of, with_placed}
use Rattle.transactions.specs.Outcomes.{IsOutcome}
use Rattle.transactions.specs.declared.new_order.PlacedOrder.{PlacedOrder}

pub placed_outcome : (definition : Result new_orders.PlacedOrder RequestRefusal) (placed : PlacedOrder) (changes : Changes) → definition ≡ Ok (placed_order_of placed) → changes ≡ with_placed placed empty
    → IsOutcome (new_order_outcome definition) (reply.NewOrder placed.reply, changes)
placed_outcome definition placed changes is written = record {
  reply = sym (ap (λ r. (new_order_outcome r).reply) is);
  changes = written ∙ sym (ap (λ r. (new_order_outcome r).changes) is);
}

pub paid_outcome : (p : Payment) (number : ℕ) (result : Result Paid RequestRefusal) (paid : Paid) (shown : PaymentReply) (changes : Changes) → result ≡ Ok paid → shown ≡ payment_reply paid → changes ≡ payment_changes p number paid
    → IsOutcome (payment_outcome p number result) (reply.Payment shown, changes)
paid_outcome p number result paid shown changes is replied made = record {
  reply = ap reply.Payment replied ∙ sym (ap (λ r. (payment_outcome p number r).reply) is);
  changes = made ∙ sym (ap (λ r. (payment_outcome p number r).changes) is);
}
