-- Each step keeps a database sound.
use Rattle.std.proofs.Common.{◌≡◌, ℕ, Result, Ok, Err, inr, refl, sym, subst}
use Rattle.std.specs.FinMap.{empty}
use Rattle.requests.specs.declared.request.Payment.{Payment}
use Rattle.requests.specs.declared.request.Request.TheVariants as request
use Rattle.requests.specs.declared.reply.RequestRefusal.{RequestRefusal}
use Rattle.requests.specs.declared.reply.OrderStatusReply.{OrderStatusReply}
use Rattle.requests.specs.declared.reply.StockLevelReply.{StockLevelReply}
use Rattle.tpcc_rows.specs.Changing.{after}
use Rattle.tpcc_rows.specs.RowMap.{Rows}
use Rattle.tpcc_rows.proofs.Changes.{after-empty}
use Rattle.tpcc_model.specs.Database.{Database}
use Rattle.tpcc_model.specs.Deliveries.{Delivered, delivery}
use Rattle.tpcc_model.specs.NewOrders.{PlacedOrder, new_order}
use Rattle.tpcc_model.specs.OrderStatuses.{order_status}
use Rattle.tpcc_model.specs.Payments.{Paid, payment, payment_changes}
use Rattle.tpcc_model.specs.Soundness.{IsSound}
use Rattle.tpcc_model.specs.StockLevels.{stock_level}
use Rattle.tpcc_model.specs.Steps.{delivery_outcome, new_order_outcome, order_status_outcome, payment_outcome, stock_level_outcome, step}
use Rattle.tpcc_laws.specs.Laws.{IsKeptSound, StepKeeps}
use Rattle.tpcc_laws.proofs.DeliveryKeeps.{delivery_keeps}
use Rattle.tpcc_laws.proofs.NewOrderKeeps.{new_order_keeps}
use Rattle.tpcc_laws.proofs.PaymentKeeps.{payment_keeps}

-- where nothing changes
unchanged : (db : Database) (number : ℕ) → IsSound db → IsKeptSound db (after db.rows empty) number
unchanged db number sound = subst (λ (rows : Rows). IsKeptSound db rows number) (sym (after-empty db.rows)) (record { sound = sound; history = λ n. inr refl })

payment_outcome_keeps : (db : Database) (p : Payment) (number : ℕ) (r : Result Paid RequestRefusal) → IsSound db → ((paid : Paid) → r ≡ Ok paid → IsKeptSound db (after db.rows (payment_changes p number paid)) number)
    → IsKeptSound db (after db.rows (payment_outcome p number r).changes) number
payment_outcome_keeps db p number (Ok paid) sound keeps = keeps paid refl
payment_outcome_keeps db p number (Err why) sound keeps = unchanged db number sound

new_order_outcome_keeps : (db : Database) (number : ℕ) (r : Result PlacedOrder RequestRefusal) → IsSound db → ((made : PlacedOrder) → r ≡ Ok made → IsKeptSound db (after db.rows made.changes) number) → IsKeptSound db (after db.rows (new_order_outcome r).changes) number
new_order_outcome_keeps db number (Ok made) sound keeps = keeps made refl
new_order_outcome_keeps db number (Err why) sound keeps = unchanged db number sound

delivery_outcome_keeps : (db : Database) (number : ℕ) (r : Result Delivered RequestRefusal) → IsSound db → ((made : Delivered) → r ≡ Ok made → IsKeptSound db (after db.rows made.changes) number) → IsKeptSound db (after db.rows (delivery_outcome r).changes) number
delivery_outcome_keeps db number (Ok made) sound keeps = keeps made refl
delivery_outcome_keeps db number (Err why) sound keeps = unchanged db number sound

-- a question changes nothing
order_status_outcome_keeps : (db : Database) (number : ℕ) (r : Result OrderStatusReply RequestRefusal) → IsSound db → IsKeptSound db (after db.rows (order_status_outcome r).changes) number
order_status_outcome_keeps db number (Ok shown) sound = unchanged db number sound
order_status_outcome_keeps db number (Err why) sound = unchanged db number sound

stock_level_outcome_keeps : (db : Database) (number : ℕ) (r : Result StockLevelReply RequestRefusal) → IsSound db → IsKeptSound db (after db.rows (stock_level_outcome r).changes) number
stock_level_outcome_keeps db number (Ok counted) sound = unchanged db number sound
stock_level_outcome_keeps db number (Err why) sound = unchanged db number sound

pub step_keeps : StepKeeps
unfolding step
step_keeps db (request.NewOrder p) number moment sound fits numbered timed = new_order_outcome_keeps db number (new_order db p moment) sound (λ made h. new_order_keeps db p number moment made sound fits timed h)
step_keeps db (request.Payment p) number moment sound fits numbered timed = payment_outcome_keeps db p number (payment db p moment) sound (λ paid h. payment_keeps db p number moment paid sound fits numbered timed h)
step_keeps db (request.OrderStatus p) number moment sound fits numbered timed = order_status_outcome_keeps db number (order_status db p) sound
step_keeps db (request.Delivery p) number moment sound fits numbered timed = delivery_outcome_keeps db number (delivery db p moment) sound (λ made h. delivery_keeps db p number moment made sound fits timed h)
step_keeps db (request.StockLevel p) number moment sound fits numbered timed = stock_level_outcome_keeps db number (stock_level db p) sound
