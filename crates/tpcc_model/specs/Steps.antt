-- The step of a request, and serial execution.
use Rattle.std.specs.Prelude.{ℕ, List, Result, Ok, Err}
use Rattle.std.specs.FinMap as map
use Rattle.serializability.specs.Folds.{Step, fold_replies, fold_rows}
use Rattle.tpcc_rows.specs.RowMap.{Rows, Changes, row_key_cmp}
use Rattle.tpcc_rows.specs.declared.row.Row.{Row}
use Rattle.catalog.specs.CardMap.{Cards}
use Rattle.requests.specs.declared.request.Payment.{Payment}
use Rattle.requests.specs.declared.request.Request.{Request}
use Rattle.requests.specs.declared.request.Request.TheVariants as request
use Rattle.requests.specs.declared.request.RequestKind.{RequestKind}
use Rattle.requests.specs.declared.request.RequestKind.TheVariants as kind
use Rattle.requests.specs.declared.reply.RequestRefusal.{RequestRefusal}
use Rattle.requests.specs.declared.reply.Reply.{Reply}
use Rattle.requests.specs.declared.reply.Reply.TheVariants as reply
use Rattle.requests.specs.declared.reply.OrderStatusReply.{OrderStatusReply}
use Rattle.requests.specs.declared.reply.StockLevelReply.{StockLevelReply}
use Rattle.tpcc_model.specs.Database.{Database, database}
use Rattle.tpcc_model.specs.Deliveries.{Delivered, delivery}
use Rattle.tpcc_model.specs.NewOrders.{PlacedOrder, new_order}
use Rattle.tpcc_model.specs.OrderStatuses.{order_status}
use Rattle.tpcc_model.specs.Payments.{Paid, payment, payment_reply, payment_changes}
use Rattle.tpcc_model.specs.StockLevels.{stock_level}

-- the reply, and each key written or deleted with its new row, if any
pub record StepOutcome : Type 0 where
  pub reply : Reply
  pub changes : Changes

-- a refused request changes nothing
abbrev pub refused : RequestKind → RequestRefusal → StepOutcome
refused k why = record { reply = reply.Refused k why; changes = map.empty }

-- the step of a request of a kind, with this result
abbrev pub outcome_of : {A : Type 0} → RequestKind → (A → StepOutcome) → Result A RequestRefusal → StepOutcome
outcome_of k made (Ok x) = made x
outcome_of k made (Err why) = refused k why

abbrev pub new_order_outcome : Result PlacedOrder RequestRefusal → StepOutcome
new_order_outcome = outcome_of kind.NewOrder λ placed. record { reply = reply.NewOrder placed.reply; changes = placed.changes }

abbrev pub payment_outcome : Payment → ℕ → Result Paid RequestRefusal → StepOutcome
payment_outcome p number = outcome_of kind.Payment λ paid. record { reply = reply.Payment (payment_reply paid); changes = payment_changes p number paid }

abbrev pub order_status_outcome : Result OrderStatusReply RequestRefusal → StepOutcome
order_status_outcome = outcome_of kind.OrderStatus λ shown. record { reply = reply.OrderStatus shown; changes = map.empty }

abbrev pub delivery_outcome : Result Delivered RequestRefusal → StepOutcome
delivery_outcome = outcome_of kind.Delivery λ made. record { reply = reply.Delivery made.reply; changes = made.changes }

abbrev pub stock_level_outcome : Result StockLevelReply RequestRefusal → StepOutcome
stock_level_outcome = outcome_of kind.StockLevel λ counted. record { reply = reply.StockLevel counted; changes = map.empty }

-- the step of a numbered request, at a moment
unfoldable pub step : Database → Request → ℕ → ℕ → StepOutcome
step db (request.NewOrder p) number moment = new_order_outcome (new_order db p moment)
step db (request.Payment p) number moment = payment_outcome p number (payment db p moment)
step db (request.OrderStatus p) number moment = order_status_outcome (order_status db p)
step db (request.Delivery p) number moment = delivery_outcome (delivery db p moment)
step db (request.StockLevel p) number moment = stock_level_outcome (stock_level db p)

-- the steps on rows with these cards, at one moment
abbrev pub steps_at : Cards → ℕ → Step row_key_cmp Row Request Reply
steps_at cards moment rows number request =
    let outcome = step (database cards rows) request number moment in
    record { reply = outcome.reply; changes = map.entries outcome.changes }

-- serial execution of requests, numbered from this one on: their replies, and the rows after them
abbrev pub replies : Database → ℕ → ℕ → List Request → List Reply
replies db moment first requests = fold_replies (steps_at db.cards moment) db.rows first requests

abbrev pub rows_after : Database → ℕ → ℕ → List Request → Rows
rows_after db moment first requests = fold_rows (steps_at db.cards moment) db.rows first requests
