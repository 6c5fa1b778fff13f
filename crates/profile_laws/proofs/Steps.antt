-- The rows after a step follow those before: an order line that is new has an item of a new order.
use Rattle.std.proofs.Common.{◌≡◌, ℕ, List, ◌∷◌, Result, Ok, Err, inr, refl}
use Rattle.std.specs.FinMap.{empty}
use Rattle.catalog.specs.CardMap.{Cards}
use Rattle.requests.specs.declared.reply.OrderStatusReply.{OrderStatusReply}
use Rattle.requests.specs.declared.reply.RequestRefusal.{RequestRefusal}
use Rattle.requests.specs.declared.reply.StockLevelReply.{StockLevelReply}
use Rattle.requests.specs.declared.request.Payment.{Payment}
use Rattle.requests.specs.declared.request.Request.{Request}
use Rattle.requests.specs.declared.request.Request.TheVariants as request
use Rattle.serializability.specs.Folds as folds
use Rattle.tpcc_rows.specs.Changing.{after}
use Rattle.tpcc_rows.specs.RowMap.{Changes, Rows}
use Rattle.tpcc_rows.specs.declared.key.RowKey.TheVariants as key
use Rattle.tpcc_rows.specs.declared.row.Row.TheVariants as row
use Rattle.tpcc_model.specs.Database.{Database, database}
use Rattle.tpcc_model.specs.Deliveries.{Delivered, delivery}
use Rattle.tpcc_model.specs.NewOrders.{PlacedOrder, new_order}
use Rattle.tpcc_model.specs.OrderStatuses.{order_status}
use Rattle.tpcc_model.specs.Payments.{Paid, payment, payment_changes}
use Rattle.tpcc_model.specs.Steps.{delivery_outcome, new_order_outcome, order_status_outcome, payment_outcome, step, steps_at, stock_level_outcome}
use Rattle.tpcc_model.specs.StockLevels.{stock_level}
use Rattle.profile_laws.proofs.Deliveries.{delivery_follows}
use Rattle.profile_laws.proofs.Following.{AllFollow, ChangesFollow, Items, follow-more, follow-none, follow-put, follow-then}
use Rattle.profile_laws.proofs.NewOrders.{IsOrdered, new_order_follows}

-- ---- each kind of request, refused or not
module _ (New : Items) (rows : Rows) where
  new_order_outcome_follows : (r : Result PlacedOrder RequestRefusal) → ((made : PlacedOrder) → r ≡ Ok made → ChangesFollow New rows made.changes) → ChangesFollow New rows (new_order_outcome r).changes
  new_order_outcome_follows (Ok made) follows = follows made refl
  new_order_outcome_follows (Err why) follows = follow-none New rows

  delivery_outcome_follows : (r : Result Delivered RequestRefusal) → ((made : Delivered) → r ≡ Ok made → ChangesFollow New rows made.changes) → ChangesFollow New rows (delivery_outcome r).changes
  delivery_outcome_follows (Ok made) follows = follows made refl
  delivery_outcome_follows (Err why) follows = follow-none New rows

  -- a payment writes no row of these kinds
  payment_outcome_follows : (p : Payment) (number : ℕ) (r : Result Paid RequestRefusal) → ChangesFollow New rows (payment_outcome p number r).changes
  unfolding payment_changes
  payment_outcome_follows p number (Ok paid) =
      follow-put New rows _ (key.History number) (row.History paid.history)
      (follow-put New rows _ (key.Customer p.customer_warehouse p.customer_district paid.customer_id) (row.Customer paid.customer)
      (follow-put New rows _ (key.DistrictYtd p.warehouse p.district) (row.DistrictYtd paid.district)
      (follow-put New rows empty (key.Warehouse p.warehouse) (row.Warehouse paid.warehouse) (follow-none New rows) tt) tt) tt) tt
  payment_outcome_follows p number (Err why) = follow-none New rows

  -- a question changes nothing
  order_status_outcome_follows : (r : Result OrderStatusReply RequestRefusal) → ChangesFollow New rows (order_status_outcome r).changes
  order_status_outcome_follows (Ok shown) = follow-none New rows
  order_status_outcome_follows (Err why) = follow-none New rows

  stock_level_outcome_follows : (r : Result StockLevelReply RequestRefusal) → ChangesFollow New rows (stock_level_outcome r).changes
  stock_level_outcome_follows (Ok counted) = follow-none New rows
  stock_level_outcome_follows (Err why) = follow-none New rows

step_follows : (db : Database) (q : Request) (number moment : ℕ) (earlier : List Request) → ChangesFollow (IsOrdered db.cards (q ∷ earlier)) db.rows (step db q number moment).changes
unfolding step
step_follows db (request.NewOrder p) number moment earlier = new_order_outcome_follows (IsOrdered db.cards (request.NewOrder p ∷ earlier)) db.rows (new_order db p moment) (new_order_follows db p moment earlier)
step_follows db (request.Payment p) number moment earlier = payment_outcome_follows (IsOrdered db.cards (request.Payment p ∷ earlier)) db.rows p number (payment db p moment)
step_follows db (request.OrderStatus p) number moment earlier = order_status_outcome_follows (IsOrdered db.cards (request.OrderStatus p ∷ earlier)) db.rows (order_status db p)
step_follows db (request.Delivery p) number moment earlier =
    let New = IsOrdered db.cards (request.Delivery p ∷ earlier) in
    delivery_outcome_follows New db.rows (delivery db p moment) (delivery_follows New db p moment)
step_follows db (request.StockLevel p) number moment earlier = stock_level_outcome_follows (IsOrdered db.cards (request.StockLevel p ∷ earlier)) db.rows (stock_level db p)

-- ---- rows after one request more
still_ordered : (cards : Cards) (q : Request) (earlier : List Request) (w d item : ℕ) → IsOrdered cards earlier w d item → IsOrdered cards (q ∷ earlier) w d item
still_ordered cards q earlier w d item is = record {
  order = is.order;
  earlier_order = inr is.earlier_order;
  warehouse = is.warehouse;
  district = is.district;
  found = is.found;
  are_found = is.are_found;
  line = is.line;
  has_line = is.has_line;
  item_of = is.item_of;
}

pub follow-step : (cards : Cards) (old rows : Rows) (moment number : ℕ) (q : Request) (earlier : List Request) → AllFollow (IsOrdered cards earlier) old rows
    → AllFollow (IsOrdered cards (q ∷ earlier)) old (folds.after (steps_at cards moment) rows number q)
unfolding after
follow-step cards old rows moment number q earlier all =
    let New = IsOrdered cards (q ∷ earlier) in
    follow-then New old rows (folds.after (steps_at cards moment) rows number q)
    (follow-more (IsOrdered cards earlier) New (still_ordered cards q earlier) old rows all)
    (step_follows (database cards rows) q number moment earlier)
