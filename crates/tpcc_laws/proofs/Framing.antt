-- Each step is framed by what its request touches.
use Rattle.std.proofs.Common.{◌≡◌, ℕ, List, Result, Ok, Err, refl, ap}
use Rattle.catalog.specs.CardMap.{Cards}
use Rattle.requests.specs.declared.request.Request.{Request}
use Rattle.requests.specs.declared.request.Request.TheVariants as request
use Rattle.requests.specs.declared.reply.OrderStatusReply.{OrderStatusReply}
use Rattle.requests.specs.declared.reply.RequestRefusal.{RequestRefusal}
use Rattle.requests.specs.declared.reply.StockLevelReply.{StockLevelReply}
use Rattle.tpcc_rows.specs.RowMap.{Rows}
use Rattle.tpcc_rows.specs.declared.granule.Granule.{Granule}
use Rattle.tpcc_model.specs.Database.{Database, database}
use Rattle.tpcc_model.specs.OrderStatuses.{order_status}
use Rattle.tpcc_model.specs.StockLevels.{stock_level}
use Rattle.tpcc_model.specs.Steps.{delivery_outcome, new_order_outcome, order_status_outcome, payment_outcome, step, stock_level_outcome}
use Rattle.tpcc_model.specs.Touches.{Agree, ArePlaced, new_order_touch, order_status_touch, payment_touch, touch}
use Rattle.tpcc_model.proofs.FrameDeliveries.{delivery_placed, same_delivery, same_delivery_touch}
use Rattle.tpcc_model.proofs.FrameNewOrders.{new_order_placed, same_new_order}
use Rattle.tpcc_model.proofs.FramePayments.{payment_placed, same_payment}
use Rattle.tpcc_model.proofs.FrameQuestions.{same_order_status, same_stock_level, same_stock_level_touch}
use Rattle.tpcc_model.proofs.Placing.{placed-none}
use Rattle.tpcc_model.proofs.Touching.{read_too}
use Rattle.tpcc_laws.specs.Laws.{StepFrames}

-- cards alone decide what three of the five touch
same_touch : (cards : Cards) (s t : Rows) (q : Request) → Agree s t (touch (database cards s) q).reads → touch (database cards t) q ≡ touch (database cards s) q
unfolding touch new_order_touch payment_touch order_status_touch
same_touch cards s t (request.NewOrder p) agree = refl
same_touch cards s t (request.Payment p) agree = refl
same_touch cards s t (request.OrderStatus p) agree = refl
same_touch cards s t (request.Delivery p) agree = same_delivery_touch cards s t p agree
same_touch cards s t (request.StockLevel p) agree = same_stock_level_touch cards s t p agree

same_step : (cards : Cards) (s t : Rows) (q : Request) (number moment : ℕ) → Agree s t (touch (database cards s) q).reads
    → step (database cards t) q number moment ≡ step (database cards s) q number moment
unfolding step touch
same_step cards s t (request.NewOrder p) number moment agree = ap new_order_outcome (same_new_order cards s t p moment agree)
same_step cards s t (request.Payment p) number moment agree = ap (payment_outcome p number) (same_payment cards s t p moment agree)
same_step cards s t (request.OrderStatus p) number moment agree = ap order_status_outcome (same_order_status cards s t p agree)
same_step cards s t (request.Delivery p) number moment agree = ap delivery_outcome (same_delivery cards s t p moment agree)
same_step cards s t (request.StockLevel p) number moment agree = ap stock_level_outcome (same_stock_level cards s t p agree)

-- a question changes nothing
shown-placed : (number : ℕ) (gs : List Granule) (r : Result OrderStatusReply RequestRefusal) → ArePlaced number gs (order_status_outcome r).changes
shown-placed number gs (Ok shown) = placed-none number gs
shown-placed number gs (Err why) = placed-none number gs

counted-placed : (number : ℕ) (gs : List Granule) (r : Result StockLevelReply RequestRefusal) → ArePlaced number gs (stock_level_outcome r).changes
counted-placed number gs (Ok counted) = placed-none number gs
counted-placed number gs (Err why) = placed-none number gs

placed : (db : Database) (q : Request) (number moment : ℕ) → ArePlaced number (touch db q).writes (step db q number moment).changes
unfolding step touch
placed db (request.NewOrder p) number moment = new_order_placed db p number moment
placed db (request.Payment p) number moment = payment_placed db p number moment
placed db (request.OrderStatus p) number moment = shown-placed number (touch db (request.OrderStatus p)).writes (order_status db p)
placed db (request.Delivery p) number moment = delivery_placed db p number moment
placed db (request.StockLevel p) number moment = counted-placed number (touch db (request.StockLevel p)).writes (stock_level db p)

pub step_frames : StepFrames
step_frames = record { read_too = read_too; same_touch = same_touch; same_step = same_step; placed = placed }
