-- The limits of what a token covers: those of the types in which the program keeps it. Neither parents nor consistency
-- conditions are asked for.
use Rattle.std.specs.Prelude.{◌≡◌, ◌<◌, ◌≤◌, ◌+◌, ◌^◌, ℕ, List, length, All, Option, Some, IfSome}
use Rattle.std.specs.FinMap as map
use Rattle.std.specs.List.{AllByRecursion}
use Rattle.catalog.specs.CardMap.{AreKeyed, Cards}
use Rattle.catalog.specs.declared.card.Card.{Card}
use Rattle.catalog.specs.declared.card.CardKey.{CardKey}
use Rattle.requests.specs.declared.reply.DeliveryReply.{DeliveryReply}
use Rattle.requests.specs.declared.reply.LineReply.{LineReply}
use Rattle.requests.specs.declared.reply.NewOrderReply.{NewOrderReply}
use Rattle.requests.specs.declared.reply.OrderStatusReply.{OrderStatusReply}
use Rattle.requests.specs.declared.reply.PaymentReply.{PaymentReply}
use Rattle.requests.specs.declared.reply.Reply.{Reply}
use Rattle.requests.specs.declared.reply.Reply.TheVariants as reply
use Rattle.requests.specs.declared.reply.ShownCredit.{ShownCredit}
use Rattle.requests.specs.declared.reply.ShownCredit.TheVariants as credit
use Rattle.requests.specs.declared.reply.ShownLine.{ShownLine}
use Rattle.requests.specs.declared.reply.ShownOrder.{ShownOrder}
use Rattle.requests.specs.declared.request.Request.{Request}
use Rattle.tpcc_laws.specs.Requests.{IsRequest}
use Rattle.tpcc_model.specs.Database.{Database}
use Rattle.tpcc_model.specs.Soundness.{IsCard, IsSound}
use Rattle.tpcc_model.specs.Steps.{step}
use Rattle.tpcc_rows.specs.Encodings.{IsWritable}
use Rattle.tpcc_rows.specs.Limits.{IsBetween, IsCents, IsStockQuantity}
use Rattle.tpcc_rows.specs.RowMap.{Rows}
use Rattle.tpcc_rows.specs.Texts.{IsText}
use Rattle.tpcc_rows.specs.declared.id.TheConstants.{END_OF_NUMBERS, LAST_REQUEST}
use Rattle.tpcc_rows.specs.declared.key.RowKey.{RowKey}
use Rattle.tpcc_rows.specs.declared.row.Row.{Row}
use Rattle.token_laws.specs.Covered.{Covered}

-- ---- replies
pub record IsLineReply (line : LineReply) : Type 0 where
  pub stock : IsStockQuantity line.stock
  pub amount : IsBetween 0 999999 line.amount

pub record IsNewOrderReply (r : NewOrderReply) : Type 0 where
  pub order : IsBetween 1 9999999 r.order
  pub total : IsCents r.total
  pub count : length r.lines ≤ 15
  pub lines : All IsLineReply r.lines

abbrev pub IsShownCredit : ShownCredit → Type 0
IsShownCredit credit.Good = Unit {0}
IsShownCredit (credit.Bad shown) = IsText 200 shown

pub record IsPaymentReply (r : PaymentReply) : Type 0 where
  pub customer : IsBetween 1 3000 r.customer
  pub balance : IsCents r.balance
  pub credit : IsShownCredit r.credit

pub record IsShownLine (line : ShownLine) : Type 0 where
  pub item : IsBetween 1 999999 line.item
  pub supply : IsBetween 1 100 line.supply
  pub quantity : IsBetween 0 99 line.quantity
  pub amount : IsBetween 0 999999 line.amount
  pub delivery : IfSome line.delivery (IsBetween 0 999999999999)

pub record IsShownOrder (o : ShownOrder) : Type 0 where
  pub order : IsBetween 1 9999999 o.order
  pub entry : IsBetween 0 999999999999 o.entry
  pub carrier : IfSome o.carrier (IsBetween 1 10)
  pub count : length o.lines ≤ 15
  pub lines : All IsShownLine o.lines

pub record IsOrderStatusReply (r : OrderStatusReply) : Type 0 where
  pub customer : IsBetween 1 3000 r.customer
  pub first : IsText 16 r.first
  pub middle : IsText 2 r.middle
  pub last : IsText 16 r.last
  pub balance : IsCents r.balance
  pub order : IfSome r.order IsShownOrder

abbrev pub IsDelivered : Option ℕ → Type 0
IsDelivered order = IfSome order (IsBetween 1 9999999)

pub record IsDeliveryReply (r : DeliveryReply) : Type 0 where
  pub ten : length r.orders ≡ 10
  pub orders : All IsDelivered r.orders

abbrev pub IsReply : Reply → Type 0
IsReply (reply.NewOrder r) = IsNewOrderReply r
IsReply (reply.Payment r) = IsPaymentReply r
IsReply (reply.OrderStatus r) = IsOrderStatusReply r
IsReply (reply.Delivery r) = IsDeliveryReply r
IsReply (reply.StockLevel r) = r.low_stock < 2 ^ 32
IsReply (reply.Refused kind refusal) = Unit {0}

-- what a step on a sound database replies is within its limits
abbrev pub StepsReplyWithin : Type 0
StepsReplyWithin = (db : Database) (request : Request) (number moment : ℕ) → IsSound db → IsRequest request → IsBetween 1 LAST_REQUEST number → IsBetween 0 999999999999 moment
    → IsReply (step db request number moment).reply

-- ---- databases
-- each card is at its own key and within its limits
pub record AreWritableCards (cards : Cards) : Type 0 where
  pub keyed : AreKeyed cards
  pub limits : (k : CardKey) (c : Card) → map.get cards k ≡ Some c → IsCard c

-- each row is of its key's kind, and key and row are within their limits
abbrev pub AreWritableRows : Rows → Type 0
AreWritableRows rows = (k : RowKey) (r : Row) → map.get rows k ≡ Some r → IsWritable k r

pub record IsWritableDatabase (db : Database) : Type 0 where
  pub cards : AreWritableCards db.cards
  pub rows : AreWritableRows db.rows

-- a sound database is one
abbrev pub SoundIsWritable : Type 0
SoundIsWritable = (db : Database) → IsSound db → IsWritableDatabase db

-- ---- all that a token covers
pub record AreBytes (text : List ℕ) : Type 0 where
  pub each : AllByRecursion (λ (b : ℕ). b < 256) text

pub record IsWithinLimits (c : Covered) : Type 0 where
  pub sequence : c.sequence < 2 ^ 64
  pub prior : AreBytes c.prior
  pub prior_length : length c.prior ≡ 32
  pub database : IsWritableDatabase c.database
  pub numbers : c.first + length c.replies ≤ END_OF_NUMBERS
  pub replies : All IsReply c.replies
