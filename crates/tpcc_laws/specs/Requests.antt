-- Requests within their limits.
use Rattle.std.specs.Prelude.{length}
use Rattle.std.specs.List.{AllByRecursion}
use Rattle.requests.specs.declared.request.Delivery.{Delivery}
use Rattle.requests.specs.declared.request.NewOrder.{NewOrder}
use Rattle.requests.specs.declared.request.Payment.{Payment}
use Rattle.requests.specs.declared.request.Request.{Request}
use Rattle.requests.specs.declared.request.Request.TheVariants as request
use Rattle.tpcc_rows.specs.Limits.{IsBetween}

-- the limits of the columns that a request writes; those of its keys follow where their cards are found
pub record IsNewOrder (p : NewOrder) : Type 0 where
  pub lines : IsBetween 5 15 (length p.lines)
  pub quantities : AllByRecursion (λ line. IsBetween 1 10 line.quantity) p.lines

abbrev pub IsPayment : Payment → Type 0
IsPayment p = IsBetween 100 500000 p.amount

abbrev pub IsDelivery : Delivery → Type 0
IsDelivery p = IsBetween 1 10 p.carrier

abbrev pub IsRequest : Request → Type 0
IsRequest (request.NewOrder p) = IsNewOrder p
IsRequest (request.Payment p) = IsPayment p
IsRequest (request.OrderStatus p) = Unit {0}
IsRequest (request.Delivery p) = IsDelivery p
IsRequest (request.StockLevel p) = Unit {0}
