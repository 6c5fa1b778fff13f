-- Requests within the limits.
use Rattle.std.specs.Prelude.{All, length}
use Rattle.tpcc_rows.specs.Limits.{IsBetween}
use Rattle.tpcc_rows.specs.Texts.{IsText}
use Rattle.requests.specs.Lines.{IsReadLine}
use Rattle.requests.specs.declared.request.CustomerChoice.{CustomerChoice}
use Rattle.requests.specs.declared.request.CustomerChoice.TheVariants as choice
use Rattle.requests.specs.declared.request.Delivery.{Delivery}
use Rattle.requests.specs.declared.request.NewOrder.{NewOrder}
use Rattle.requests.specs.declared.request.OrderStatus.{OrderStatus}
use Rattle.requests.specs.declared.request.Payment.{Payment}
use Rattle.requests.specs.declared.request.Request.{Request}
use Rattle.requests.specs.declared.request.Request.TheVariants as request
use Rattle.requests.specs.declared.request.StockLevel.{StockLevel}

abbrev pub IsReadChoice : CustomerChoice → Type 0
IsReadChoice (choice.Number c) = IsBetween 1 3000 c
IsReadChoice (choice.LastName last) = IsText 16 last

pub record IsReadNewOrder (r : NewOrder) : Type 0 where
  pub warehouse : IsBetween 1 100 r.warehouse
  pub district : IsBetween 1 10 r.district
  pub customer : IsBetween 1 3000 r.customer
  pub count : IsBetween 5 15 (length r.lines)
  pub lines : All IsReadLine r.lines

pub record IsReadPayment (r : Payment) : Type 0 where
  pub warehouse : IsBetween 1 100 r.warehouse
  pub district : IsBetween 1 10 r.district
  pub customer_warehouse : IsBetween 1 100 r.customer_warehouse
  pub customer_district : IsBetween 1 10 r.customer_district
  pub customer : IsReadChoice r.customer
  pub amount : IsBetween 100 500000 r.amount

pub record IsReadOrderStatus (r : OrderStatus) : Type 0 where
  pub warehouse : IsBetween 1 100 r.warehouse
  pub district : IsBetween 1 10 r.district
  pub customer : IsReadChoice r.customer

pub record IsReadDelivery (r : Delivery) : Type 0 where
  pub warehouse : IsBetween 1 100 r.warehouse
  pub carrier : IsBetween 1 10 r.carrier

pub record IsReadStockLevel (r : StockLevel) : Type 0 where
  pub warehouse : IsBetween 1 100 r.warehouse
  pub district : IsBetween 1 10 r.district
  pub threshold : IsBetween 10 20 r.threshold

abbrev pub IsReadRequest : Request → Type 0
IsReadRequest (request.NewOrder r) = IsReadNewOrder r
IsReadRequest (request.Payment r) = IsReadPayment r
IsReadRequest (request.OrderStatus r) = IsReadOrderStatus r
IsReadRequest (request.Delivery r) = IsReadDelivery r
IsReadRequest (request.StockLevel r) = IsReadStockLevel r
