-- Which of the five transactions a request is.
use Rattle.requests.specs.declared.request.Request.{Request}
use Rattle.requests.specs.declared.request.Request.TheVariants as request
use Rattle.requests.specs.declared.request.RequestKind.{RequestKind}
use Rattle.requests.specs.declared.request.RequestKind.TheVariants as kind

abbrev pub kind_of : Request → RequestKind
kind_of (request.NewOrder r) = kind.NewOrder
kind_of (request.Payment r) = kind.Payment
kind_of (request.OrderStatus r) = kind.OrderStatus
kind_of (request.Delivery r) = kind.Delivery
kind_of (request.StockLevel r) = kind.StockLevel
