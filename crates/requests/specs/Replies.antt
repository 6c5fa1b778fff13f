-- The records of replies.
use Rattle.std.specs.Prelude.{◌++◌, ◌∷◌, [], ℕ, List, Option, Some, None, codes, decimal, map}
use Rattle.std.specs.Fmt.{signed_decimal}
use Rattle.std.specs.List.{flat_map}
use Rattle.records.specs.Fields.{Fields}
use Rattle.records.specs.Spelling.{number_or_dash, text_of_record}
use Rattle.requests.specs.declared.request.RequestKind.{RequestKind}
use Rattle.requests.specs.declared.request.RequestKind.TheVariants as kind
use Rattle.requests.specs.declared.reply.Brand.{Brand}
use Rattle.requests.specs.declared.reply.Brand.TheVariants as brand
use Rattle.requests.specs.declared.reply.LineReply.{LineReply}
use Rattle.requests.specs.declared.reply.NewOrderReply.{NewOrderReply}
use Rattle.requests.specs.declared.reply.OrderStatusReply.{OrderStatusReply}
use Rattle.requests.specs.declared.reply.PaymentReply.{PaymentReply}
use Rattle.requests.specs.declared.reply.RequestRefusal.{RequestRefusal}
use Rattle.requests.specs.declared.reply.RequestRefusal.TheVariants as refusal
use Rattle.requests.specs.declared.reply.Reply.{Reply}
use Rattle.requests.specs.declared.reply.Reply.TheVariants as reply
use Rattle.requests.specs.declared.reply.ShownCredit.{ShownCredit}
use Rattle.requests.specs.declared.reply.ShownCredit.TheVariants as credit
use Rattle.requests.specs.declared.reply.ShownLine.{ShownLine}
use Rattle.requests.specs.declared.reply.ShownOrder.{ShownOrder}

abbrev pub kind_text : RequestKind → List ℕ
kind_text kind.NewOrder = codes "new-order"
kind_text kind.Payment = codes "payment"
kind_text kind.OrderStatus = codes "order-status"
kind_text kind.Delivery = codes "delivery"
kind_text kind.StockLevel = codes "stock-level"

abbrev pub refusal_code : RequestRefusal → List ℕ
refusal_code refusal.ItemNotValid = codes "1"
refusal_code refusal.UnknownKey = codes "2"
refusal_code refusal.LimitReached = codes "3"

abbrev pub refusal_text : RequestRefusal → List ℕ
refusal_text refusal.ItemNotValid = codes "Item number is not valid"
refusal_text refusal.UnknownKey = codes "Unknown key"
refusal_text refusal.LimitReached = codes "Limit reached"

abbrev pub brand_text : Brand → List ℕ
brand_text brand.Brand = codes "B"
brand_text brand.Generic = codes "G"

-- `stock,brand,amount`
abbrev pub line_reply_fields : LineReply → Fields
line_reply_fields line = signed_decimal line.stock ∷ brand_text line.brand ∷ decimal line.amount ∷ []

-- `credit`, and the data shown for bad credit
abbrev pub credit_fields : ShownCredit → Fields
credit_fields credit.Good = codes "GC" ∷ []
credit_fields (credit.Bad shown) = codes "BC" ∷ shown ∷ []

-- `item,supply,quantity,amount,delivery`
abbrev pub shown_line_fields : ShownLine → Fields
shown_line_fields line = decimal line.item ∷ decimal line.supply ∷ decimal line.quantity ∷ decimal line.amount ∷ number_or_dash line.delivery ∷ []

-- `order,entry,carrier` and the lines
abbrev pub shown_order_fields : ShownOrder → Fields
shown_order_fields o = (decimal o.order ∷ decimal o.entry ∷ number_or_dash o.carrier ∷ []) ++ flat_map shown_line_fields o.lines

-- the order, or a dash alone
abbrev pub last_order_fields : Option ShownOrder → Fields
last_order_fields None = codes "-" ∷ []
last_order_fields (Some o) = shown_order_fields o

-- `customer,first,middle,last,balance`
abbrev pub customer_fields : OrderStatusReply → Fields
customer_fields r = decimal r.customer ∷ r.first ∷ r.middle ∷ r.last ∷ signed_decimal r.balance ∷ []

-- `order,total` and the lines
abbrev pub new_order_fields : NewOrderReply → Fields
new_order_fields r = (decimal r.order ∷ signed_decimal r.total ∷ []) ++ flat_map line_reply_fields r.lines

-- `customer,balance` and the credit
abbrev pub payment_fields : PaymentReply → Fields
payment_fields r = (decimal r.customer ∷ signed_decimal r.balance ∷ []) ++ credit_fields r.credit

-- the customer and the last order
abbrev pub order_status_fields : OrderStatusReply → Fields
order_status_fields r = customer_fields r ++ last_order_fields r.order

-- `code,text`
abbrev pub refusal_fields : RequestRefusal → Fields
refusal_fields refusal = refusal_code refusal ∷ refusal_text refusal ∷ []

-- what follows the request's number: its kind, its status, and the result or the reason of refusal
abbrev pub outcome_fields : Reply → Fields
outcome_fields (reply.NewOrder r) = kind_text kind.NewOrder ∷ codes "ok" ∷ new_order_fields r
outcome_fields (reply.Payment r) = kind_text kind.Payment ∷ codes "ok" ∷ payment_fields r
outcome_fields (reply.OrderStatus r) = kind_text kind.OrderStatus ∷ codes "ok" ∷ order_status_fields r
outcome_fields (reply.Delivery r) = kind_text kind.Delivery ∷ codes "ok" ∷ map number_or_dash r.orders
outcome_fields (reply.StockLevel r) = kind_text kind.StockLevel ∷ codes "ok" ∷ decimal r.low_stock ∷ []
outcome_fields (reply.Refused kind refusal) = kind_text kind ∷ codes "refused" ∷ refusal_fields refusal

-- the record of a reply
abbrev pub reply_fields : ℕ → Reply → Fields
reply_fields number r = decimal number ∷ outcome_fields r

-- its text, with its line feed
abbrev pub reply_text : ℕ → Reply → List ℕ
reply_text number r = text_of_record (reply_fields number r)
