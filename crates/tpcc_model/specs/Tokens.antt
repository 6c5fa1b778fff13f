-- The token of a batch: the digest of its number, the previous token, the catalog, every row and every reply.
use Rattle.std.specs.Prelude.{ℕ, ◌+◌, List, [], ◌∷◌, ◌++◌, codes, length, replicate, unwrap_or, Option, Some, None}
use Rattle.std.specs.List.{flat_map}
use Rattle.sha2.specs.Sha256.{sha256}
use Rattle.catalog.specs.CardBytes.{catalog_digest}
use Rattle.catalog.specs.CardMap.{Cards}
use Rattle.requests.specs.Replies.{brand_text}
use Rattle.requests.specs.declared.reply.LineReply.{LineReply}
use Rattle.requests.specs.declared.reply.NewOrderReply.{NewOrderReply}
use Rattle.requests.specs.declared.reply.OrderStatusReply.{OrderStatusReply}
use Rattle.requests.specs.declared.reply.PaymentReply.{PaymentReply}
use Rattle.requests.specs.declared.reply.RequestRefusal.{RequestRefusal}
use Rattle.requests.specs.declared.reply.RequestRefusal.TheVariants as refusal
use Rattle.requests.specs.declared.reply.Reply.{Reply}
use Rattle.requests.specs.declared.reply.Reply.TheVariants as reply
use Rattle.requests.specs.declared.reply.ShownCredit.{ShownCredit}
use Rattle.requests.specs.declared.reply.ShownCredit.TheVariants as credit
use Rattle.requests.specs.declared.reply.ShownLine.{ShownLine}
use Rattle.requests.specs.declared.reply.ShownOrder.{ShownOrder}
use Rattle.requests.specs.declared.request.RequestKind.{RequestKind}
use Rattle.requests.specs.declared.request.RequestKind.TheVariants as kind
use Rattle.tpcc_rows.specs.Encodings.{bytes_16, bytes_32, bytes_64, maybe_moment, short_text, signed_32, signed_64}
use Rattle.tpcc_rows.specs.RowMap.{Rows}
use Rattle.tpcc_model.specs.Roots.{root}

-- ---- replies
abbrev pub kind_code : RequestKind → ℕ
kind_code kind.NewOrder = 1
kind_code kind.Payment = 2
kind_code kind.OrderStatus = 3
kind_code kind.Delivery = 4
kind_code kind.StockLevel = 5

abbrev pub refusal_status : RequestRefusal → ℕ
refusal_status refusal.ItemNotValid = 1
refusal_status refusal.UnknownKey = 2
refusal_status refusal.LimitReached = 3

-- the stock, the brand and the amount of a line
abbrev pub line_reply_bytes : LineReply → List ℕ
line_reply_bytes line = signed_32 line.stock ++ brand_text line.brand ++ bytes_32 line.amount

abbrev pub new_order_bytes : NewOrderReply → List ℕ
new_order_bytes r = bytes_32 r.order ++ signed_64 r.total ++ length r.lines ∷ flat_map line_reply_bytes r.lines

-- the credit, and the data shown for bad credit
abbrev pub credit_bytes : ShownCredit → List ℕ
credit_bytes credit.Good = codes "GC"
credit_bytes (credit.Bad shown) = codes "BC" ++ short_text shown

abbrev pub payment_bytes : PaymentReply → List ℕ
payment_bytes r = bytes_16 r.customer ++ signed_64 r.balance ++ credit_bytes r.credit

abbrev pub shown_line_bytes : ShownLine → List ℕ
shown_line_bytes line = bytes_32 line.item ++ line.supply ∷ line.quantity ∷ (bytes_32 line.amount ++ maybe_moment line.delivery)

abbrev pub shown_order_bytes : ShownOrder → List ℕ
shown_order_bytes o = bytes_32 o.order ++ bytes_64 o.entry ++ unwrap_or o.carrier 0 ∷ length o.lines ∷ flat_map shown_line_bytes o.lines

-- 0; or 1, then the order
abbrev pub last_order_bytes : Option ShownOrder → List ℕ
last_order_bytes None = 0 ∷ []
last_order_bytes (Some o) = 1 ∷ shown_order_bytes o

abbrev pub order_status_bytes : OrderStatusReply → List ℕ
order_status_bytes r = bytes_16 r.customer ++ short_text r.first ++ short_text r.middle ++ short_text r.last ++ signed_64 r.balance ++ last_order_bytes r.order

-- the number of a delivered order, or 0
abbrev pub order_or_zero : Option ℕ → List ℕ
order_or_zero order = bytes_32 (unwrap_or order 0)

-- the kind, the status (0 if done), and the result
abbrev pub outcome_bytes : Reply → List ℕ
outcome_bytes (reply.NewOrder r) = kind_code kind.NewOrder ∷ 0 ∷ new_order_bytes r
outcome_bytes (reply.Payment r) = kind_code kind.Payment ∷ 0 ∷ payment_bytes r
outcome_bytes (reply.OrderStatus r) = kind_code kind.OrderStatus ∷ 0 ∷ order_status_bytes r
outcome_bytes (reply.Delivery r) = kind_code kind.Delivery ∷ 0 ∷ flat_map order_or_zero r.orders
outcome_bytes (reply.StockLevel r) = kind_code kind.StockLevel ∷ 0 ∷ bytes_32 r.low_stock
outcome_bytes (reply.Refused kind refusal) = kind_code kind ∷ refusal_status refusal ∷ []

unfoldable pub reply_bytes : ℕ → Reply → List ℕ
reply_bytes number r = bytes_64 number ++ outcome_bytes r

-- the bytes of replies, numbered from this one on
abbrev pub replies_bytes : ℕ → List Reply → List ℕ
replies_bytes number [] = []
replies_bytes number (r ∷ replies) = reply_bytes number r ++ replies_bytes (number + 1) replies

unfoldable pub replies_digest : ℕ → List Reply → List ℕ
replies_digest first replies = sha256 (replies_bytes first replies)

-- ---- tokens
-- the token of these parts
unfoldable pub token_of : ℕ → List ℕ → List ℕ → List ℕ → List ℕ → List ℕ
token_of sequence prior catalog rows replies = sha256 (codes "EVE-TPCC-2" ++ bytes_64 sequence ++ prior ++ catalog ++ rows ++ replies)

-- the token of a batch: its number, the previous token, the database after it, and the replies, numbered from this one on
abbrev pub batch_token : ℕ → List ℕ → Cards → Rows → ℕ → List Reply → List ℕ
batch_token sequence prior cards rows first replies = token_of sequence prior (catalog_digest cards) (root rows) (replies_digest first replies)

-- the token before the opening state
abbrev pub no_token : List ℕ
no_token = replicate 32 0
