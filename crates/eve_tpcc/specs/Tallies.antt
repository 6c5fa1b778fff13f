-- What is counted of batches.
use Rattle.std.specs.Prelude.{◌+◌, ◌-◌, ◌^◌, ◌∷◌, [], ℕ, List, min}
use Rattle.eve_tpcc.specs.declared.tally.Outcomes.{Outcomes}
use Rattle.eve_tpcc.specs.declared.tally.Paths.{Paths}
use Rattle.eve_tpcc.specs.declared.tally.Refusals.{Refusals}
use Rattle.eve_tpcc.specs.declared.tally.Replies.{Replies}
use Rattle.executor.specs.declared.path.Path.{Path}
use Rattle.executor.specs.declared.path.Path.TheVariants as path
use Rattle.requests.specs.declared.reply.Reply.{Reply}
use Rattle.requests.specs.declared.reply.Reply.TheVariants as reply
use Rattle.requests.specs.declared.reply.RequestRefusal.{RequestRefusal}
use Rattle.requests.specs.declared.reply.RequestRefusal.TheVariants as refusal
use Rattle.requests.specs.declared.request.RequestKind.{RequestKind}
use Rattle.requests.specs.declared.request.RequestKind.TheVariants as kind

-- a count with this many more, at most the maximum of 64 bits
abbrev pub with_more : ℕ → ℕ → ℕ
with_more count more = min (count + more) (2 ^ 64 - 1)

-- with one more request refused for this reason
abbrev pub with_refusal : RequestRefusal → Refusals → Refusals
with_refusal refusal.ItemNotValid r = record r { item_not_valid = with_more r.item_not_valid 1 }
with_refusal refusal.UnknownKey r = record r { unknown_key = with_more r.unknown_key 1 }
with_refusal refusal.LimitReached r = record r { limit_reached = with_more r.limit_reached 1 }

-- with one more request carried out
abbrev pub with_done : Outcomes → Outcomes
with_done o = record o { done = with_more o.done 1 }

-- with one more request refused for this reason
abbrev pub with_refused : RequestRefusal → Outcomes → Outcomes
with_refused why o = record o { refused = with_refusal why o.refused }

-- with other outcomes of a kind
abbrev pub with_kind : RequestKind → (Outcomes → Outcomes) → Replies → Replies
with_kind kind.NewOrder change r = record r { new_order = change r.new_order }
with_kind kind.Payment change r = record r { payment = change r.payment }
with_kind kind.OrderStatus change r = record r { order_status = change r.order_status }
with_kind kind.Delivery change r = record r { delivery = change r.delivery }
with_kind kind.StockLevel change r = record r { stock_level = change r.stock_level }

-- with one more reply
abbrev pub with_reply : Reply → Replies → Replies
with_reply (reply.NewOrder _) r = with_kind kind.NewOrder with_done r
with_reply (reply.Payment _) r = with_kind kind.Payment with_done r
with_reply (reply.OrderStatus _) r = with_kind kind.OrderStatus with_done r
with_reply (reply.Delivery _) r = with_kind kind.Delivery with_done r
with_reply (reply.StockLevel _) r = with_kind kind.StockLevel with_done r
with_reply (reply.Refused kind refusal) r = with_kind kind (with_refused refusal) r

-- with these replies
abbrev pub with_replies : List Reply → Replies → Replies
with_replies [] r = r
with_replies (first ∷ rest) r = with_replies rest (with_reply first r)

-- with one more batch of this path
abbrev pub with_path : Path → Paths → Paths
with_path path.Parallel p = record p { parallel = with_more p.parallel 1 }
with_path path.Reran p = record p { reran = with_more p.reran 1 }
with_path path.Verdict p = record p { verdict = with_more p.verdict 1 }
with_path path.Sequential p = record p { sequential = with_more p.sequential 1 }
