-- What a request finds among the cards.
use Rattle.std.specs.Prelude.{ℕ, Bool, ◌&&◌, is_some, Result, Ok}
use Rattle.catalog.specs.CardMap.{Cards}
use Rattle.catalog.specs.Lookups.{item_card, stock_card}
use Rattle.requests.specs.declared.reply.RequestRefusal.{RequestRefusal}
use Rattle.requests.specs.declared.request.OrderedLine.{OrderedLine}
use Rattle.requests.specs.declared.request.Payment.{Payment}
use Rattle.tpcc_model.specs.Payments.{found_cards}
use Rattle.tpcc_model.specs.Staging.{◌>>=◌}

-- the item of a line of a new order has a card, and so has its stock
abbrev pub has_cards : Cards → OrderedLine → Bool
has_cards cards line = is_some (item_card cards line.item) && is_some (stock_card cards line.supply line.item)

-- the customer who pays
abbrev pub paying_customer : Cards → Payment → Result ℕ RequestRefusal
paying_customer cards p = do
  found ← found_cards cards p
  Ok found.customer_id
