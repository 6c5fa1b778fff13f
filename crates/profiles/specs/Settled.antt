-- Settled requests: what they touch depends on the cards alone, and is the same on any rows.
use Rattle.std.specs.Prelude.{◌≡◌, Bool, true, false}
use Rattle.std.specs.FinMap as map
use Rattle.catalog.specs.CardMap.{Cards}
use Rattle.requests.specs.declared.request.Request.{Request}
use Rattle.requests.specs.declared.request.Request.TheVariants as request
use Rattle.serializability.specs.Footprints.{Footprint}
use Rattle.tpcc_model.specs.Database.{database}
use Rattle.tpcc_model.specs.Touches.{touch}
use Rattle.tpcc_rows.specs.RowMap.{Rows}
use Rattle.tpcc_rows.specs.declared.granule.Granule.{Granule}

abbrev pub is_settled : Request → Bool
is_settled (request.NewOrder p) = true
is_settled (request.Payment p) = true
is_settled (request.OrderStatus p) = true
is_settled (request.Delivery p) = false
is_settled (request.StockLevel p) = false

-- what is touched where there are no rows
abbrev pub touch_by_cards : Cards → Request → Footprint Granule
touch_by_cards cards q = touch (database cards map.empty) q

-- the law: a settled request touches the same on any rows
abbrev pub SettledTouchesAreByCards : Type 0
SettledTouchesAreByCards = (cards : Cards) (rows : Rows) (q : Request) → is_settled q ≡ true → touch (database cards rows) q ≡ touch_by_cards cards q
