-- The kinds of cards.
use Rattle.std.specs.Prelude.{Option, Some, None}
use Rattle.catalog.specs.declared.card.CardKey.{CardKey}
use Rattle.catalog.specs.declared.card.CardKey.TheVariants as key
use Rattle.catalog.specs.declared.card.Card.{Card}
use Rattle.catalog.specs.declared.card.Card.TheVariants as card
use Rattle.catalog.specs.declared.card.WarehouseCard.{WarehouseCard}
use Rattle.catalog.specs.declared.card.DistrictCard.{DistrictCard}
use Rattle.catalog.specs.declared.card.CustomerCard.{CustomerCard}
use Rattle.catalog.specs.declared.card.StockCard.{StockCard}
use Rattle.catalog.specs.declared.card.ItemCard.{ItemCard}

abbrev pub card_key : Card → CardKey
card_key (card.Warehouse c) = key.Warehouse c.warehouse
card_key (card.District c) = key.District c.warehouse c.district
card_key (card.Customer c) = key.Customer c.warehouse c.district c.customer
card_key (card.Stock c) = key.Stock c.warehouse c.item
card_key (card.Item c) = key.Item c.item

abbrev pub as_warehouse : Card → Option WarehouseCard
as_warehouse (card.Warehouse c) = Some c
as_warehouse _ = None

abbrev pub as_district : Card → Option DistrictCard
as_district (card.District c) = Some c
as_district _ = None

abbrev pub as_customer : Card → Option CustomerCard
as_customer (card.Customer c) = Some c
as_customer _ = None

abbrev pub as_stock : Card → Option StockCard
as_stock (card.Stock c) = Some c
as_stock _ = None

abbrev pub as_item : Card → Option ItemCard
as_item (card.Item c) = Some c
as_item _ = None
