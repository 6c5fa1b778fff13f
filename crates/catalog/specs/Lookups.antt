-- What the cards have at a key.
use Rattle.std.specs.Prelude.{ℕ, Option, option_and_then}
use Rattle.std.specs.FinMap as map
use Rattle.catalog.specs.declared.card.CardKey.TheVariants.{Warehouse, District, Customer, Stock, Item}
use Rattle.catalog.specs.declared.card.WarehouseCard.{WarehouseCard}
use Rattle.catalog.specs.declared.card.DistrictCard.{DistrictCard}
use Rattle.catalog.specs.declared.card.CustomerCard.{CustomerCard}
use Rattle.catalog.specs.declared.card.StockCard.{StockCard}
use Rattle.catalog.specs.declared.card.ItemCard.{ItemCard}
use Rattle.catalog.specs.CardKinds.{as_warehouse, as_district, as_customer, as_stock, as_item}
use Rattle.catalog.specs.CardMap.{Cards}

abbrev pub warehouse_card : Cards → ℕ → Option WarehouseCard
warehouse_card cards w = option_and_then as_warehouse (map.get cards (Warehouse w))

abbrev pub district_card : Cards → ℕ → ℕ → Option DistrictCard
district_card cards w d = option_and_then as_district (map.get cards (District w d))

abbrev pub customer_card : Cards → ℕ → ℕ → ℕ → Option CustomerCard
customer_card cards w d c = option_and_then as_customer (map.get cards (Customer w d c))

abbrev pub stock_card : Cards → ℕ → ℕ → Option StockCard
stock_card cards w i = option_and_then as_stock (map.get cards (Stock w i))

abbrev pub item_card : Cards → ℕ → Option ItemCard
item_card cards i = option_and_then as_item (map.get cards (Item i))
