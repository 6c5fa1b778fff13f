use Rattle.std.proofs.Common.{◌+◌, refl, subst, sym}
use Rattle.catalog.specs.declared.card.CardKey.TheVariants as card_key
use Rattle.made_database.specs.Made.{AreBefore}
use Rattle.loader.specs.Gathered.{gathered_database}
use Rattle.made_database.proofs.MadeSteps.{before-later, before-none}
use Rattle.made_database.proofs.making.fill.Goals as goal

pub add_warehouses-requires-clause-before : goal.add_warehouses-requires-clause-before
add_warehouses-requires-clause-before c = subst (AreBefore (card_key.Warehouse 1)) (sym c.requires.none) (before-none (card_key.Warehouse 1))

pub add_districts-requires-clause-before : goal.add_districts-requires-clause-before
add_districts-requires-clause-before c = before-later (card_key.Warehouse (c.args.warehouses + 1)) (card_key.District 1 1) (gathered_database c.add_warehouses.new.tables) refl c.in_ok-add_warehouses.ensures.before

pub add_customers-requires-clause-before : goal.add_customers-requires-clause-before
add_customers-requires-clause-before c = before-later (card_key.District (c.args.warehouses + 1) 1) (card_key.Customer 1 1 1) (gathered_database c.add_districts.new.tables) refl c.in_ok-add_districts.ensures.before

pub add_stocks-requires-clause-before : goal.add_stocks-requires-clause-before
add_stocks-requires-clause-before c = before-later (card_key.Customer (c.args.warehouses + 1) 1 1) (card_key.Stock 1 1) (gathered_database c.add_customers.new.tables) refl c.in_ok-add_customers.ensures.before

pub add_items-requires-clause-before : goal.add_items-requires-clause-before
add_items-requires-clause-before c = before-later (card_key.Stock (c.args.warehouses + 1) 1) (card_key.Item 1) (gathered_database c.add_stocks.new.tables) refl c.in_ok-add_stocks.ensures.before
