use Rattle.std.proofs.Common.{◌≡◌, ◌-◌}
use Rattle.catalog.specs.declared.card.CardKey.TheVariants as card_key
use Rattle.made_database.specs.Made.{AreBefore, made_customer, with_records}
use Rattle.loader.specs.Gathered.{gathered_database}
use Rattle.made_database.proofs.making.add_customers_of.Given as goal

abbrev pub invariant-loop-c : goal.invariant-loop-c
invariant-loop-c l = (gathered_database l.tables ≡ with_records (l.c - 1) (made_customer l.warehouse l.district) (gathered_database l.fn.tables)) × AreBefore (card_key.Customer l.warehouse l.district l.c) (gathered_database l.tables)
