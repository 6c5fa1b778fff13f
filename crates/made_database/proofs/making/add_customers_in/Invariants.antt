use Rattle.std.proofs.Common.{◌≡◌, ◌-◌}
use Rattle.catalog.specs.declared.card.CardKey.TheVariants as card_key
use Rattle.made_database.specs.Made.{AreBefore, made_customer, with_each, with_records}
use Rattle.loader.specs.Gathered.{gathered_database}
use Rattle.made_database.proofs.making.add_customers_in.Given as goal

abbrev pub invariant-loop-d : goal.invariant-loop-d
invariant-loop-d l = (gathered_database l.tables ≡ with_each (l.d - 1) (λ d. with_records l.count (made_customer l.warehouse d)) (gathered_database l.fn.tables)) × AreBefore (card_key.Customer l.warehouse l.d 1) (gathered_database l.tables)
