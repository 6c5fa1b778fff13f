use Rattle.std.proofs.Common.{◌≡◌, ◌-◌}
use Rattle.catalog.specs.declared.card.CardKey.TheVariants as card_key
use Rattle.made_database.specs.Made.{AreBefore, made_district, with_records}
use Rattle.loader.specs.Gathered.{gathered_database}
use Rattle.made_database.proofs.making.add_districts_of.Given as goal

abbrev pub invariant-loop-d : goal.invariant-loop-d
invariant-loop-d l = (gathered_database l.tables ≡ with_records (l.d - 1) (made_district l.warehouse) (gathered_database l.fn.tables)) × AreBefore (card_key.District l.warehouse l.d) (gathered_database l.tables)
