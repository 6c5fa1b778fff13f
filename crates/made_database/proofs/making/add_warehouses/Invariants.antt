use Rattle.std.proofs.Common.{◌≡◌, ◌-◌}
use Rattle.catalog.specs.declared.card.CardKey.TheVariants as card_key
use Rattle.made_database.specs.Made.{AreBefore, made_warehouse, with_records}
use Rattle.loader.specs.Gathered.{gathered_database}
use Rattle.made_database.proofs.making.add_warehouses.Given as goal

abbrev pub invariant-loop-w : goal.invariant-loop-w
invariant-loop-w l = (gathered_database l.tables ≡ with_records (l.w - 1) made_warehouse (gathered_database l.fn.tables)) × AreBefore (card_key.Warehouse l.w) (gathered_database l.tables)
