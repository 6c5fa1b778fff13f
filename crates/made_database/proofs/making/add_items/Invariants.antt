use Rattle.std.proofs.Common.{◌≡◌, ◌-◌}
use Rattle.catalog.specs.declared.card.CardKey.TheVariants as card_key
use Rattle.made_database.specs.Made.{AreBefore, made_item, with_records}
use Rattle.loader.specs.Gathered.{gathered_database}
use Rattle.made_database.proofs.making.add_items.Given as goal

abbrev pub invariant-loop-i : goal.invariant-loop-i
invariant-loop-i l = (gathered_database l.tables ≡ with_records (l.i - 1) made_item (gathered_database l.fn.tables)) × AreBefore (card_key.Item l.i) (gathered_database l.tables)
