use Rattle.std.proofs.Common.{◌≡◌, ◌-◌}
use Rattle.catalog.specs.declared.card.CardKey.TheVariants as card_key
use Rattle.made_database.specs.Made.{AreBefore, made_district, with_each, with_records}
use Rattle.loader.specs.Gathered.{gathered_database}
use Rattle.made_database.proofs.making.add_districts.Given as goal

abbrev pub invariant-loop-w : goal.invariant-loop-w
invariant-loop-w l = (gathered_database l.tables ≡ with_each (l.w - 1) (λ w. with_records 10 (made_district w)) (gathered_database l.fn.tables)) × AreBefore (card_key.District l.w 1) (gathered_database l.tables)
