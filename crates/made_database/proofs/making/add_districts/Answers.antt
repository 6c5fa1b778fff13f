use Rattle.made_database.specs.Made.{made_district, with_records}
use Rattle.loader.specs.Gathered.{gathered_database}
use Rattle.made_database.proofs.MadeSteps.{each-none, is_number, one_step, past_districts}
use Rattle.made_database.proofs.making.add_districts.Goals as goal

pub loop-w-init : goal.loop-w-init
loop-w-init c = (each-none (λ w. with_records 10 (made_district w)) (gathered_database c.args.tables.now), c.requires.before)

pub loop-w-preserved : goal.loop-w-preserved
loop-w-preserved c =
    let number = is_number 1 100 c.loop-w.w c.unwrap-warehouse.result c.new.result c.new.ensures c.unwrap-warehouse.ensures in (
      one_step c.loop-w.w c.unwrap-warehouse.result (λ w. with_records 10 (made_district w)) (gathered_database c.args.tables.now) (gathered_database c.loop-w.tables) (gathered_database c.add_districts_of.new.tables) number c.loop-w.auto.w c.loop-w.invariant.0 c.in_ok-add_districts_of.ensures.ok,
      past_districts c.loop-w.w c.unwrap-warehouse.result (gathered_database c.add_districts_of.new.tables) number c.in_ok-add_districts_of.ensures.before,
    )
