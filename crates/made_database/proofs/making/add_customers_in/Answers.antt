use Rattle.std.proofs.Common.{◌+◌}
use Rattle.made_database.specs.Made.{made_customer, with_records}
use Rattle.loader.specs.Gathered.{gathered_database}
use Rattle.made_database.proofs.MadeSteps.{each-none, is_number, one_step, past_customers}
use Rattle.made_database.proofs.making.add_customers_in.Goals as goal

pub loop-d-init : goal.loop-d-init
loop-d-init c = (each-none (λ d. with_records c.args.count (made_customer c.args.warehouse d)) (gathered_database c.args.tables.now), c.requires.before)

pub loop-d-preserved : goal.loop-d-preserved
loop-d-preserved c =
    let number = is_number 1 10 c.loop-d.d c.unwrap-district.result c.new.result c.new.ensures c.unwrap-district.ensures in (
      one_step c.loop-d.d c.unwrap-district.result (λ d. with_records c.args.count (made_customer c.args.warehouse d)) (gathered_database c.args.tables.now) (gathered_database c.loop-d.tables) (gathered_database c.add_customers_of.new.tables) number c.loop-d.auto.d c.loop-d.invariant.0 c.in_ok-add_customers_of.ensures.ok,
      past_customers c.args.warehouse c.loop-d.d c.unwrap-district.result (c.args.count + 1) (gathered_database c.add_customers_of.new.tables) number c.in_ok-add_customers_of.ensures.before,
    )
