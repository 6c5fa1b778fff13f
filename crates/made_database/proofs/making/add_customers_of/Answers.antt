use Rattle.std.proofs.Common.{◌∙◌, ap}
use Rattle.made_database.specs.Made.{made_customer}
use Rattle.loader.specs.Gathered.{gathered_database}
use Rattle.made_database.proofs.MadeSteps.{is_number, keys_of_customers, none_said, not_taken, one_said}
use Rattle.made_database.proofs.making.add_customers_of.Goals as goal

pub loop-c-init : goal.loop-c-init
loop-c-init c = none_said (keys_of_customers c.args.warehouse c.args.district) (gathered_database c.args.tables.now) c.requires.before

pub add-requires : goal.add-requires
add-requires c =
    let number = is_number 1 3000 c.loop-c.c c.unwrap-customer.result c.new.result c.new.ensures c.unwrap-customer.ensures in
    not_taken (keys_of_customers c.args.warehouse c.args.district) c.loop-c.c c.in_ok-said.said (gathered_database c.loop-c.tables) (c.in_ok-said.ensures ∙ ap (made_customer c.args.warehouse c.args.district) number) c.loop-c.invariant.1

pub loop-c-preserved : goal.loop-c-preserved
loop-c-preserved c =
    let number = is_number 1 3000 c.loop-c.c c.unwrap-customer.result c.new.result c.new.ensures c.unwrap-customer.ensures in
    one_said (keys_of_customers c.args.warehouse c.args.district) c.loop-c.c c.in_ok-said.said (gathered_database c.args.tables.now) (gathered_database c.loop-c.tables) (gathered_database c.add.new.tables) (c.in_ok-said.ensures ∙ ap (made_customer c.args.warehouse c.args.district) number) c.loop-c.auto.c c.loop-c.invariant.0 c.loop-c.invariant.1 c.in_ok-add.ensures
