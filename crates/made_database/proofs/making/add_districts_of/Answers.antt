use Rattle.std.proofs.Common.{◌∙◌, ap}
use Rattle.made_database.specs.Made.{made_district}
use Rattle.loader.specs.Gathered.{gathered_database}
use Rattle.made_database.proofs.MadeSteps.{is_number, keys_of_districts, none_said, not_taken, one_said}
use Rattle.made_database.proofs.making.add_districts_of.Goals as goal

pub loop-d-init : goal.loop-d-init
loop-d-init c = none_said (keys_of_districts c.args.warehouse) (gathered_database c.args.tables.now) c.requires

pub add-requires : goal.add-requires
add-requires c =
    let number = is_number 1 10 c.loop-d.d c.unwrap-district.result c.new.result c.new.ensures c.unwrap-district.ensures in
    not_taken (keys_of_districts c.args.warehouse) c.loop-d.d c.made_district.result (gathered_database c.loop-d.tables) (c.made_district.ensures ∙ ap (made_district c.args.warehouse) number) c.loop-d.invariant.1

pub loop-d-preserved : goal.loop-d-preserved
loop-d-preserved c =
    let number = is_number 1 10 c.loop-d.d c.unwrap-district.result c.new.result c.new.ensures c.unwrap-district.ensures in
    one_said (keys_of_districts c.args.warehouse) c.loop-d.d c.made_district.result (gathered_database c.args.tables.now) (gathered_database c.loop-d.tables) (gathered_database c.add.new.tables) (c.made_district.ensures ∙ ap (made_district c.args.warehouse) number) c.loop-d.auto.d c.loop-d.invariant.0 c.loop-d.invariant.1 c.in_ok-add.ensures
