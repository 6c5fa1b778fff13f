use Rattle.std.proofs.Common.{◌∙◌, ap}
use Rattle.made_database.specs.Made.{made_warehouse}
use Rattle.loader.specs.Gathered.{gathered_database}
use Rattle.made_database.proofs.MadeSteps.{is_number, keys_of_warehouses, none_said, not_taken, one_said}
use Rattle.made_database.proofs.making.add_warehouses.Goals as goal

pub loop-w-init : goal.loop-w-init
loop-w-init c = none_said keys_of_warehouses (gathered_database c.args.tables.now) c.requires.before

pub add-requires : goal.add-requires
add-requires c =
    let number = is_number 1 100 c.loop-w.w c.unwrap-warehouse.result c.new.result c.new.ensures c.unwrap-warehouse.ensures in
    not_taken keys_of_warehouses c.loop-w.w c.made_warehouse.result (gathered_database c.loop-w.tables) (c.made_warehouse.ensures ∙ ap made_warehouse number) c.loop-w.invariant.1

pub loop-w-preserved : goal.loop-w-preserved
loop-w-preserved c =
    let number = is_number 1 100 c.loop-w.w c.unwrap-warehouse.result c.new.result c.new.ensures c.unwrap-warehouse.ensures in
    one_said keys_of_warehouses c.loop-w.w c.made_warehouse.result (gathered_database c.args.tables.now) (gathered_database c.loop-w.tables) (gathered_database c.add.new.tables) (c.made_warehouse.ensures ∙ ap made_warehouse number) c.loop-w.auto.w c.loop-w.invariant.0 c.loop-w.invariant.1 c.in_ok-add.ensures
