use Rattle.std.proofs.Common.{◌∙◌, ap}
use Rattle.made_database.specs.Made.{made_item}
use Rattle.loader.specs.Gathered.{gathered_database}
use Rattle.made_database.proofs.MadeSteps.{is_number, keys_of_items, none_said, not_taken, one_said}
use Rattle.made_database.proofs.making.add_items.Goals as goal

pub loop-i-init : goal.loop-i-init
loop-i-init c = none_said keys_of_items (gathered_database c.args.tables.now) c.requires.before

pub add-requires : goal.add-requires
add-requires c =
    let number = is_number 1 999999 c.loop-i.i c.unwrap-item.result c.new.result c.new.ensures c.unwrap-item.ensures in
    not_taken keys_of_items c.loop-i.i c.made_item.result (gathered_database c.loop-i.tables) (c.made_item.ensures ∙ ap made_item number) c.loop-i.invariant.1

pub loop-i-preserved : goal.loop-i-preserved
loop-i-preserved c =
    let number = is_number 1 999999 c.loop-i.i c.unwrap-item.result c.new.result c.new.ensures c.unwrap-item.ensures in
    one_said keys_of_items c.loop-i.i c.made_item.result (gathered_database c.args.tables.now) (gathered_database c.loop-i.tables) (gathered_database c.add.new.tables) (c.made_item.ensures ∙ ap made_item number) c.loop-i.auto.i c.loop-i.invariant.0 c.loop-i.invariant.1 c.in_ok-add.ensures
