use Rattle.std.proofs.Common.{◌∙◌}
use Rattle.catalog.proofs.InOrder.{has-place}
use Rattle.catalog.proofs.table.has.Goals as goal

pub returns : goal.returns
returns c = c.is_ok.ensures.value ∙ has-place c.args.cards.now c.args.key.now c.place_of.result c.requires c.place_of.ensures
