use Rattle.std.proofs.Common.{ap, ◌∙◌}
use Rattle.std.specs.FinMap as map
use Rattle.catalog.specs.CardMap.{cards_in}
use Rattle.catalog.proofs.cards.Catalog.get.Goals as goal

pub returns : goal.returns
returns c = c.found.ensures ∙ ap (λ rows. map.get (cards_in rows) c.args.key.now) c.deref.ensures.value ∙ ap (λ m. map.get m c.args.key.now) c.self.view_is
