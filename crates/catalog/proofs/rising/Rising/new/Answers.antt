use Rattle.std.proofs.Common.{List, ◌++◌, ap₂}
use Rattle.tpcc_rows.proofs.Places.{no-entries}
use Rattle.catalog.specs.declared.card.Card.{Card}
use Rattle.catalog.specs.declared.card.CardKey.{CardKey}
use Rattle.catalog.proofs.CardKeys.{card_key_cmp_total, exact_cards}
use Rattle.catalog.proofs.rising.Rising.new.Goals as goal

pub returns : goal.returns
returns c = no-entries card_key_cmp_total exact_cards _ (ap₂ (λ (a b : List (CardKey × Card)). a ++ b) c.new.ensures.items c.new-2.ensures.items)
