use Rattle.std.proofs.Common.{rules}
use Rattle.std.proofs.lemmas.Fn.{always_returns_same}
use Rattle.catalog.specs.CardMap.{card_key_cmp}
use Rattle.catalog.proofs.CardKeys.{card_key_cmp_total, exact_cards}
use Rattle.tpcc_rows.proofs.Places.{placed}
use Rattle.catalog.proofs.table.place_of.Goals as goal

pub returns : goal.returns
returns c =
    let facts = c.binary_search_by.ensures in
    placed card_key_cmp_total exact_cards c.args.cards.now c.args.key.now c.binary_search_by.result c.requires facts.bound
    (facts.position (λ e. card_key_cmp e.0 c.args.key.now) (always_returns_same _ _ _ (λ a r f k. search rules)))
