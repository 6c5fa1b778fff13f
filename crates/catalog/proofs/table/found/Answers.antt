use Rattle.std.proofs.Common.{refl, sym}
use Rattle.tpcc_rows.proofs.Places.{got}
use Rattle.catalog.proofs.CardKeys.{card_key_cmp_total, exact_cards}
use Rattle.catalog.proofs.table.found.Goals as goal

pub returns-then-guessed : goal.returns-then-guessed
returns-then-guessed c = sym (got card_key_cmp_total exact_cards c.args.cards.now c.args.key.now c.guess-guess.result c.requires (c.if-guessed.ensures refl) c.index-cards-guess.result)
