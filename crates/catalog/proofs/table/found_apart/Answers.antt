use Rattle.std.proofs.Common.{Ok, Err, refl, sym}
use Rattle.tpcc_rows.proofs.Places.{at-place, got, got-none}
use Rattle.catalog.specs.CardMap.{card_key_cmp}
use Rattle.catalog.proofs.CardKeys.{card_key_cmp_total, exact_cards}
use Rattle.catalog.proofs.table.found_apart.Goals as goal

pub returns-in-Ok : goal.returns-in-Ok
returns-in-Ok c =
    let there = at-place card_key_cmp c.args.cards.now c.args.cards.now c.args.key.now c.place_of.result (Ok c.in-Ok.place) refl c.in-Ok.is c.place_of.ensures in
    sym (got card_key_cmp_total exact_cards c.args.cards.now c.args.key.now c.in-Ok.place c.requires there c.index-cards-place.result)

pub returns-in-Err : goal.returns-in-Err
returns-in-Err c =
    let absent = at-place card_key_cmp c.args.cards.now c.args.cards.now c.args.key.now c.place_of.result (Err c.in-Err.field-0) refl c.in-Err.is c.place_of.ensures in
    sym (got-none card_key_cmp_total exact_cards c.args.cards.now c.args.key.now c.in-Err.field-0 c.requires absent)
