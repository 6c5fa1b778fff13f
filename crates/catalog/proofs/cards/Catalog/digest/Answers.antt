use Rattle.std.proofs.Common.{◌∷◌, ◌++◌, ◌+◌, drop, sym, ap, ◌∙◌, append-nil, append_assoc}
use Rattle.std.proofs.lemmas.List.{at_drop_more, drop_all}
use Rattle.sha2.specs.Sha256.{sha256}
use Rattle.catalog.specs.CardBytes.{cards_bytes, catalog_digest}
use Rattle.catalog.proofs.cards.Catalog.digest.Goals as goal

pub loop-key-preserved : goal.loop-key-preserved
loop-key-preserved c =
    let (message, holds, whole) = c.loop-key.invariant in
    let es = c.cards-key-items.result.now in
    let e = c.loop-key-item.result in
    let rest = drop (c.loop-key.key-index + 1) es in (
      message ++ c.as_slice.result.now,
      c.update.ensures message holds,
      append_assoc message c.as_slice.result.now (cards_bytes rest)
          ∙ ap (λ bytes. message ++ (bytes ++ cards_bytes rest)) (c.as_slice.ensures.value ∙ c.encode_card.ensures)
          ∙ ap (λ x. message ++ cards_bytes (x ∷ rest)) c.loop-key-item.is
          ∙ sym (at_drop_more (λ left. message ++ cards_bytes left) es c.loop-key.key-index e c.loop-key-test.true) ∙ whole,
    )

pub returns : goal.returns
unfolding catalog_digest
returns c =
    let i = c.loop-key.invariant in
    c.finalize.ensures i.0 i.1 ∙ ap sha256 (sym (append-nil i.0) ∙ ap (λ es. i.0 ++ cards_bytes es) (sym (drop_all c.loop-key.key-index c.cards-key-items.result.now c.loop-key-test.false)) ∙ i.2)
