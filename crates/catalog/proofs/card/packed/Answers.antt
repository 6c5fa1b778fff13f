use Rattle.std.proofs.Common.{◌∙◌, ap, arith, subst, sym}
use Rattle.std.specs.List.{flat_map}
use Rattle.std.proofs.lemmas.List.{take_all}
use Rattle.catalog.specs.Infos.{ArePacked, padded}
use Rattle.catalog.proofs.Packing.{laid_packed}
use Rattle.catalog.proofs.card.packed.Goals as goal

pub returns : goal.returns
returns c =
    let texts = c.args.texts.now in
    let width = c.width_for-width.result in
    let all = c.loop-text.invariant ∙ ap (flat_map (padded width)) (take_all c.loop-text.text-index texts (omega arith)) in
    subst (ArePacked texts) (sym all) (laid_packed width texts (grind arith) c.width_for-width.ensures.bound c.width_for-width.ensures.fits)
