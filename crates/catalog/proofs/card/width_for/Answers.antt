use Rattle.std.proofs.Common.{All, arith, subst}
use Rattle.std.proofs.lemmas.List.{take_all}
use Rattle.tpcc_rows.specs.Texts.{IsText}
use Rattle.catalog.proofs.Packing.{one_more, wider}
use Rattle.catalog.proofs.card.width_for.Goals as goal

pub loop-text-preserved : goal.loop-text-preserved
loop-text-preserved c =
    let kept = c.loop-text.invariant in
    let is = wider c.width_needed.result c.max-width.result c.text-item.result (grind arith) c.width_needed.ensures.enough in
    record {
      bound = one_more c.loop-text.width c.max-width.result c.loop-text.text-index c.args.texts.now c.text-item.result (omega arith) kept.bound (grind arith) c.text-item.is is;
      fits = grind arith;
    }

pub returns-clause-bound : goal.returns-clause-bound
returns-clause-bound c =
    subst (All (IsText c.loop-text.width)) (take_all c.loop-text.text-index c.args.texts.now (omega arith)) c.loop-text.invariant.bound
