use Rattle.std.proofs.Common.{arith, refl, ◌∙◌, ◌<◌}
use Rattle.std.proofs.lemmas.List.{length-set}
use Rattle.tpcc_rows.specs.declared.codes.TheConstants.{LEAVES}
use Rattle.merkle.proofs.Placing.{all-kept, blank, has_place-set}
use Rattle.merkle.proofs.leaves.measure.Goals as goal

pub page-page-requires : goal.page-page-requires
page-page-requires c = all-kept (λ n. n < LEAVES) c.args.jobs.now c.loop-k.jobs c.loop-k.invariant.places c.requires c.loop-k.k blank (omega (arith, c.loop-k-test.true, c.loop-k.auto.jobs))

pub loop-k-preserved : goal.loop-k-preserved
loop-k-preserved c = record {
  len = length-set c.loop-k.jobs c.loop-k.k _ ∙ c.loop-k.invariant.len;
  places = λ n. has_place-set c.loop-k.jobs c.loop-k.k _ blank (omega (arith, c.loop-k-test.true, c.loop-k.auto.jobs)) refl n ∙ c.loop-k.invariant.places n;
}
