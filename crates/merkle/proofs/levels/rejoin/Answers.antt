use Rattle.std.proofs.Common.{arith, refl, ◌-◌, ◌/◌, ◌∙◌}
use Rattle.bit_sets.specs.BitSets.{has_bit}
use Rattle.merkle.proofs.Joins.{all-joined, lowest-level, next-level}
use Rattle.merkle.proofs.levels.rejoin.Goals as goal

pub loop-high-init : goal.loop-high-init
loop-high-init c = record {
  some = omega arith;
  inside = omega arith;
  len = refl;
  to = λ low. lowest-level c.args.nodes.now (has_bit c.args.marks.now.words) low c.requires.nearly;
  leaves = λ i h. refl;
}

pub rejoin_level-requires-clause-to : goal.rejoin_level-requires-clause-to
rejoin_level-requires-clause-to c = c.loop-high.invariant.to _

pub loop-high-preserved : goal.loop-high-preserved
loop-high-preserved c = record {
  some = omega (arith, c.loop-high.invariant.some);
  inside = omega (arith, c.loop-high.invariant.inside);
  len = c.rejoin_level.ensures.len ∙ c.loop-high.invariant.len;
  to = λ lower. next-level c.rejoin_level.new.nodes (has_bit c.rejoin_level.new.marks.words) lower (c.loop-high.high - c.loop-high.high / 2) c.loop-high.high c.rejoin_level.ensures.to;
  leaves = λ i h. c.rejoin_level.ensures.leaves i h ∙ c.loop-high.invariant.leaves i h;
}

pub returns-clause-branches : goal.returns-clause-branches
returns-clause-branches c = all-joined c.loop-high.nodes (has_bit c.loop-high.marks.words) 1 c.loop-high.high (omega (arith, c.loop-high-test.false)) (c.loop-high.invariant.to 1)
