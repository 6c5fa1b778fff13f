use Rattle.std.proofs.Common.{◌≡◌, arith, length, subst}
use Rattle.bit_sets.specs.BitSets.{has_bit}
use Rattle.merkle.specs.Nodes.{AreJoinedTo}
use Rattle.merkle.proofs.levels.rejoin_level.Goals as goal

pub returns-clause-to : goal.returns-clause-to
returns-clause-to c =
    let level = c.args.level in
    let nodes = c.loop-next.nodes in
    let all : c.loop-next.next ≡ length nodes = omega (arith, c.loop-next.invariant.inside, c.loop-next-test.false) in
    subst (λ next. AreJoinedTo level.low level.high next nodes (has_bit c.loop-next.marks.words)) all c.loop-next.invariant.to
