use Rattle.std.proofs.Common.{◌+◌, ◌*◌, ◌≤◌, arith, ◌∙◌}
use Rattle.merkle.specs.declared.marks.TheConstants.{BRANCH_LEAVES}
use Rattle.merkle.proofs.Joins.{width_le, wide}
use Rattle.merkle.proofs.alike.+fill_alike.Goals as goal

pub overflow_mul-low-2 : goal.overflow_mul-low-2
overflow_mul-low-2 t c = let small = width_le c.args.height c.args.low c.requires.width in search (arith, small)

pub overflow_mul-low-3 : goal.overflow_mul-low-3
overflow_mul-low-3 t c = let small = width_le c.args.height c.args.low c.requires.width in search (arith, small)

pub fill-requires-2-clause-high : goal.fill-requires-2-clause-high
fill-requires-2-clause-high t c = let small = width_le c.args.height c.args.low c.requires.width in omega (arith, small, c.fill_alike-below.ensures.full)

pub returns-clause-leaves : goal.returns-clause-leaves
returns-clause-leaves t c = λ n small.
    let half : 2 * c.args.low ≤ BRANCH_LEAVES = wide c.args.height c.args.low c.if-height-eq0.false c.requires.width in
    c.fill-2.ensures.above (BRANCH_LEAVES + n) (omega (arith, half)) ∙ c.fill_alike-below.ensures.leaves n small
