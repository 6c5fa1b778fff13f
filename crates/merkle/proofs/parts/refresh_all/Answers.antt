use Rattle.std.proofs.Common.{rules, ◌≡◌, ◌*◌, ◌/◌, arith, length, subst}
use Rattle.std.specs.Fork.{slice_chunk}
use Rattle.merkle.specs.Nodes.{AreRefreshed}
use Rattle.merkle.specs.declared.marks.TheConstants.{BRANCH_LEAVES, BRANCH_NODES}
use Rattle.merkle.proofs.Chunks.{all-refreshed}
use Rattle.merkle.proofs.parts.refresh_all.Goals as goal

pub returns : goal.returns
returns g c =
    let dirty = c.args.change.now.dirty.now in
    let rows = c.args.change.now.leaves.store.now.rows in
    let old = c.args.nodes.now in
    let new = c.par_chunks_mut_for_each.new.s in
    let len : length new ≡ length old = search rules in
    all-refreshed dirty rows old new (omega (arith, c.requires.full)) len (λ n small.
    let at = c.par_chunks_mut_for_each.ensures.chunks n small in
    let first : n * BRANCH_NODES / 2 ≡ n * BRANCH_LEAVES = omega arith in
    subst (λ f. AreRefreshed dirty rows f (slice_chunk old BRANCH_NODES n) (slice_chunk new BRANCH_NODES n)) first
    (subst (λ nodes. AreRefreshed dirty rows (n * BRANCH_NODES / 2) nodes (slice_chunk new BRANCH_NODES n)) at.argument_is (subst (AreRefreshed dirty rows (n * BRANCH_NODES / 2) at.argument.now) at.left at.call)))
