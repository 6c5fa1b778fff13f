use Rattle.std.proofs.Common.{arith}
use Rattle.bit_sets.specs.BitSets.{has_bit}
use Rattle.merkle.proofs.Refreshing.{nearly}
use Rattle.merkle.proofs.parts.refresh_part.Goals as goal

pub rejoin-requires-clause-nearly : goal.rejoin-requires-clause-nearly
rejoin-requires-clause-nearly c =
    nearly c.args.nodes.now c.rehash.new.nodes c.args.change.now.dirty.now c.args.change.now.leaves.store.now.rows c.args.first (has_bit c.mark_dirty.new.marks.words)
    (λ m small. c.mark_dirty.ensures m (omega (arith, small))) c.rehash.ensures.leaves c.rehash.ensures.inner c.rehash.ensures.len c.requires.branches
