use Rattle.std.proofs.Common.{◌≢◌, ◌<◌, arith}
use Rattle.bit_sets.specs.BitSets.{has_bit}
use Rattle.rollback.specs.Marks.{is_dirty}
use Rattle.merkle.proofs.Marking.{marked-more}
use Rattle.merkle.proofs.marks.mark_dirty.Goals as goal

pub loop-next-preserved : goal.loop-next-preserved
loop-next-preserved c =
    let n = c.next_dirty-n.result in
    let before = c.loop-next.invariant in
    let small : n < c.args.end = let ne : n ≢ c.args.end = c.if-n-end.false in omega (arith, ne, c.next_dirty-n.ensures.high) in
    let found = c.next_dirty-n.ensures.here small in
    record {
      low = omega (arith, before.low, found.low);
      high = omega (arith, small);
      marked = marked-more (is_dirty c.args.dirty.now) (has_bit c.loop-next.marks.words) (has_bit c.add.new.self.words) c.args.first c.loop-next.next n c.leaf_place.result before.low found.is found c.leaf_place.ensures c.add.ensures before.marked;
    }
