use Rattle.std.proofs.Common.{◌≢◌, ◌<◌, arith, ◌∙◌}
use Rattle.std.proofs.lemmas.List.{length-set, length-take-le, take_more_set}
use Rattle.tpcc_rows.specs.declared.codes.TheConstants.{LEAVES}
use Rattle.rollback.specs.Marks.{is_dirty}
use Rattle.merkle.proofs.Placing.{gathered-next, gathered-to, up-to}
use Rattle.merkle.proofs.jobs.gather_leaves.Goals as goal

pub loop-next-preserved-then-n-end : goal.loop-next-preserved-then-n-end
loop-next-preserved-then-n-end c =
    let before = c.loop-next.invariant in
    record {
      long = before.long;
      few = before.few;
      high = omega arith;
      gathered = gathered-to (λ n. n < LEAVES) (is_dirty c.args.dirty.now) c.args.from c.loop-next.next c.args.end _ before.high
          (up-to (λ n. n < LEAVES) (is_dirty c.args.dirty.now) c.loop-next.next c.next_dirty-n.result c.args.end c.if-n-end.true c.next_dirty-n.ensures.before) before.gathered;
    }

pub loop-next-preserved : goal.loop-next-preserved
loop-next-preserved c =
    let before = c.loop-next.invariant in
    let n = c.next_dirty-n.result in
    let small : n < c.args.end = let ne : n ≢ c.args.end = c.if-n-end.false in omega (arith, ne, c.next_dirty-n.ensures.high) in
    record {
      long = length-set c.loop-next.jobs c.loop-next.count c.at.result ∙ before.long;
      few = omega (arith, c.if-count-lt-MOST_JOBS.true);
      high = omega (arith, small);
      gathered = gathered-next (λ n. n < LEAVES) (is_dirty c.args.dirty.now) c.args.from c.loop-next.next n _ _ c.at.result c.at.ensures
          (take_more_set c.loop-next.jobs c.loop-next.count c.at.result (omega (arith, c.if-count-lt-MOST_JOBS.true, before.long))) (c.next_dirty-n.ensures.here small) before.gathered;
    }

pub returns-else-count-lt-MOST_JOBS-clause-on : goal.returns-else-count-lt-MOST_JOBS-clause-on
returns-else-count-lt-MOST_JOBS-clause-on c =
    let before = c.loop-next.invariant in
    (omega (arith, before.gathered.few, length-take-le c.loop-next.count c.loop-next.jobs (omega (arith, before.few, before.long)), c.if-count-lt-MOST_JOBS.false), before.high)
