use Rattle.std.proofs.Common.{◌≢◌, ◌<◌, ◌+◌, arith, set, sym, take, ◌∙◌}
use Rattle.std.proofs.lemmas.List.{length-set, length-take-le, take_more_set}
use Rattle.bit_sets.specs.BitSets.{has_bit}
use Rattle.merkle.specs.Marking.{IsNext, IsNone, is_above}
use Rattle.merkle.specs.Nodes.{IsAtLevel}
use Rattle.merkle.proofs.Placing.{gathered-next, gathered-to, marked-next, same-above, up-to}
use Rattle.merkle.proofs.jobs.gather_nodes.Goals as goal

pub loop-next-preserved-then-i-end : goal.loop-next-preserved-then-i-end
loop-next-preserved-then-i-end c =
    let before = c.loop-next.invariant in
    let level = IsAtLevel c.args.level.low c.args.level.high in
    let first = c.args.marks.now.words in
    let same = same-above c.loop-next.marks.words first (take c.loop-next.count c.loop-next.jobs) c.args.level.low c.args.level.high c.args.from c.loop-next.next (is_above first) c.args.level.apart c.args.level.inside before.gathered before.marked in
    let none : IsNone level (is_above first) c.loop-next.next c.next_above-i.result = λ k l h at_level. sym (same k at_level) ∙ c.next_above-i.ensures.before k l h at_level in
    record {
      long = before.long;
      few = before.few;
      high = omega arith;
      gathered = gathered-to level (is_above first) c.args.from c.loop-next.next c.args.end _ before.high (up-to level (is_above first) c.loop-next.next c.next_above-i.result c.args.end c.if-i-end.true none) before.gathered;
      marked = before.marked;
    }

pub loop-next-preserved : goal.loop-next-preserved
loop-next-preserved c =
    let before = c.loop-next.invariant in
    let level = IsAtLevel c.args.level.low c.args.level.high in
    let first = c.args.marks.now.words in
    let marks = c.loop-next.marks.words in
    let jobs = take c.loop-next.count c.loop-next.jobs in
    let after = set c.loop-next.jobs c.loop-next.count c.at.result in
    let more = take_more_set c.loop-next.jobs c.loop-next.count c.at.result (omega (arith, c.if-count-lt-MOST_JOBS.true, before.long)) in
    let i = c.next_above-i.result in
    let small : i < c.args.end = let ne : i ≢ c.args.end = c.if-i-end.false in omega (arith, ne, c.next_above-i.ensures.high) in
    let found = c.next_above-i.ensures.here small in
    let same = same-above marks first jobs c.args.level.low c.args.level.high c.args.from c.loop-next.next (is_above first) c.args.level.apart c.args.level.inside before.gathered before.marked in
    let next : IsNext level (is_above first) c.loop-next.next i = record {
      low = found.low;
      is = found.is;
      here = sym (same i found.is) ∙ found.here;
      before = λ k l h at_level. sym (same k at_level) ∙ found.before k l h at_level;
    } in
    record {
      long = length-set c.loop-next.jobs c.loop-next.count c.at.result ∙ before.long;
      few = omega (arith, c.if-count-lt-MOST_JOBS.true);
      high = omega (arith, small);
      gathered = gathered-next level (is_above first) c.args.from c.loop-next.next i jobs (take (c.loop-next.count + 1) after) c.at.result c.at.ensures more next before.gathered;
      marked = marked-next (has_bit first) (has_bit marks) (has_bit c.add.new.self.words) jobs (take (c.loop-next.count + 1) after) c.at.result i c.at.ensures more c.add.ensures before.marked;
    }

pub returns-else-count-lt-MOST_JOBS-clause-on : goal.returns-else-count-lt-MOST_JOBS-clause-on
returns-else-count-lt-MOST_JOBS-clause-on c =
    let before = c.loop-next.invariant in
    (omega (arith, before.gathered.few, length-take-le c.loop-next.count c.loop-next.jobs (omega (arith, before.few, before.long)), c.if-count-lt-MOST_JOBS.false), before.high)
