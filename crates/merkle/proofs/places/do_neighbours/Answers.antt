use Rattle.std.proofs.Common.{rules, ◌+◌, ◌-◌, ◌*◌, arith, drop, length, min}
use Rattle.std.proofs.lemmas.List.{length-take}
use Rattle.merkle.proofs.Placing.{all-done, all-kept, all-part, step-done}
use Rattle.merkle.proofs.places.do_neighbours.Goals as goal

pub do_group-requires : goal.do_group-requires
do_group-requires g c =
    let start = 4 * c.loop-group.group in
    let count = c.min-end.result - start in
    let there = all-part (λ job. g.P.Places.has c.args.places.now job.place) c.loop-group.jobs start count
    (all-kept (g.P.Places.has c.args.places.now) c.args.jobs.now c.loop-group.jobs c.loop-group.invariant.done.places c.requires.there) in
    (search rules, (c.requires.small, (omega (arith, length-take count (drop start c.loop-group.jobs), c.min-end.ensures), (c.loop-group.invariant.room, there))))

pub loop-group-preserved : goal.loop-group-preserved
loop-group-preserved g c =
    let len = c.loop-group.invariant.done.len in
    let last = c.min-end.ensures in
    let groups = c.div_ceil-group-end.ensures in
    let test = c.loop-group-test.true in
    record {
      done = step-done (g.P.Places.hash c.args.places.now) c.args.jobs.now c.loop-group.jobs c.do_group.new.jobs (4 * c.loop-group.group) c.min-end.result (min (4 * c.loop-group.group) (length c.args.jobs.now)) (min (4 * (c.loop-group.group + 1)) (length c.args.jobs.now))
          (omega (arith, len, last, groups, test)) (omega (arith, len, last, groups, test)) (omega (arith, len, last, groups, test)) (omega (arith, len, last, groups, test)) c.loop-group.invariant.done c.do_group.ensures.done;
      room = c.do_group.ensures.room;
    }

pub returns : goal.returns
returns g c =
    let len = c.loop-group.invariant.done.len in
    record {
      done = all-done (g.P.Places.hash c.args.places.now) (min (4 * c.loop-group.group) (length c.args.jobs.now)) c.args.jobs.now c.loop-group.jobs (omega (arith, len, c.div_ceil-group-end.ensures, c.loop-group-test.false)) c.loop-group.invariant.done;
      room = c.loop-group.invariant.room;
    }
