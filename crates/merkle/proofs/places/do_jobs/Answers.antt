use Rattle.std.proofs.Common.{rules, ◌+◌, ◌-◌, ◌*◌, arith, length, min}
use Rattle.merkle.proofs.Placing.{all-done, all-kept, all-part, step-done}
use Rattle.merkle.proofs.places.do_jobs.Goals as goal

pub do_window-requires : goal.do_window-requires
do_window-requires g c =
    let start = 128 * c.loop-window.window in
    let there = all-part (λ job. g.P.Places.has c.args.places.now job.place) c.loop-window.jobs start (c.min-end.result - start)
    (all-kept (g.P.Places.has c.args.places.now) c.args.jobs.now c.loop-window.jobs c.loop-window.invariant.done.places c.requires.there) in
    (search rules, (c.requires.small, (c.loop-window.invariant.room, there)))

pub loop-window-preserved : goal.loop-window-preserved
loop-window-preserved g c =
    let len = c.loop-window.invariant.done.len in
    let last = c.min-end.ensures in
    let groups = c.div_ceil-window-end.ensures in
    let test = c.loop-window-test.true in
    record {
      done = step-done (g.P.Places.hash c.args.places.now) c.args.jobs.now c.loop-window.jobs c.do_window.new.jobs (128 * c.loop-window.window) c.min-end.result (min (128 * c.loop-window.window) (length c.args.jobs.now)) (min (128 * (c.loop-window.window + 1)) (length c.args.jobs.now))
          (omega (arith, len, last, groups, test)) (omega (arith, len, last, groups, test)) (omega (arith, len, last, groups, test)) (omega (arith, len, last, groups, test)) c.loop-window.invariant.done c.do_window.ensures.done;
      room = c.do_window.ensures.room;
    }

pub returns : goal.returns
returns g c =
    let len = c.loop-window.invariant.done.len in
    all-done (g.P.Places.hash c.args.places.now) (min (128 * c.loop-window.window) (length c.args.jobs.now)) c.args.jobs.now c.loop-window.jobs (omega (arith, len, c.div_ceil-window-end.ensures, c.loop-window-test.false)) c.loop-window.invariant.done
