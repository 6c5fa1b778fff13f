use Rattle.std.proofs.Common.{◌+◌, ◌≤◌, arith, length}
use Rattle.merkle.proofs.Placing.{all-done}
use Rattle.merkle.proofs.Texts.{step_done, step_left, step_long}
use Rattle.merkle.proofs.helped.finish.Goals as goal

pub loop-start-preserved : goal.loop-start-preserved
loop-start-preserved g c =
    let value = g.P.Places.hash c.args.sharing.now.places.now in
    let s = c.loop-start.start in
    let e = s + c.min.result in
    let now = c.loop-start.jobs in
    let before = c.loop-start.invariant in
    let high : e ≤ length now = omega (arith, c.min.ensures, before.inside) in
    record {
      inside = step_long value now c.finish_group.new.jobs s e high c.finish_group.ensures;
      done = step_done value c.args.jobs.now now c.finish_group.new.jobs s e (omega arith) high before.done c.finish_group.ensures;
      left = step_left value c.args.jobs.now now c.finish_group.new.jobs s e (omega arith) high before.left c.finish_group.ensures;
    }

pub returns : goal.returns
returns g c = all-done (g.P.Places.hash c.args.sharing.now.places.now) c.loop-start.start c.args.jobs.now c.loop-start.jobs c.loop-start-test.false c.loop-start.invariant.done
