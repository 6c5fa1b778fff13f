use Rattle.std.proofs.Common.{◌+◌, ◌-◌, ◌≤◌, arith, length}
use Rattle.merkle.proofs.Placing.{all-done}
use Rattle.merkle.proofs.Texts.{as_long, part_there, step_done, step_long}
use Rattle.merkle.proofs.helped.do_rounds.Goals as goal

pub do_round-requires : goal.do_round-requires
do_round-requires g c =
    let value = g.P.Places.hash c.args.sharing.now.places.now in
    let s = c.loop-start.start in
    let len = c.min-len.result in
    let now = c.loop-start.jobs in
    let before = c.loop-start.invariant in (
      omega (arith, c.requires.small),
      (
        c.requires.small,
        (
          c.requires.size,
          (
            as_long now c.loop-start.texts s len (omega (arith, c.min-len.ensures, before.inside)) (omega (arith, before.room, c.min-len.ensures)),
            part_there (g.P.Places.has c.args.sharing.now.places.now) value c.args.jobs.now now s (s + len - s) before.done c.requires.there,
          ),
        ),
      ),
    )

pub loop-start-preserved : goal.loop-start-preserved
loop-start-preserved g c =
    let value = g.P.Places.hash c.args.sharing.now.places.now in
    let s = c.loop-start.start in
    let e = s + c.min-len.result in
    let now = c.loop-start.jobs in
    let before = c.loop-start.invariant in
    let high : e ≤ length now = omega (arith, c.min-len.ensures, before.inside) in
    record {
      inside = step_long value now c.do_round.new.jobs s e high c.do_round.ensures;
      room = omega (arith, before.room, c.loop-start.auto.texts, c.do_round.auto.texts);
      done = step_done value c.args.jobs.now now c.do_round.new.jobs s e (omega arith) high before.done c.do_round.ensures;
    }

pub returns : goal.returns
returns g c = all-done (g.P.Places.hash c.args.sharing.now.places.now) c.loop-start.start c.args.jobs.now c.loop-start.jobs c.loop-start-test.false c.loop-start.invariant.done
