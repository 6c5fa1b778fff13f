use Rattle.std.proofs.Common.{◌+◌, arith}
use Rattle.sha2_lanes.proofs.Schedules.{AreAt_at}
use Rattle.sha2_lanes.proofs.rounds.four_steps_and_extend.Goals as goal

pub returns : goal.returns
returns c j lt b h held =
    let t = c.args.t in
    let two = c.step_and_extend-variables-2 in
    let three = c.step_and_extend-variables-3 in
    let four = c.step_and_extend in
    let s1 = c.step_and_extend-variables.ensures j lt b h held in
    let s2 = AreAt_at j two.new.words two.result b h (t + 1 + 1) (t + 2) (omega arith) (two.ensures j lt b h s1) in
    let s3 = AreAt_at j three.new.words three.result b h (t + 2 + 1) (t + 3) (omega arith) (three.ensures j lt b h s2) in
    AreAt_at j four.new.words four.result b h (t + 3 + 1) (t + 4) (omega arith) (four.ensures j lt b h s3)
