use Rattle.std.proofs.Common.{◌≡◌, ◌+◌, arith}
use Rattle.sha2_lanes.proofs.rounds.step_and_extend.Goals as goal

pub returns : goal.returns
returns c j lt b h held =
    let words = c.extend.ensures j lt b held.0 in
    let place : c.args.t + 16 + 1 ≡ c.args.t + 1 + 16 = omega arith in
    (rw place at words, c.step-variables.ensures j lt b h (c.args.t + 16) (omega arith) held.0 held.1)
