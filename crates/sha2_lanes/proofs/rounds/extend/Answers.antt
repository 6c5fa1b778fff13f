use Rattle.std.proofs.Common.{refl}
use Rattle.sha2_lanes.proofs.Schedules.{extended}
use Rattle.sha2_lanes.proofs.rounds.extend.Goals as goal

pub returns : goal.returns
returns c j lt b held =
    extended j c.args.words.now b c.args.t _ c.requires.low c.requires.high held
    (rw (
      c.add-2.ensures j lt,
      c.add.ensures j lt,
      c.add-near.ensures j lt,
      c.small_sigma1.ensures j lt,
      c.small_sigma0.ensures j lt,
    )
    refl)
