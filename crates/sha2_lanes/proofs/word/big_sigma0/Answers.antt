use Rattle.std.proofs.Common.{arith, slice_index}
use Rattle.sha2_lanes.proofs.Rotations.{gathered_three}
use Rattle.sha2_lanes.proofs.word.big_sigma0.Goals as goal

pub returns : goal.returns
returns c j lt =
    rw (
      c.xor-3.ensures j lt,
      c.shift_right-3.ensures j lt,
      c.shift_left-3.ensures.value j lt,
      c.xor-right.ensures j lt,
      c.xor-left.ensures j lt,
      c.xor.ensures j lt,
      c.xor-2.ensures j lt,
      c.shift_right.ensures j lt,
      c.shift_right-2.ensures j lt,
      c.shift_left.ensures.value j lt,
      c.shift_left-2.ensures.value j lt,
    )
    (gathered_three (slice_index c.args.x j) 2 11 20 10 9 20 (omega arith) (omega arith) (omega arith) (omega arith) (omega arith) (omega arith)
    (c.shift_left.ensures.fits j lt))
