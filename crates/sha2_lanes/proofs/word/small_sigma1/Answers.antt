use Rattle.std.proofs.Common.{arith, slice_index}
use Rattle.sha2_lanes.proofs.Rotations.{gathered_two}
use Rattle.sha2_lanes.proofs.word.small_sigma1.Goals as goal

pub returns : goal.returns
returns c j lt =
    rw (
      c.xor-2.ensures j lt,
      c.shift_right-3.ensures j lt,
      c.shift_left-2.ensures.value j lt,
      c.xor-right.ensures j lt,
      c.xor-left.ensures j lt,
      c.xor.ensures j lt,
      c.shift_right.ensures j lt,
      c.shift_right-2.ensures j lt,
      c.shift_left.ensures.value j lt,
    )
    (gathered_two (slice_index c.args.x j) 10 7 9 13 2 (omega arith) (omega arith) (omega arith) (omega arith) (c.shift_left.ensures.fits j lt))
