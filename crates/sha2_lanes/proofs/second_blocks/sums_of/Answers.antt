use Rattle.std.proofs.Common.{◌∙◌, arith, slice_index}
use Rattle.std.proofs.lemmas.List.{length-set}
use Rattle.sha2.specs.Sha256.{add32, round_constants, schedule}
use Rattle.sha2_lanes.proofs.Schedules.{one_more}
use Rattle.sha2_lanes.proofs.second_blocks.sums_of.Goals as goal

pub schedule-preserved : goal.schedule-preserved
schedule-preserved c = c.extend.ensures 0 (omega arith) c.args.block.now c.schedule.invariant

pub sums-preserved : goal.sums-preserved
sums-preserved c =
    let b = c.args.block.now in
    let t = c.sums.t in
    let word = c.schedule.invariant.1 t (omega arith) in
    record {
      long = length-set c.sums.sums t _ ∙ c.sums.invariant.long;
      sums = one_more 0 (λ k. add32 (slice_index round_constants k) (slice_index (schedule b 48) k)) c.sums.sums t _ (omega (arith, c.sums.invariant.long))
          (rw (c.constant.ensures 0 (omega arith), word) at (c.add.ensures 0 (omega arith))) c.sums.invariant.sums;
    }
