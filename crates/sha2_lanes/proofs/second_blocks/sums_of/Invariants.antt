use Rattle.std.proofs.Common.{◌≡◌, ◌<◌, ℕ, length, slice_index}
use Rattle.sha2.specs.Sha256.{add32, round_constants, schedule}
use Rattle.sha2_lanes.specs.Schedules.{AreWords}
use Rattle.sha2_lanes.proofs.second_blocks.sums_of.Given as goal

abbrev pub invariant-schedule : goal.invariant-schedule
invariant-schedule l = AreWords 0 l.words l.block l.t

abbrev pub invariant-sums : goal.invariant-sums
invariant-sums l = record {
  long : length l.sums ≡ 64;
  sums : (k : ℕ) → k < l.t → slice_index l.sums k ≡ add32 (slice_index round_constants k) (slice_index (schedule l.block 48) k);
}
