use Rattle.std.proofs.Common.{◌≡◌, ◌<◌, [], ℕ, slice_index_or, vec_len}
use Rattle.sha2_lanes.specs.Padding.{second_block}
use Rattle.sha2_lanes.specs.Schedules.{AreSums}
use Rattle.sha2_lanes.proofs.second_blocks.SecondBlocks.new.Given as goal

abbrev pub invariant-bytes : goal.invariant-bytes
invariant-bytes l = record {
  long : vec_len l.rows ≡ l.last;
  each : (k : ℕ) → k < l.last → AreSums (slice_index_or l.rows.items k []) (second_block k);
}
