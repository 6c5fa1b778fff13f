use Rattle.std.proofs.Common.{◌≡◌, ◌∙◌, arith, refl, slice_index}
use Rattle.sha2.specs.Sha256.{digest_bytes, sha256}
use Rattle.sha2_lanes.specs.Lanes.{lane}
use Rattle.sha2_lanes.specs.Padding.{second_block}
use Rattle.sha2_lanes.proofs.Messages.{node_digest}
use Rattle.sha2_lanes.proofs.four.digests_of_four_nodes.Goals as goal

pub returns : goal.returns
returns c =
    let first : digest_bytes (lane 0 c.compress_expanded.new.state) 8 ≡ sha256 c.args.first.now =
    node_digest c.args.first.now (lane 0 c.compress.new.state) _ c.requires.first
    (rw (c.initial_state-state.ensures 0 (omega arith), c.first_block.ensures.value) at
    (c.compress.ensures.going 0 (omega arith) (c.splat.ensures 0 (omega arith)) c.first_block.result.now c.lay_words.ensures.first))
    (c.compress_expanded.ensures 0 (omega arith) (second_block (slice_index c.args.first.now 64)) c.row.ensures) in
    let second : digest_bytes (lane 1 c.compress_expanded.new.state) 8 ≡ sha256 c.args.second.now =
    node_digest c.args.second.now (lane 1 c.compress.new.state) _ c.requires.second
    (rw (c.initial_state-state.ensures 1 (omega arith), c.first_block-2.ensures.value) at
    (c.compress.ensures.going 1 (omega arith) (c.splat.ensures 1 (omega arith)) c.first_block-2.result.now c.lay_words.ensures.second))
    (c.compress_expanded.ensures 1 (omega arith) (second_block (slice_index c.args.second.now 64)) c.row-2.ensures) in
    let third : digest_bytes (lane 2 c.compress_expanded.new.state) 8 ≡ sha256 c.args.third.now =
    node_digest c.args.third.now (lane 2 c.compress.new.state) _ c.requires.third
    (rw (c.initial_state-state.ensures 2 (omega arith), c.first_block-3.ensures.value) at
    (c.compress.ensures.going 2 (omega arith) (c.splat.ensures 2 (omega arith)) c.first_block-3.result.now c.lay_words.ensures.third))
    (c.compress_expanded.ensures 2 (omega arith) (second_block (slice_index c.args.third.now 64)) c.row-3.ensures) in
    let fourth : digest_bytes (lane 3 c.compress_expanded.new.state) 8 ≡ sha256 c.args.fourth.now =
    node_digest c.args.fourth.now (lane 3 c.compress.new.state) _ c.requires.fourth
    (rw (c.initial_state-state.ensures 3 (omega arith), c.first_block-4.ensures.value) at
    (c.compress.ensures.going 3 (omega arith) (c.splat.ensures 3 (omega arith)) c.first_block-4.result.now c.lay_words.ensures.fourth))
    (c.compress_expanded.ensures 3 (omega arith) (second_block (slice_index c.args.fourth.now 64)) c.row-4.ensures) in
    c.digests.ensures ∙ rw (first, second, third, fourth) refl
