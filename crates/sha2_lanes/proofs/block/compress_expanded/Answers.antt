use Rattle.std.proofs.Common.{◌≡◌, ◌*◌, ◌∙◌, ap, refl, arith}
use Rattle.sha2.specs.Sha256.{compress, rounds, schedule}
use Rattle.sha2_lanes.specs.Lanes.{lane}
use Rattle.sha2_lanes.proofs.block.compress_expanded.Goals as goal

pub turns-init : goal.turns-init
unfolding rounds
turns-init c j lt b are = refl

pub turns-preserved : goal.turns-preserved
turns-preserved c j lt b are =
    let h = lane j c.args.state.now in
    let after = rounds h (schedule b 48) in
    let s1 = c.expanded_four_steps-variables.ensures j lt b h are (c.turns.invariant j lt b are) in
    c.expanded_four_steps-variables-in-turns.ensures j lt b h are s1 ∙ ap after (omega arith)

pub returns : goal.returns
unfolding compress
returns c j lt b are =
    let done : 8 * c.turns.turn ≡ 64 = omega (arith, c.turns.auto.turn-end) in
    let all = rw done at (c.turns.invariant j lt b are) in
    rw (
      ← all,
      c.add.ensures j lt,
      c.add-2.ensures j lt,
      c.add-3.ensures j lt,
      c.add-4.ensures j lt,
      c.add-5.ensures j lt,
      c.add-6.ensures j lt,
      c.add-7.ensures j lt,
      c.add-8.ensures j lt,
    )
    refl
