use Rattle.std.proofs.Common.{◌∙◌, ap, slice_index, sym}
use Rattle.sha2.specs.Sha256.{round, round_constants, schedule}
use Rattle.sha2.proofs.Schedule256.{rounds_next}
use Rattle.sha2_lanes.proofs.rounds.expanded_step.Goals as goal

pub returns : goal.returns
returns c j lt b h are held =
    let constant = slice_index round_constants c.args.t in
    let word = slice_index (schedule b 48) c.args.t in
    c.round.ensures j lt constant word (c.sum_at.ensures j lt ∙ are c.args.t c.requires)
    ∙ ap (λ variables. round variables constant word) held
    ∙ sym (rounds_next h (schedule b 48) c.args.t)
