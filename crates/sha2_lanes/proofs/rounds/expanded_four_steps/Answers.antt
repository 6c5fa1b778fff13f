use Rattle.std.proofs.Common.{ap, ◌∙◌, arith}
use Rattle.sha2.specs.Sha256.{rounds, schedule}
use Rattle.sha2_lanes.proofs.rounds.expanded_four_steps.Goals as goal

pub returns : goal.returns
returns c j lt b h are held =
    let after = rounds h (schedule b 48) in
    let s1 = c.expanded_step-variables.ensures j lt b h are held in
    let s2 = c.expanded_step-variables-2.ensures j lt b h are s1 in
    let s3 = c.expanded_step-variables-3.ensures j lt b h are (s2 ∙ ap after (omega arith)) in
    c.expanded_step.ensures j lt b h are (s3 ∙ ap after (omega arith)) ∙ ap after (omega arith)
