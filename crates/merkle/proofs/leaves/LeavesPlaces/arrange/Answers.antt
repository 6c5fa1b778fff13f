use Rattle.std.proofs.Common.{◌<◌, ◌∙◌}
use Rattle.tpcc_rows.specs.declared.codes.TheConstants.{LEAVES}
use Rattle.merkle.proofs.Placing.{all-kept}
use Rattle.merkle.proofs.leaves.LeavesPlaces.arrange.Goals as goal

pub measure-requires-2 : goal.measure-requires-2
measure-requires-2 c = all-kept (λ n. n < LEAVES) c.args.jobs.now c.measure.new.jobs c.measure.ensures.places c.requires

pub returns-clause-there : goal.returns-clause-there
returns-clause-there c =
    all-kept (λ n. n < LEAVES) c.args.jobs.now c.sort.new.jobs
    (λ n. c.sort.ensures.places n ∙ c.measure-2.ensures.places n ∙ c.measure.ensures.places n) c.requires
