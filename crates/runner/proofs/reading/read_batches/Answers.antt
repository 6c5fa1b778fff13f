use Rattle.runner.proofs.SourcedRuns.{inputs_told}
use Rattle.runner.proofs.reading.read_batches.Goals as goal

pub returns-clause-err : goal.returns-clause-err
returns-clause-err g c =
    inputs_told (g.B.TellingSource.left c.args.batches.now) (g.B.TellingSource.given c.args.batches.now) (g.B.TellingSource.given c.slurp_told.new.source) c.slurp_told.result c.slurp_told.ensures.kinds c.slurp_told.ensures.err
