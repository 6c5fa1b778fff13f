use Rattle.runner.proofs.ResumedLemmas.{left_and_told, ran_and_told}
use Rattle.runner.proofs.resumed.run_and_tell.Goals as goal

pub returns-in-Ok-clause-ok : goal.returns-in-Ok-clause-ok
returns-in-Ok-clause-ok g c =
    ran_and_told (g.B.TellingSource.left c.args.batches.now) (g.B.TellingSource.given c.args.batches.now) (g.B.TellingSource.given c.run_on.new.batches) (g.S.Sink.taken c.args.sink.now) (g.S.Sink.taken c.run_on.new.sink)
    c.args.executor.now c.run_on.new.executor c.in-Ok.count c.stamp.result c.stamp.ensures.value c.in-Ok.ensures.ok c.in-Ok.ensures.chain

pub returns-in-Err-clause-err : goal.returns-in-Err-clause-err
returns-in-Err-clause-err g c =
    left_and_told (g.B.TellingSource.left c.args.batches.now) (g.B.TellingSource.given c.args.batches.now) (g.B.TellingSource.given c.run_on.new.batches) (g.S.Sink.taken c.args.sink.now) (g.S.Sink.taken c.run_on.new.sink)
    c.in-Err.fault c.args.executor.now c.run_on.new.executor c.told_at.result c.told_at.ensures c.in-Err.ensures.err
