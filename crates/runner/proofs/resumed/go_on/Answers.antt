use Rattle.runner.proofs.ResumedLemmas.{batches_resumed, left_going_on, no_image_resumed, sink_resumed, taken_told, went_on}
use Rattle.runner.proofs.resumed.go_on.Goals as goal

pub returns-in-Err-clause-err : goal.returns-in-Err-clause-err
returns-in-Err-clause-err g c =
    taken_told (g.B.TellingSource.left c.args.batches.now) (g.B.TellingSource.given c.args.batches.now) c.in-Err.taken c.args.executor.now c.args.from (g.S.Sink.taken c.args.sink.now) c.in-Err.ensures.err

pub returns-clause-ok : goal.returns-clause-ok
returns-clause-ok g c =
    went_on (g.B.TellingSource.left c.args.batches.now) (g.B.TellingSource.given c.args.batches.now) (g.B.TellingSource.given c.run_and_tell-ran.new.batches) (g.S.Sink.taken c.args.sink.now) (g.S.Sink.taken c.run_and_tell-ran.new.sink)
    c.args.executor.now c.stand.new.executor c.args.from c.run_and_tell-ran.result.0 c.ended.result c.run_and_tell-ran.result.1 c.in-Ok.ensures.ok.0 c.in-Ok.ensures.ok.1 c.ended.ensures c.run_and_tell-ran.ensures.ok

pub returns-clause-err : goal.returns-clause-err
returns-clause-err g c =
    left_going_on (g.B.TellingSource.left c.args.batches.now) (g.B.TellingSource.given c.args.batches.now) (g.B.TellingSource.given c.run_and_tell-ran.new.batches) (g.S.Sink.taken c.args.sink.now) (g.S.Sink.taken c.run_and_tell-ran.new.sink)
    c.args.executor.now c.stand.new.executor c.args.from c.run_and_tell-ran.result.0 c.ended.result c.run_and_tell-ran.result.1 c.in-Ok.ensures.ok.0 c.in-Ok.ensures.ok.1 c.ended.ensures c.run_and_tell-ran.ensures.err

pub returns-clause-image_read : goal.returns-clause-image_read
returns-clause-image_read g c = no_image_resumed c.run_and_tell-ran.result.0 c.ended.result c.ended.ensures c.run_and_tell-ran.ensures.kinds

pub returns-clause-batches_failures : goal.returns-clause-batches_failures
returns-clause-batches_failures g c = batches_resumed _ _ c.run_and_tell-ran.result.0 c.ended.result c.ended.ensures c.run_and_tell-ran.ensures.batches_failures

pub returns-clause-sink_failures : goal.returns-clause-sink_failures
returns-clause-sink_failures g c = sink_resumed _ _ c.run_and_tell-ran.result.0 c.ended.result c.ended.ensures c.run_and_tell-ran.ensures.sink_failures
