use Rattle.std.proofs.Common.{arith}
use Rattle.std.proofs.lemmas.Result.{on_ok_weaker}
use Rattle.runner.proofs.SourcedRuns.{left_told, ran_told, unopened_told}
use Rattle.runner.proofs.WholeLemmas.{counted_none, no_image_read}
use Rattle.runner.proofs.run.run_text.Goals as goal

pub returns-in-Err-clause-err : goal.returns-in-Err-clause-err
returns-in-Err-clause-err g c =
    unopened_told (g.I.TellingSource.left c.args.image.now) (g.I.TellingSource.given c.args.image.now) (g.I.TellingSource.given c.load_told.new.image) (g.B.TellingSource.left c.args.batches.now) (g.B.TellingSource.given c.args.batches.now)
    c.in-Err.fault (g.S.Sink.taken c.args.sink.now) c.in-Err.ensures.err

pub returns-clause-ok : goal.returns-clause-ok
returns-clause-ok g c =
    ran_told (g.I.TellingSource.left c.args.image.now) (g.I.TellingSource.given c.args.image.now) (g.I.TellingSource.given c.load_told.new.image) (g.B.TellingSource.left c.args.batches.now) (g.B.TellingSource.given c.args.batches.now)
    (g.B.TellingSource.given c.run_on.new.batches) _ _ _ _ c.in-Ok.ensures.ok c.run_on.ensures.ok

pub returns-clause-err : goal.returns-clause-err
returns-clause-err g c =
    left_told (g.I.TellingSource.left c.args.image.now) (g.I.TellingSource.given c.args.image.now) (g.I.TellingSource.given c.load_told.new.image) (g.B.TellingSource.left c.args.batches.now) (g.B.TellingSource.given c.args.batches.now)
    (g.B.TellingSource.given c.run_on.new.batches) _ _ _ _ _ c.in-Ok.ensures.ok c.run_on.ensures.kinds c.run_on.ensures.err

pub returns-clause-image_failures : goal.returns-clause-image_failures
returns-clause-image_failures g c = counted_none _ _ _ (no_image_read c.run_on.result c.run_on.ensures.kinds) (omega (arith, c.in-Ok.ensures.image_failures))

pub returns-clause-over : goal.returns-clause-over
returns-clause-over g c = on_ok_weaker c.run_on.result (λ over. (c.in-Ok.ensures.over, over)) c.run_on.ensures.over
