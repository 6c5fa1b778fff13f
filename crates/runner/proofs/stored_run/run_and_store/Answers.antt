use Rattle.std.proofs.Common.{arith}
use Rattle.std.proofs.lemmas.Result.{on_ok_weaker}
use Rattle.runner.proofs.SourcedRuns.{left_stored_told, stored_whole_told, unopened_stored_told}
use Rattle.runner.proofs.StoredLemmas.{no_image_of}
use Rattle.runner.proofs.WholeLemmas.{counted_none}
use Rattle.runner.proofs.stored_run.run_and_store.Goals as goal

pub returns-clause-ok : goal.returns-clause-ok
returns-clause-ok g c =
    stored_whole_told (g.I.TellingSource.left c.args.image.now) (g.I.TellingSource.given c.args.image.now) (g.I.TellingSource.given c.load_told.new.image) (g.B.TellingSource.left c.args.batches.now) (g.B.TellingSource.given c.args.batches.now)
    (g.B.TellingSource.given c.run_and_store_on.new.batches) _ _ _ _ _ _ c.in-Ok.ensures.ok c.run_and_store_on.ensures.ok

pub returns-clause-err : goal.returns-clause-err
returns-clause-err g c =
    left_stored_told (g.I.TellingSource.left c.args.image.now) (g.I.TellingSource.given c.args.image.now) (g.I.TellingSource.given c.load_told.new.image) (g.B.TellingSource.left c.args.batches.now) (g.B.TellingSource.given c.args.batches.now)
    (g.B.TellingSource.given c.run_and_store_on.new.batches) _ _ _ _ _ _ c.in-Ok.ensures.ok c.run_and_store_on.ensures.err

pub returns-in-Err-clause-err : goal.returns-in-Err-clause-err
returns-in-Err-clause-err g c =
    unopened_stored_told (g.I.TellingSource.left c.args.image.now) (g.I.TellingSource.given c.args.image.now) (g.I.TellingSource.given c.load_told.new.image) (g.B.TellingSource.left c.args.batches.now) (g.B.TellingSource.given c.args.batches.now)
    c.in-Err.fault (g.S.Sink.taken c.args.sink.now) (g.K.Sink.taken c.args.tables.now) c.in-Err.ensures.err

pub returns-clause-image_failures : goal.returns-clause-image_failures
returns-clause-image_failures g c = counted_none _ _ _ (no_image_of c.run_and_store_on.result c.run_and_store_on.ensures.kinds) (omega (arith, c.in-Ok.ensures.image_failures))

pub returns-clause-over : goal.returns-clause-over
returns-clause-over g c = on_ok_weaker c.run_and_store_on.result (λ over. (c.in-Ok.ensures.over, over)) c.run_and_store_on.ensures.over
