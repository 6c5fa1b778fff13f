use Rattle.std.proofs.lemmas.Result.{IfErr-weaker, IfOk-weaker, on_ok_weaker}
use Rattle.runner.proofs.SourcedRuns.{counted_stored, stored_told}
use Rattle.runner.proofs.WholeLemmas.{counted_none}
use Rattle.runner.proofs.stored_run.run_and_store_on.Goals as goal
use Rattle.telling.proofs.SourceLemmas.{of_text}

pub returns-in-Ok-clause-ok : goal.returns-in-Ok-clause-ok
returns-in-Ok-clause-ok g c =
    let left = g.B.TellingSource.left c.args.batches.now in
    let before = g.B.TellingSource.given c.args.batches.now in
    let after = g.B.TellingSource.given c.read_batches.new.batches in
    IfOk-weaker c.store_given.result _ _ (λ count ran. of_text left before after c.in-Ok.text.items _ c.in-Ok.ensures.whole ran) c.store_given.ensures.ok

pub returns-in-Ok-clause-chain : goal.returns-in-Ok-clause-chain
returns-in-Ok-clause-chain g c =
    let left = g.B.TellingSource.left c.args.batches.now in
    let before = g.B.TellingSource.given c.args.batches.now in
    let after = g.B.TellingSource.given c.read_batches.new.batches in
    on_ok_weaker c.store_given.result (λ chain. of_text left before after c.in-Ok.text.items _ c.in-Ok.ensures.whole chain) c.store_given.ensures.chain

pub returns-in-Ok-clause-err : goal.returns-in-Ok-clause-err
returns-in-Ok-clause-err g c =
    let left = g.B.TellingSource.left c.args.batches.now in
    let before = g.B.TellingSource.given c.args.batches.now in
    let after = g.B.TellingSource.given c.read_batches.new.batches in
    IfErr-weaker c.store_given.result _ _ (λ e leaves. of_text left before after c.in-Ok.text.items _ c.in-Ok.ensures.whole leaves) c.store_given.ensures.err

pub returns-in-Ok-clause-batches_failures : goal.returns-in-Ok-clause-batches_failures
returns-in-Ok-clause-batches_failures g c =
    counted_none (g.B.TellingSource.failed c.args.batches.now) (g.B.TellingSource.failed c.read_batches.new.batches) _ c.store_given.ensures.none_read (c.in-Ok.ensures.no_read (λ is. cc))

pub returns-in-Err-clause-err : goal.returns-in-Err-clause-err
returns-in-Err-clause-err g c =
    let left = g.B.TellingSource.left c.args.batches.now in
    let before = g.B.TellingSource.given c.args.batches.now in
    let after = g.B.TellingSource.given c.read_batches.new.batches in
    stored_told left before after c.in-Err.error c.store_behind.result c.args.executor.now (g.S.Sink.taken c.args.sink.now) (g.K.Sink.taken c.args.tables.now) (g.K.Sink.taken c.store_behind.new.tables)
    c.requires.alone c.in-Err.ensures.err c.store_behind.ensures.stored

pub returns-in-Err-clause-batches_failures : goal.returns-in-Err-clause-batches_failures
returns-in-Err-clause-batches_failures g c =
    counted_stored (g.B.TellingSource.failed c.args.batches.now) (g.B.TellingSource.failed c.read_batches.new.batches) c.in-Err.error c.store_behind.result _ _ _ c.store_behind.ensures.stored
    (λ is. c.in-Err.ensures.read cc) c.in-Err.ensures.no_read
