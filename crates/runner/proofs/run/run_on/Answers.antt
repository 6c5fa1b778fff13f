use Rattle.std.proofs.Common.{rules}
use Rattle.std.proofs.lemmas.Result.{IfErr-weaker, IfOk-weaker, on_ok_weaker}
use Rattle.runner.proofs.SourcedRuns.{counted_read, unread_told}
use Rattle.runner.proofs.WholeLemmas.{counted_none, no_batches_read}
use Rattle.runner.proofs.run.run_on.Goals as goal
use Rattle.telling.proofs.SourceLemmas.{of_text}

pub returns-in-Err-clause-err : goal.returns-in-Err-clause-err
returns-in-Err-clause-err g c =
    let chain = c.args.executor.now in
    let left = g.B.TellingSource.left c.args.batches.now in
    let before = g.B.TellingSource.given c.args.batches.now in
    let after = g.B.TellingSource.given c.read_batches.new.batches in
    unread_told left before after c.in-Err.error chain.cards chain.present chain (g.S.Sink.taken c.args.sink.now) (search rules) c.in-Err.ensures.err

pub returns-in-Err-clause-batches_failures : goal.returns-in-Err-clause-batches_failures
returns-in-Err-clause-batches_failures g c =
    counted_read (g.B.TellingSource.failed c.args.batches.now) (g.B.TellingSource.failed c.read_batches.new.batches) c.in-Err.error (λ is. c.in-Err.ensures.read cc) c.in-Err.ensures.no_read

pub returns-clause-ok : goal.returns-clause-ok
returns-clause-ok g c =
    let left = g.B.TellingSource.left c.args.batches.now in
    let before = g.B.TellingSource.given c.args.batches.now in
    let after = g.B.TellingSource.given c.read_batches.new.batches in
    IfOk-weaker c.run_given.result _ _ (λ count ran. of_text left before after c.in-Ok.text.items _ c.in-Ok.ensures.whole ran) c.run_given.ensures.ok

pub returns-clause-chain : goal.returns-clause-chain
returns-clause-chain g c =
    let left = g.B.TellingSource.left c.args.batches.now in
    let before = g.B.TellingSource.given c.args.batches.now in
    let after = g.B.TellingSource.given c.read_batches.new.batches in
    on_ok_weaker c.run_given.result (λ chain. of_text left before after c.in-Ok.text.items _ c.in-Ok.ensures.whole chain) c.run_given.ensures.chain

pub returns-clause-err : goal.returns-clause-err
returns-clause-err g c =
    let left = g.B.TellingSource.left c.args.batches.now in
    let before = g.B.TellingSource.given c.args.batches.now in
    let after = g.B.TellingSource.given c.read_batches.new.batches in
    IfErr-weaker c.run_given.result _ _ (λ e leaves. of_text left before after c.in-Ok.text.items _ c.in-Ok.ensures.whole leaves) c.run_given.ensures.err

pub returns-clause-batches_failures : goal.returns-clause-batches_failures
returns-clause-batches_failures g c =
    counted_none (g.B.TellingSource.failed c.args.batches.now) (g.B.TellingSource.failed c.read_batches.new.batches) _ (no_batches_read c.run_given.result c.run_given.ensures.kinds) (c.in-Ok.ensures.no_read (λ is. cc))
