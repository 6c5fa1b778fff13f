use Rattle.std.proofs.Common.{rules, [], sym, append-nil}
use Rattle.std.specs.Io.KnownBytes.{Appends}
use Rattle.runner.proofs.RunLemmas.{then_kept}
use Rattle.runner.specs.StoredRuns.{state_image}
use Rattle.runner.proofs.stored_run.store_state.Goals as goal

pub returns-then-is_err-2-clause-err : goal.returns-then-is_err-2-clause-err
returns-then-is_err-2-clause-err g c =
    let text = state_image c.args.executor.now.cards c.args.executor.now.present in
    let written : Appends (g.K.Sink.taken c.args.tables.now) (g.K.Sink.taken c.push_all.new.sink) text = search rules in
    (text, [], sym (append-nil text), then_kept _ _ _ _ written c.flush.ensures.bytes)
