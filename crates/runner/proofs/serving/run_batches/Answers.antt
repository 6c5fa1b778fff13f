use Rattle.std.proofs.Common.{rules, ◌≤◌, ◌∙◌, ◌∷◌, ◌++◌, [], Ok, arith, length-append, append-nil, ap, inr, subst, sym}
use Rattle.std.specs.Io.KnownBytes.{Appends}
use Rattle.executor.specs.Chains.{Chain, committed, extended}
use Rattle.requests.specs.Batches.{batches}
use Rattle.runner.specs.ReadingAhead.{IsNext}
use Rattle.runner.specs.Runs.{Completes, LeavesBatch, chain_on}
use Rattle.runner.specs.Text.{batch_text, text}
use Rattle.runner.proofs.RunLemmas.{all_read, completed-more, completed-none, left_in_batch, chain-more, next_in, next-serial, nothing_taken, reading-more, stopped_behind, stops_by_records, text-more, then_kept, took_none}
use Rattle.runner.proofs.ShortBatches.{short_batch}
use Rattle.runner.proofs.serving.run_batches.Goals as goal

pub serve_and_read-requires-clause-alone : goal.serve_and_read-requires-clause-alone
serve_and_read-requires-clause-alone g c _ _ =
    let (same, done, before, read, ahead, count, chain, completed, written) = c.batches.invariant in
    ap (λ (l : Chain). l.earlier) chain

pub serve_and_read-requires-clause-low : goal.serve_and_read-requires-clause-low
serve_and_read-requires-clause-low g c _ _ =
    let (same, done, before, read, ahead, count, chain, completed, written) = c.batches.invariant in
    subst (λ (l : Chain). 1 ≤ l.present.next) (sym chain) (next-serial c.args.executor.now.cards c.args.executor.now.present done c.requires.low)

pub serve_and_read-requires-clause-few : goal.serve_and_read-requires-clause-few
serve_and_read-requires-clause-few g c _ _ =
    let (same, done, before, read, ahead, count, chain, completed, written) = c.batches.invariant in
    let split = subst (IsNext before c.batches.reader.left) (c.in-Ok-Some.is ∙ ap Ok c.in-Ok-Some.field-0-is) ahead in
    let parts = next_in _ before c.batches.reader.left done c.in-Ok-Some.batch read split in
    short_batch c.args.text.now done c.in-Ok-Some.batch c.batches.reader.left.0 parts

pub returns-in-Err-serve_and_read-clause-err : goal.returns-in-Err-serve_and_read-clause-err
returns-in-Err-serve_and_read-clause-err g c =
    let (same, done, before, read, ahead, count, chain, completed, written) = c.batches.invariant in
    let cards = c.args.executor.now.cards in
    let state = c.args.executor.now.present in
    let split = subst (IsNext before c.batches.reader.left) (c.in-Ok-Some.is ∙ ap Ok c.in-Ok-Some.field-0-is) ahead in
    let parts = next_in _ before c.batches.reader.left done c.in-Ok-Some.batch read split in
    let left = subst (λ (l : Chain). LeavesBatch c.in-Err-serve_and_read.fault l c.serve_and_read.new.executor c.in-Ok-Some.batch (g.S.Sink.taken c.batches.sink) (g.S.Sink.taken c.serve_and_read.new.sink)) chain c.in-Err-serve_and_read.ensures.served.err in
    left_in_batch cards state c.args.text.now done c.in-Ok-Some.batch c.batches.reader.left.0 _ _ _ parts completed written c.in-Err-serve_and_read.fault c.serve_and_read.new.executor left

pub returns-in-Err-next-clause-err : goal.returns-in-Err-next-clause-err
returns-in-Err-next-clause-err g c =
    let (same, done, before, read, ahead, count, chain, completed, written) = c.batches.invariant in
    let stops = (subst (IsNext before c.batches.reader.left) c.in-Err-next.is ahead).0 in
    (done, stopped_behind c.args.executor.now.cards c.args.executor.now.present c.args.text.now before done c.in-Err-next.error _ _ read completed written stops, chain)

pub batches-preserved : goal.batches-preserved
batches-preserved g c =
    let (same, done, before, read, ahead, count, chain, completed, written) = c.batches.invariant in
    let cards = c.args.executor.now.cards in
    let state = c.args.executor.now.present in
    let batch = c.in-Ok-Some.batch in
    let split = reading-more _ before c.batches.reader.left done batch read (subst (IsNext before c.batches.reader.left) (c.in-Ok-Some.is ∙ ap Ok c.in-Ok-Some.field-0-is) ahead) in
    let long = length-append done (batch ∷ []) in (
      search rules,
      done ++ batch ∷ [],
      c.batches.reader.left,
      split,
      c.in-Ok-serve_and_read.ensures.next,
      omega (arith, long, count),
      c.in-Ok-serve_and_read.ensures.served.chain ∙ ap (λ (l : Chain). committed (extended l batch)) chain ∙ chain-more cards state done batch,
      completed-more cards state done batch completed (subst (λ (l : Chain). Completes l.cards l.present batch) chain c.in-Ok-serve_and_read.ensures.served.completed),
      text-more cards state done batch _ _ _ written (subst (λ (l : Chain). Appends (g.S.Sink.taken c.batches.sink) (g.S.Sink.taken c.serve_and_read.new.sink) (batch_text l.cards l.present batch)) chain c.in-Ok-serve_and_read.ensures.served.text),
    )

pub returns-then-is_err-clause-err : goal.returns-then-is_err-clause-err
returns-then-is_err-clause-err g c =
    let (same, done, before, read, ahead, count, chain, completed, written) = c.batches.invariant in
    let cards = c.args.executor.now.cards in
    let state = c.args.executor.now.present in
    let end = (subst (IsNext before c.batches.reader.left) (c.in-Ok-None.is ∙ ap Ok c.in-Ok-None.field-0-is) ahead).0 in
    let all = all_read _ before done read end in
    (done, ([], all ∙ sym (append-nil done), completed, (text cards state done, [], sym (append-nil (text cards state done)), then_kept _ _ _ _ written c.flush.ensures.bytes)), chain)

pub returns-clause-chain : goal.returns-clause-chain
returns-clause-chain g c =
    let (same, done, before, read, ahead, count, chain, completed, written) = c.batches.invariant in
    let end = (subst (IsNext before c.batches.reader.left) (c.in-Ok-None.is ∙ ap Ok c.in-Ok-None.field-0-is) ahead).0 in
    let all = all_read _ before done read end in
    chain ∙ ap (chain_on c.args.executor.now.cards c.args.executor.now.present) (sym all)

pub returns-in-Err-next-clause-kinds : goal.returns-in-Err-next-clause-kinds
returns-in-Err-next-clause-kinds g c =
    let (same, done, before, read, ahead, count, chain, completed, written) = c.batches.invariant in
    let stops = (subst (IsNext before c.batches.reader.left) c.in-Err-next.is ahead).0 in
    stops_by_records c.args.text.now before done c.in-Err-next.error read stops

pub returns-in-Err-clause-err : goal.returns-in-Err-clause-err
returns-in-Err-clause-err g c =
    ([], inr (inr (search rules, took_none c.args.executor.now.cards c.args.executor.now.present (batches c.args.text.now).0 (g.S.Sink.taken c.args.sink.now) c.requires.sound)), search rules)

pub batches-init : goal.batches-init
batches-init g c =
    (search rules, [], c.in-Ok.reader.left, search rules, search rules, search rules, search rules, completed-none c.args.executor.now.cards c.args.executor.now.present c.requires.sound, nothing_taken (g.S.Sink.taken c.args.sink.now))
