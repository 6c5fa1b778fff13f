use Rattle.std.proofs.Common.{rules, ◌≡◌, ◌∙◌, arith, subst}
use Rattle.std.specs.Io.KnownBytes.{Appends}
use Rattle.records.specs.Io.{AppendsFront}
use Rattle.runner.specs.Runs.{NumbersFit}
use Rattle.runner.specs.Text.{batch_text}
use Rattle.rollback.specs.declared.points.TheConstants.{POINTS}
use Rattle.runner.proofs.ExecutedBatches.{admitted_fits, completes, count_of_replies, recorded_text}
use Rattle.runner.proofs.serving.serve_batch.Goals as goal

pub batch_text-requires-clause-high : goal.batch_text-requires-clause-high
batch_text-requires-clause-high g c =
    let chain = c.args.executor.now in
    let batch = c.args.batch.now in
    let count = count_of_replies _ chain.cards chain.present batch c.in-Ok.record c.in-Ok.ensures.record in
    let fits : NumbersFit chain.present batch = admitted_fits POINTS chain batch c.in-Ok.ensures.admitted in
    let first = c.in-Ok.ensures.record.first in
    omega (arith, count, fits.1, first)

pub returns-then-is_err-clause-err : goal.returns-then-is_err-clause-err
returns-then-is_err-clause-err g c =
    let chain = c.args.executor.now in
    let batch = c.args.batch.now in
    let text : c.as_slice.result.now ≡ batch_text chain.cards chain.present batch = c.as_slice.ensures.value ∙ c.in-Ok-batch_text.ensures ∙ recorded_text chain.cards chain.present batch c.in-Ok.record c.in-Ok.ensures.record in
    let front : AppendsFront (g.S.Sink.taken c.args.sink.now) (g.S.Sink.taken c.push_all.new.sink) c.as_slice.result.now = search rules in
    (completes chain c.execute.new.self batch c.in-Ok.ensures.admitted c.in-Ok.ensures.chain c.in-Ok.ensures.sound, search rules, subst (AppendsFront (g.S.Sink.taken c.args.sink.now) (g.S.Sink.taken c.push_all.new.sink)) text front)

pub returns-clause-completed : goal.returns-clause-completed
returns-clause-completed g c = completes c.args.executor.now c.execute.new.self c.args.batch.now c.in-Ok.ensures.admitted c.in-Ok.ensures.chain c.in-Ok.ensures.sound

pub returns-clause-text : goal.returns-clause-text
returns-clause-text g c =
    let chain = c.args.executor.now in
    let batch = c.args.batch.now in
    let text : c.as_slice.result.now ≡ batch_text chain.cards chain.present batch = c.as_slice.ensures.value ∙ c.in-Ok-batch_text.ensures ∙ recorded_text chain.cards chain.present batch c.in-Ok.record c.in-Ok.ensures.record in
    let written : Appends (g.S.Sink.taken c.args.sink.now) (g.S.Sink.taken c.push_all.new.sink) c.as_slice.result.now = search rules in
    subst (Appends (g.S.Sink.taken c.args.sink.now) (g.S.Sink.taken c.push_all.new.sink)) text written
