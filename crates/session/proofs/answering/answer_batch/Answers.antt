use Rattle.std.proofs.Common.{arith}
use Rattle.rollback.specs.declared.points.TheConstants.{POINTS}
use Rattle.runner.proofs.ExecutedBatches.{admitted_fits, count_of_replies, recorded_text}
use Rattle.runner.specs.Runs.{NumbersFit}
use Rattle.session.proofs.SessionLemmas.{executed}
use Rattle.session.proofs.answering.answer_batch.Goals as goal

pub batch_text-requires-clause-high : goal.batch_text-requires-clause-high
batch_text-requires-clause-high g c =
    let chain = c.args.executor.now in
    let batch = c.args.batch.now in
    let count = count_of_replies _ chain.cards chain.present batch c.in-Ok.record c.in-Ok.ensures.record in
    let fits : NumbersFit chain.present batch = admitted_fits POINTS chain batch c.in-Ok.ensures.admitted in
    let first = c.in-Ok.ensures.record.first in
    omega (arith, count, fits.1, first)

pub returns-in-Ok-clause-text : goal.returns-in-Ok-clause-text
returns-in-Ok-clause-text g c =
    let chain = c.args.executor.now in
    let batch = c.args.batch.now in
    executed c.batch_text.result batch chain c.execute-executed.new.self _ c.in-Ok.ensures.admitted c.in-Ok.ensures.chain
    (recorded_text chain.cards chain.present batch c.in-Ok.record c.in-Ok.ensures.record) c.batch_text.ensures
