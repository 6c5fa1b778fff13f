use Rattle.std.proofs.Common.{subst, sym}
use Rattle.requests.specs.declared.request.Request.{Request}
use Rattle.tpcc_model.specs.Steps.{step}
use Rattle.tpcc_model.specs.Touches.{touch}
use Rattle.transactions.specs.InPlace.{AnswersInPlace, loaned}
use Rattle.transactions.proofs.InPlace.{Answered, applied_answer}
use Rattle.transactions.proofs.transaction.executed_in_place_within.Goals as goal

pub returns-in-Delivery-clause-answer : goal.returns-in-Delivery-clause-answer
unfolding step touch
returns-in-Delivery-clause-answer c =
    let rows = c.args.store.now.rows in
    subst (λ (q : Request). AnswersInPlace (Answered (loaned rows c.args.footprint.now) c.args.catalog.now q c.args.number c.args.moment) rows c.execute_in_place_within.new.store.rows c.execute_in_place_within.result)
    (sym c.in-Delivery.is) c.execute_in_place_within.ensures.answer

pub returns-in-NewOrder-clause-answer : goal.returns-in-NewOrder-clause-answer
returns-in-NewOrder-clause-answer c =
    let rows = c.args.store.now.rows in
    applied_answer (Answered (loaned rows c.args.footprint.now) c.args.catalog.now c.args.request.now c.args.number c.args.moment) c.executed_on_loan-answer.result rows c.applied.new.store.rows c.applied.result c.executed_on_loan-answer.ensures c.applied.ensures.answer
