use Rattle.std.proofs.Common.{subst, sym}
use Rattle.requests.specs.declared.request.Request.{Request}
use Rattle.tpcc_model.specs.Steps.{step}
use Rattle.tpcc_model.specs.Touches.{touch}
use Rattle.transactions.specs.InPlace.{AnswersInPlace, whole}
use Rattle.transactions.proofs.InPlace.{Answered, applied_answer}
use Rattle.transactions.proofs.transaction.executed_in_place.Goals as goal

pub returns-in-NewOrder-clause-answer : goal.returns-in-NewOrder-clause-answer
unfolding step touch
returns-in-NewOrder-clause-answer c =
    let rows = c.args.store.now.rows in
    subst (λ (q : Request). AnswersInPlace (Answered (whole rows) c.args.catalog.now q c.args.number c.args.moment) rows c.execute_in_place.new.store.rows c.execute_in_place.result)
    (sym c.in-NewOrder.is) c.execute_in_place.ensures.answer

pub returns-in-Payment-clause-answer : goal.returns-in-Payment-clause-answer
unfolding step touch
returns-in-Payment-clause-answer c =
    let rows = c.args.store.now.rows in
    subst (λ (q : Request). AnswersInPlace (Answered (whole rows) c.args.catalog.now q c.args.number c.args.moment) rows c.execute_in_place-in-Payment.new.store.rows c.execute_in_place-in-Payment.result)
    (sym c.in-Payment.is) c.execute_in_place-in-Payment.ensures.answer

pub returns-in-Delivery-clause-answer : goal.returns-in-Delivery-clause-answer
unfolding step touch
returns-in-Delivery-clause-answer c =
    let rows = c.args.store.now.rows in
    subst (λ (q : Request). AnswersInPlace (Answered (whole rows) c.args.catalog.now q c.args.number c.args.moment) rows c.execute_in_place-in-Delivery.new.store.rows c.execute_in_place-in-Delivery.result)
    (sym c.in-Delivery.is) c.execute_in_place-in-Delivery.ensures.answer

pub returns-in-OrderStatus-clause-answer : goal.returns-in-OrderStatus-clause-answer
returns-in-OrderStatus-clause-answer c =
    let rows = c.args.store.now.rows in
    applied_answer (Answered (whole rows) c.args.catalog.now c.args.request.now c.args.number c.args.moment) c.executed-answer.result rows c.applied.new.store.rows c.applied.result c.executed-answer.ensures c.applied.ensures.answer
