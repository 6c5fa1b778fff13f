use Rattle.std.proofs.Common.{ap, ◌∙◌}
use Rattle.requests.specs.declared.reply.Reply.TheVariants as reply
use Rattle.transactions.specs.InPlace.{loaned}
use Rattle.transactions.proofs.InPlace.{answered, refused, strayed}
use Rattle.transactions.proofs.transaction.execute_in_place_within.Goals as goal

pub returns-in-Ok-clause-reply : goal.returns-in-Ok-clause-reply
returns-in-Ok-clause-reply c =
    (answered (loaned c.args.store.now.rows c.args.footprint.now) c.args.catalog.now c.args.asked.now.request.now c.args.asked.now.number c.args.asked.now.moment c.executed_in_place_within.new.store.rows c.in-Ok.reply c.in-Ok.ensures.answer).reply

pub returns-in-Ok-clause-rows : goal.returns-in-Ok-clause-rows
returns-in-Ok-clause-rows c =
    (answered (loaned c.args.store.now.rows c.args.footprint.now) c.args.catalog.now c.args.asked.now.request.now c.args.asked.now.number c.args.asked.now.moment c.executed_in_place_within.new.store.rows c.in-Ok.reply c.in-Ok.ensures.answer).rows

pub returns-in-Ok-clause-within : goal.returns-in-Ok-clause-within
returns-in-Ok-clause-within c =
    (answered (loaned c.args.store.now.rows c.args.footprint.now) c.args.catalog.now c.args.asked.now.request.now c.args.asked.now.number c.args.asked.now.moment c.executed_in_place_within.new.store.rows c.in-Ok.reply c.in-Ok.ensures.answer).within

pub returns-in-Err-Refused-clause-reply : goal.returns-in-Err-Refused-clause-reply
returns-in-Err-Refused-clause-reply c =
    ap (λ k. reply.Refused k c.in-Err-Refused.refusal) c.kind.ensures ∙ (refused (loaned c.args.store.now.rows c.args.footprint.now) c.args.catalog.now c.args.asked.now.request.now c.args.asked.now.number c.args.asked.now.moment c.executed_in_place_within.new.store.rows c.in-Err-Refused.refusal c.in-Err-Refused.field-0 c.in-Err-Refused.field-0-is c.in-Err-Refused.ensures.answer).reply

pub returns-in-Err-Refused-clause-rows : goal.returns-in-Err-Refused-clause-rows
returns-in-Err-Refused-clause-rows c =
    (refused (loaned c.args.store.now.rows c.args.footprint.now) c.args.catalog.now c.args.asked.now.request.now c.args.asked.now.number c.args.asked.now.moment c.executed_in_place_within.new.store.rows c.in-Err-Refused.refusal c.in-Err-Refused.field-0 c.in-Err-Refused.field-0-is c.in-Err-Refused.ensures.answer).rows

pub returns-in-Err-Refused-clause-within : goal.returns-in-Err-Refused-clause-within
returns-in-Err-Refused-clause-within c =
    (refused (loaned c.args.store.now.rows c.args.footprint.now) c.args.catalog.now c.args.asked.now.request.now c.args.asked.now.number c.args.asked.now.moment c.executed_in_place_within.new.store.rows c.in-Err-Refused.refusal c.in-Err-Refused.field-0 c.in-Err-Refused.field-0-is c.in-Err-Refused.ensures.answer).within

pub returns-in-Err-Strayed-clause-within : goal.returns-in-Err-Strayed-clause-within
returns-in-Err-Strayed-clause-within c =
    (strayed (loaned c.args.store.now.rows c.args.footprint.now) c.args.catalog.now c.args.asked.now.request.now c.args.asked.now.number c.args.asked.now.moment c.executed_in_place_within.new.store.rows c.in-Err-Strayed.field-0 c.in-Err-Strayed.field-0-is c.in-Err-Strayed.ensures.answer)
