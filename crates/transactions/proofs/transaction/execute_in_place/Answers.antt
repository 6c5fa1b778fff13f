use Rattle.std.proofs.Common.{ap, ◌∙◌}
use Rattle.requests.specs.declared.reply.Reply.TheVariants as reply
use Rattle.transactions.specs.InPlace.{whole}
use Rattle.transactions.proofs.InPlace.{answered, none_strays, refused}
use Rattle.transactions.proofs.transaction.execute_in_place.Goals as goal

pub unreachable-requires : goal.unreachable-requires
unreachable-requires c =
    none_strays c.args.catalog.now c.args.store.now.rows c.args.asked.now.request.now c.args.asked.now.number c.args.asked.now.moment c.executed_in_place.new.store.rows
    c.in-Err-Strayed.field-0 c.in-Err-Strayed.field-0-is c.in-Err-Strayed.ensures.answer

pub returns-in-Ok-clause-reply : goal.returns-in-Ok-clause-reply
returns-in-Ok-clause-reply c =
    (answered (whole c.args.store.now.rows) c.args.catalog.now c.args.asked.now.request.now c.args.asked.now.number c.args.asked.now.moment c.executed_in_place.new.store.rows c.in-Ok.reply c.in-Ok.ensures.answer).reply

pub returns-in-Ok-clause-rows : goal.returns-in-Ok-clause-rows
returns-in-Ok-clause-rows c =
    (answered (whole c.args.store.now.rows) c.args.catalog.now c.args.asked.now.request.now c.args.asked.now.number c.args.asked.now.moment c.executed_in_place.new.store.rows c.in-Ok.reply c.in-Ok.ensures.answer).rows

pub returns-in-Err-Refused-clause-reply : goal.returns-in-Err-Refused-clause-reply
returns-in-Err-Refused-clause-reply c =
    ap (λ k. reply.Refused k c.in-Err-Refused.refusal) c.kind.ensures
    ∙ (refused (whole c.args.store.now.rows) c.args.catalog.now c.args.asked.now.request.now c.args.asked.now.number c.args.asked.now.moment c.executed_in_place.new.store.rows c.in-Err-Refused.refusal c.in-Err-Refused.field-0 c.in-Err-Refused.field-0-is c.in-Err-Refused.ensures.answer).reply

pub returns-in-Err-Refused-clause-rows : goal.returns-in-Err-Refused-clause-rows
returns-in-Err-Refused-clause-rows c =
    (refused (whole c.args.store.now.rows) c.args.catalog.now c.args.asked.now.request.now c.args.asked.now.number c.args.asked.now.moment c.executed_in_place.new.store.rows c.in-Err-Refused.refusal c.in-Err-Refused.field-0 c.in-Err-Refused.field-0-is c.in-Err-Refused.ensures.answer).rows
