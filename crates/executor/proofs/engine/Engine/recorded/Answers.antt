use Rattle.std.proofs.Common.{◌∙◌, ap, length, arith}
use Rattle.serializability.proofs.Folding.{length-fold_replies}
use Rattle.tpcc_model.specs.Steps.{steps_at}
use Rattle.executor.proofs.engine.Engine.recorded.Goals as goal

pub token_of-token-requires-clause-numbers : goal.token_of-token-requires-clause-numbers
token_of-token-requires-clause-numbers g c κs lives =
    let count = ap length (c.deref.ensures.value ∙ c.in_ok-replies.ensures.replies) ∙ length-fold_replies (steps_at c.args.self.now.catalog c.args.next.now.batch.now.moment) c.args.self.now.store.rows c.args.next.now.stamp.next c.args.next.now.batch.now.requests in
    let high = c.args.next.now.high in
    omega (arith, count, high)
