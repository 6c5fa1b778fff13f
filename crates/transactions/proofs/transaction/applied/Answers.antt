use Rattle.std.proofs.Common.{rules}
use Rattle.transactions.proofs.transaction.applied.Goals as goal

pub returns-clause-answer : goal.returns-clause-answer
returns-clause-answer c = (c.in_ok-reply.delta, search rules, c.in_ok-apply.ensures.ok)
