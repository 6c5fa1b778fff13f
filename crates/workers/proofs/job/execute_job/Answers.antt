use Rattle.std.proofs.Common.{rules}
use Rattle.workers.proofs.job.execute_job.Goals as goal

pub returns-in_err-reply : goal.returns-in_err-reply
returns-in_err-reply g c = rw (← c.new-view.ensures.store, ← c.new-view.ensures.footprint) (search rules)
