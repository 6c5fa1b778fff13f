use Rattle.merkle.proofs.Refreshing.{kept-clean}
use Rattle.executor.proofs.engine.Engine.execute.Goals as goal

pub invariant_of-self-clause-of_rows : goal.invariant_of-self-clause-of_rows
invariant_of-self-clause-of_rows g c =
    let was = c.args.self.now in
    kept-clean was.tree was.store c.mark.new.store c.mark.ensures.clean was.of_rows

pub invariant_of-self-then-is_err-clause-of_rows : goal.invariant_of-self-then-is_err-clause-of_rows
invariant_of-self-then-is_err-clause-of_rows g c =
    let was = c.recorded-outcome.new.self in
    kept-clean was.tree was.store c.back_to.new.self c.back_to.ensures.clean was.of_rows
