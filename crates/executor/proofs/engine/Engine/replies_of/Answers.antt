use Rattle.executor.proofs.CleanLeaves.{kept_twice}
use Rattle.merkle.proofs.Refreshing.{kept-clean}
use Rattle.executor.proofs.engine.Engine.replies_of.Goals as goal

pub invariant_of-self-clause-of_rows : goal.invariant_of-self-clause-of_rows
invariant_of-self-clause-of_rows g c =
    let was = c.args.self.now in
    kept-clean was.tree was.store c.execute_sequential.new.store c.execute_sequential.ensures.clean was.of_rows

pub invariant_of-self-in-Commit-clause-of_rows : goal.invariant_of-self-in-Commit-clause-of_rows
invariant_of-self-in-Commit-clause-of_rows g c =
    let was = c.args.self.now in
    kept-clean was.tree was.store c.execute_parallel.new.store c.execute_parallel.ensures.clean was.of_rows

pub invariant_of-self-in-Err-Memory-clause-of_rows : goal.invariant_of-self-in-Err-Memory-clause-of_rows
invariant_of-self-in-Err-Memory-clause-of_rows g c =
    let was = c.args.self.now in
    kept-clean was.tree was.store c.execute_parallel.new.store c.execute_parallel.ensures.clean was.of_rows

pub invariant_of-self-2-clause-of_rows : goal.invariant_of-self-2-clause-of_rows
invariant_of-self-2-clause-of_rows g c =
    let was = c.args.self.now in
    let back = c.rewind.new.store in
    let left = c.execute_sequential-2.new.store in
    let rewound = kept_twice was.store c.execute_parallel.new.store back c.execute_parallel.ensures.clean c.rewind.ensures.clean in
    kept-clean was.tree was.store left (kept_twice was.store back left rewound c.execute_sequential-2.ensures.clean) was.of_rows

pub invariant_of-self-then-is_rerun_untold-clause-of_rows : goal.invariant_of-self-then-is_rerun_untold-clause-of_rows
invariant_of-self-then-is_rerun_untold-clause-of_rows g c =
    let was = c.args.self.now in
    kept-clean was.tree was.store c.execute_sequential-then-is_rerun_untold.new.store c.execute_sequential-then-is_rerun_untold.ensures.clean was.of_rows
