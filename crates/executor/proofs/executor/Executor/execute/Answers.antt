use Rattle.executor.proofs.Headlines.{headline_if_ok}
use Rattle.executor.proofs.executor.Executor.execute.Goals as goal

pub returns-clause-headline : goal.returns-clause-headline
returns-clause-headline g c =
    headline_if_ok c.args.self.now c.execute_by.new.self c.args.batch.now c.execute_by.result c.execute_by.ensures.record c.execute_by.ensures.chain c.keep_sound.ensures c.execute_by.ensures.sound
