use Rattle.executor.proofs.Headlines.{executions_have_headline, runs_have_headline, serial_batches_have_headline}
use Rattle.executor.proofs.laws.headline.Goals as goal

pub returns-clause-serial : goal.returns-clause-serial
returns-clause-serial c = serial_batches_have_headline c.sound_states.ensures.after

pub returns-clause-executions : goal.returns-clause-executions
returns-clause-executions c = executions_have_headline c.sound_states.ensures.after

pub returns-clause-runs : goal.returns-clause-runs
returns-clause-runs c = runs_have_headline c.sound_states.ensures.opening c.sound_states.ensures.after
