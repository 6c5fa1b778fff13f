use Rattle.std.proofs.lemmas.Result.{IfErr-weaker, IfOk-weaker}
use Rattle.runner.proofs.WholeLemmas.{opened_on, refused_on, refused_opening}
use Rattle.runner.proofs.opening.load_executor.Goals as goal
use Rattle.tpcc_model.specs.Database.{database}

pub returns-in-Ok-clause-ok : goal.returns-in-Ok-clause-ok
returns-in-Ok-clause-ok g c = IfOk-weaker c.executor_of.result _ _ (λ executor chain.
    opened_on (g.I.Source.left c.args.image.now) (database c.in-Ok.catalog c.in-Ok.rows) executor c.in-Ok.ensures.ok chain) c.executor_of.ensures.chain

pub returns-in-Ok-clause-err : goal.returns-in-Ok-clause-err
returns-in-Ok-clause-err g c =
    let db = database c.in-Ok.catalog c.in-Ok.rows in
    let images = g.I.Source.left c.args.image.now in
    let sound = c.sound_states.ensures.opening db c.in-Ok.ensures.sound in
    IfErr-weaker c.executor_of.result _ _ (λ e refused. refused_on e images db refused c.in-Ok.ensures.ok sound) c.executor_of.ensures.err

pub returns-in-Ok-clause-kinds : goal.returns-in-Ok-clause-kinds
returns-in-Ok-clause-kinds g c = IfErr-weaker c.executor_of.result _ _ (λ e refused. refused_opening e refused) c.executor_of.ensures.err
