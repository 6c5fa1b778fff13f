use Rattle.std.proofs.lemmas.Result.{IfErr-weaker, IfOk-weaker}
use Rattle.runner.proofs.SourcedRuns.{opened_told, refused_told}
use Rattle.runner.proofs.WholeLemmas.{refused_opening}
use Rattle.runner.proofs.opening.load_told.Goals as goal
use Rattle.tpcc_model.specs.Database.{database}

pub returns-in-Ok-clause-ok : goal.returns-in-Ok-clause-ok
returns-in-Ok-clause-ok g c =
    let left = g.I.TellingSource.left c.args.image.now in
    let before = g.I.TellingSource.given c.args.image.now in
    let after = g.I.TellingSource.given c.read_told.new.source in
    IfOk-weaker c.executor_of.result _ _ (λ executor chain. opened_told left before after (database c.in-Ok.catalog c.in-Ok.rows) executor chain c.in-Ok.ensures.ok) c.executor_of.ensures.chain

pub returns-in-Ok-clause-err : goal.returns-in-Ok-clause-err
returns-in-Ok-clause-err g c =
    let left = g.I.TellingSource.left c.args.image.now in
    let before = g.I.TellingSource.given c.args.image.now in
    let after = g.I.TellingSource.given c.read_told.new.source in
    let db = database c.in-Ok.catalog c.in-Ok.rows in
    let sound = c.sound_states.ensures.opening db c.in-Ok.ensures.sound in
    IfErr-weaker c.executor_of.result _ _ (λ e refused. refused_told left before after e db refused sound c.in-Ok.ensures.ok) c.executor_of.ensures.err

pub returns-in-Ok-clause-kinds : goal.returns-in-Ok-clause-kinds
returns-in-Ok-clause-kinds g c = IfErr-weaker c.executor_of.result _ _ (λ e refused. refused_opening e refused) c.executor_of.ensures.err
