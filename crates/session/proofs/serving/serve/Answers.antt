use Rattle.commands.specs.Commands.{commands}
use Rattle.session.proofs.WholeSessions.{left_whole, served_whole, unopened_session}
use Rattle.std.proofs.Common.{option_map, refl, subst}
use Rattle.std.specs.Prelude.{IfErr, IfOk, IfSome}
use Rattle.runner.specs.Openings.{IsOpened, IsUnopened}
use Rattle.session.proofs.serving.serve.Goals as goal

pub returns-clause-err : goal.returns-clause-err
returns-clause-err g c =
    unopened_session (g.I.Source.left c.args.image.now) (g.C.Source.left c.args.input.now) c.in-Err.fault (g.S.Sink.taken c.args.sink.now)
    (subst (λ r. IfErr r (λ e. IfSome (g.I.Source.left c.args.image.now) (λ bytes. IsUnopened e bytes))) c.in-Err.is c.load_executor-loaded.ensures.err)

pub returns-in-Ok-clause-ok : goal.returns-in-Ok-clause-ok
returns-in-Ok-clause-ok g c =
    served_whole (g.I.Source.left c.args.image.now) (g.C.Source.left c.args.input.now) c.in-Ok.executor (option_map commands (g.C.Source.left c.args.input.now))
    (g.S.Sink.taken c.args.sink.now) (g.S.Sink.taken c.serve_on.new.sink)
    (subst (λ r. IfOk r (λ chain. IfSome (g.I.Source.left c.args.image.now) (λ bytes. IsOpened bytes chain))) c.in-Ok.is c.load_executor-loaded.ensures.ok) refl c.serve_on.result c.serve_on.ensures.ok

pub returns-in-Ok-clause-err : goal.returns-in-Ok-clause-err
returns-in-Ok-clause-err g c =
    left_whole (g.I.Source.left c.args.image.now) (g.C.Source.left c.args.input.now) c.in-Ok.executor (option_map commands (g.C.Source.left c.args.input.now))
    (g.S.Sink.taken c.args.sink.now) (g.S.Sink.taken c.serve_on.new.sink)
    (subst (λ r. IfOk r (λ chain. IfSome (g.I.Source.left c.args.image.now) (λ bytes. IsOpened bytes chain))) c.in-Ok.is c.load_executor-loaded.ensures.ok) refl c.serve_on.result c.serve_on.ensures.kinds c.serve_on.ensures.err
