use Rattle.std.proofs.Common.{option_map, subst}
use Rattle.std.specs.Prelude.{IfErr, IfSome, OnOk}
use Rattle.commands.specs.Commands.{commands}
use Rattle.session.specs.Sessions.{LeavesSession, Served}
use Rattle.session.proofs.serving.serve_on.Goals as goal

pub returns-clause-ok : goal.returns-clause-ok
returns-clause-ok g c =
    let sent = g.S.Sink.taken c.serve_commands.new.sink in
    let known = g.C.Source.left c.args.input.now in
    subst (λ chain. OnOk c.serve_commands.result (IfSome (option_map commands known) (λ hearing. Served chain hearing (g.S.Sink.taken c.args.sink.now) sent)))
    c.keep_threads.ensures
    (subst (λ left. OnOk c.serve_commands.result (IfSome left (λ hearing. Served c.keep_threads.new.executor hearing (g.S.Sink.taken c.args.sink.now) sent))) (c.new-reader.ensures.all known) c.serve_commands.ensures.ok)

pub returns-clause-err : goal.returns-clause-err
returns-clause-err g c =
    let sent = g.S.Sink.taken c.serve_commands.new.sink in
    let known = g.C.Source.left c.args.input.now in
    subst (λ chain. IfErr c.serve_commands.result (λ e. IfSome (option_map commands known) (λ hearing. LeavesSession e chain hearing (g.S.Sink.taken c.args.sink.now) sent)))
    c.keep_threads.ensures
    (subst (λ left. IfErr c.serve_commands.result (λ e. IfSome left (λ hearing. LeavesSession e c.keep_threads.new.executor hearing (g.S.Sink.taken c.args.sink.now) sent))) (c.new-reader.ensures.all known) c.serve_commands.ensures.err)
