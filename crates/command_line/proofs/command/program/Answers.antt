use Rattle.command_line.specs.CommandLine.{bare_app, check_app, make_app, run_app, serve_app}
use Rattle.command_line.proofs.command.program.Goals as goal

pub returns : goal.returns
returns c =
    let with_run = c.joined-with_run.ensures bare_app run_app c.bare.ensures c.run.ensures in
    let with_check = c.joined-with_check.ensures _ check_app with_run c.check.ensures in
    let with_make = c.joined-with_make.ensures _ make_app with_check c.make.ensures in
    c.joined.ensures _ serve_app with_make c.serve.ensures
