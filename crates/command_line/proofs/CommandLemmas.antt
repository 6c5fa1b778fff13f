-- Commands that are built up by their arguments.
use Rattle.std.proofs.Common.{◌∙◌, ap₂}
use Rattle.clap.specs.Words.{AddsArg, App, Rule, with_rule}
use Rattle.clap.specs.declared.builder.arg.Arg.{Arg}
use Rattle.clap.specs.declared.builder.command.Command.{Command}
use Rattle.command_line.specs.CommandLine.{IsArgument, IsCommand}

-- a command with one argument more
pub with_argument : (app : App) (rule : Rule) (old new : Command) (argument : Arg) → IsCommand app old → IsArgument rule argument
    → AddsArg old argument new → IsCommand (with_rule app rule) new
with_argument app rule old new argument before own adds =
    (adds.shape own.1 ∙ ap₂ with_rule before.0 own.0, rw (before.1, own.1) at adds.globals)
