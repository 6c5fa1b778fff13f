use Rattle.std.proofs.lemmas.Result.{IfOk-weaker}
use Rattle.command_line.specs.CommandLine.{from_rule, image_rule, stats_rule, workers_rule}
use Rattle.command_line.proofs.CommandLemmas.{with_argument}
use Rattle.command_line.proofs.command.serve.Goals as goal

pub returns : goal.returns
returns c =
    let first = with_argument _ image_rule _ c.in_ok-arg.field-0 c.required.result c.described.ensures c.required.ensures c.in_ok-arg.ensures in
    let second = with_argument _ workers_rule _ c.in_ok-arg-2.field-0 c.workers.result first c.workers.ensures c.in_ok-arg-2.ensures in
    let third = with_argument _ from_rule _ c.in_ok-arg-3.field-0 c.from.result second c.from.ensures c.in_ok-arg-3.ensures in
    IfOk-weaker c.arg-4.result _ _ (λ command adds. with_argument _ stats_rule _ command c.stats.result third c.stats.ensures adds) c.arg-4.ensures
