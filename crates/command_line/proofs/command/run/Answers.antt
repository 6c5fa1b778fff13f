use Rattle.std.proofs.lemmas.Result.{IfOk-weaker}
use Rattle.command_line.specs.CommandLine.{at_rule, batches_rule, from_rule, image_rule, stats_rule, store_rule, workers_rule}
use Rattle.command_line.proofs.CommandLemmas.{with_argument}
use Rattle.command_line.proofs.command.run.Goals as goal

pub returns : goal.returns
returns c =
    let first = with_argument _ image_rule _ c.in_ok-arg.field-0 c.required.result c.described.ensures c.required.ensures c.in_ok-arg.ensures in
    let second = with_argument _ batches_rule _ c.in_ok-arg-2.field-0 c.required-2.result first c.required-2.ensures c.in_ok-arg-2.ensures in
    let third = with_argument _ workers_rule _ c.in_ok-arg-3.field-0 c.workers.result second c.workers.ensures c.in_ok-arg-3.ensures in
    let fourth = with_argument _ store_rule _ c.in_ok-arg-4.field-0 c.store.result third c.store.ensures c.in_ok-arg-4.ensures in
    let fifth = with_argument _ from_rule _ c.in_ok-arg-5.field-0 c.from.result fourth c.from.ensures c.in_ok-arg-5.ensures in
    let sixth = with_argument _ at_rule _ c.in_ok-arg-6.field-0 c.at.result fifth c.at.ensures c.in_ok-arg-6.ensures in
    IfOk-weaker c.arg-7.result _ _ (λ command adds. with_argument _ stats_rule _ command c.stats.result sixth c.stats.ensures adds) c.arg-7.ensures
