use Rattle.std.proofs.lemmas.Result.{IfOk-weaker}
use Rattle.command_line.specs.CommandLine.{warehouses_rule, customers_rule, items_rule}
use Rattle.command_line.proofs.CommandLemmas.{with_argument}
use Rattle.command_line.proofs.command.make.Goals as goal

pub returns : goal.returns
returns c =
    let first = with_argument _ warehouses_rule _ c.in_ok-arg.field-0 c.number.result c.described.ensures c.number.ensures c.in_ok-arg.ensures in
    let second = with_argument _ customers_rule _ c.in_ok-arg-2.field-0 c.number-2.result first c.number-2.ensures c.in_ok-arg-2.ensures in
    IfOk-weaker c.arg-3.result _ _ (λ command adds. with_argument _ items_rule _ command c.number-3.result second c.number-3.ensures adds) c.arg-3.ensures
