use Rattle.tpcc_model.proofs.OrderLines.{lines_are_counted}
use Rattle.tpcc_model.proofs.laws.order_lines.Goals as goal

pub returns : goal.returns
returns c = lines_are_counted
