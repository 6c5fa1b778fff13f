use Rattle.std.proofs.Common.{◌∙◌}
use Rattle.transactions.proofs.NewStocks.{with_stocks-drop}
use Rattle.transactions.proofs.new_order.put_stocks.Goals as goal

pub loop-stock-preserved : goal.loop-stock-preserved
loop-stock-preserved g c = (
  λ rows changes stood. (
      let (now, stands, leads) = c.loop-stock.invariant.0 rows changes stood in
      (_, c.in_ok-put.ensures.made rows now stands, with_stocks-drop _ _ c.stock-item.result c.loop-stock-test.true c.stock-item.is now ∙ leads)
      ),
  λ first keeps. c.in_ok-put.ensures.kept first (c.loop-stock.invariant.1 first keeps),
)
