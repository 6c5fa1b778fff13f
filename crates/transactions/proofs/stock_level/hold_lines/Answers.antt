use Rattle.std.proofs.Common.{refl, arith}
use Rattle.tpcc_model.specs.Database.{database}
use Rattle.tpcc_model.specs.StockLevels.{with_lines}
use Rattle.tpcc_model.specs.Touches.{lines_touch}
use Rattle.transactions.specs.Lending.{lent}
use Rattle.transactions.proofs.LentTouches.{ended_by, line_covered, line_strays}
use Rattle.transactions.proofs.LowItemFacts.{lines_held}
use Rattle.transactions.proofs.stock_level.hold_lines.Goals as goal

pub loop-index-init : goal.loop-index-init
unfolding with_lines lines_touch
loop-index-init g c = ((λ xs held. held), omega arith, refl)

pub loop-index-preserved : goal.loop-index-preserved
loop-index-preserved g c = (
  (λ xs held. lines_held _ _ _ _ _ c.line_number.ensures _ (c.get-line.ensures _ _ _ _ c.order_lines-lines.ensures) _ _ (c.in_ok-hold_line.ensures.held _ (c.loop-index.invariant.0 xs held))),
  (let one = c.in_ok-hold_line.ensures.len in let so_far = c.loop-index.invariant.1 in omega (arith, one, so_far)),
  line_covered (g.V.RowView.sees c.args.view.now) (database c.args.catalog.now (lent (g.V.RowView.sees c.args.view.now))) c.args.p.now _ _ _ c.line_number.ensures _ (c.get-line.ensures _ _ _ _ c.order_lines-lines.ensures) c.loop-index.invariant.2 c.in_ok-hold_line.ensures.within,
)

pub returns-in_err-hold_line-clause-within : goal.returns-in_err-hold_line-clause-within
returns-in_err-hold_line-clause-within g c =
    ended_by _ _ c.in_err-hold_line.field-0.0 c.from_residual.result
    (line_strays (g.V.RowView.sees c.args.view.now) (database c.args.catalog.now (lent (g.V.RowView.sees c.args.view.now))) c.args.p.now _ _ _ c.line_number.ensures _ (c.get-line.ensures _ _ _ _ c.order_lines-lines.ensures) c.loop-index-test.true)
    c.in_err-hold_line.ensures.within c.from_residual.ensures.1
