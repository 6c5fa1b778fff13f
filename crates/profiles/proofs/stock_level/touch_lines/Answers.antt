use Rattle.profiles.proofs.RecentTouches.{line_more, no_line}
use Rattle.profiles.proofs.stock_level.touch_lines.Goals as goal

pub loop-index-init : goal.loop-index-init
loop-index-init c = no_line _ _ _ _

pub loop-index-preserved : goal.loop-index-preserved
loop-index-preserved c = line_more _ _ _ _ _ _ c.line_number.ensures _ (c.get-line.ensures _ _ _ _ c.order_lines-lines.ensures) _ _ c.loop-index.invariant c.in_ok-touch_line.ensures
