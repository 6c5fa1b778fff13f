use Rattle.std.proofs.Common.{◌≡◌}
use Rattle.tpcc_rows.specs.RowMap.{Changes, Rows}
use Rattle.transactions.specs.DeliveryParts.{lines_written}
use Rattle.transactions.proofs.delivery.write_lines.Given as goal

-- some lines are written, and those that are left lead to where all of them lead
abbrev pub invariant-loop-line : goal.invariant-loop-line
invariant-loop-line g l = record {
  made : (rows : Rows) (changes : Changes) → g.W.RowWriter.Stands rows changes l.fn.writer
      → (now : Changes) × g.W.RowWriter.Stands rows now l.writer × (lines_written l.warehouse l.district l.order l.line-iterator.rest.items now ≡ lines_written l.warehouse l.district l.order l.fn.lines.items changes);
  kept : (first : g.row.W.Denot) → g.W.RowWriter.Keeps first l.fn.writer → g.W.RowWriter.Keeps first l.writer;
}
