use Rattle.std.proofs.Common.{◌+◌, length, ap, ◌∙◌}
use Rattle.std.proofs.lemmas.List.{length_push}
use Rattle.tpcc_rows.specs.Rows.{order_line_row}
use Rattle.row_tables.proofs.LineRows.{line-more}
use Rattle.row_tables.specs.OrderLines.{lines_of}
use Rattle.pointed_tables.proofs.roomy.RoomyTables.lines_anywhere.Goals as goal

pub loop-place-preserved : goal.loop-place-preserved
loop-place-preserved c = (
  ap length c.push.ensures ∙ length_push (lines_of c.loop-place.lines) _ ∙ ap (λ n. n + 1) c.loop-place.invariant.0,
  line-more c.args.self.now.rows c.args.warehouse c.args.district c.args.order c.loop-place.place (lines_of c.loop-place.lines) _ _ c.loop-place.invariant.0 c.loop-place.invariant.1
      (c.order_line.ensures ∙ ap (λ n. order_line_row c.args.self.now.rows c.args.warehouse c.args.district c.args.order n) c.line_number_at-number.ensures) c.push.ensures,
)
