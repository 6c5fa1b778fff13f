use Rattle.std.proofs.Common.{◌+◌, length, ap, subst, ◌∙◌, arith}
use Rattle.std.proofs.lemmas.List.{length_push}
use Rattle.std.specs.FinMap.{entries}
use Rattle.tables.specs.ByRank.{IsPartedAt}
use Rattle.tpcc_rows.specs.Rows.{order_line_row}
use Rattle.row_tables.proofs.LineRows.{line-found, line-more, line-numbered, line-rank, line-small}
use Rattle.row_tables.specs.OrderLines.{lines_of}
use Rattle.row_tables.proofs.store.RowTables.order_lines.Goals as goal

pub loop-place-init : goal.loop-place-init
loop-place-init c = (
  ap length c.new-lines.ensures,
  λ k below. absurd (omega (arith, below)),
  subst (λ r. IsPartedAt (entries c.lines_at-table.result.now) r c.start-start.result) (omega arith) c.start-start.ensures,
)

pub overflow_add-first : goal.overflow_add-first
overflow_add-first c =
    let small =
    line-small c.args.warehouse c.args.district c.args.order _ _ _ c.line_number_at.ensures c.line_rank-first.ensures.limits c.line_rank-first.ensures.value c.loop-place-test.true in
    omega (arith, small)

pub loop-place-preserved : goal.loop-place-preserved
loop-place-preserved c =
    let w = c.args.warehouse in
    let d = c.args.district in
    let o = c.args.order in
    let one = c.line_number_at.result in
    let first = c.line_rank-first.result in
    let place = c.loop-place.place in
    let limits = c.line_rank-first.ensures.limits in
    let is = c.line_rank-first.ensures.value in
    let here =
    c.next-next.ensures.value
    ∙ line-found _ c.self.invariant.are_kept w d o one (place + 1) first (first + place) limits is
    (line-numbered w d o one first place c.line_number_at.ensures limits is c.loop-place-test.true)
    (line-rank w d o one first place c.line_number_at.ensures limits is c.loop-place-test.true) _ c.lines_at-table.ensures
    ∙ ap (λ rows. order_line_row rows w d o (place + 1)) c.self.view_is in (
      ap length c.push.ensures ∙ length_push (lines_of c.loop-place.lines) _ ∙ ap (λ n. n + 1) c.loop-place.invariant.0,
      line-more c.args.self.now w d o place (lines_of c.loop-place.lines) _ _ c.loop-place.invariant.0 c.loop-place.invariant.1 here c.push.ensures,
      subst (λ r. IsPartedAt (entries c.lines_at-table.result.now) r c.next-next.result.1) (omega arith) c.next-next.ensures.next,
    )
