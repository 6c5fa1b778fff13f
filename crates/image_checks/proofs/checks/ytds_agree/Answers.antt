use Rattle.std.proofs.Common.{◌&&◌, ◌∙◌, ap, sym}
use Rattle.std.specs.FinMap.{entries}
use Rattle.std.specs.List.{list_all}
use Rattle.row_tables.specs.Parts.{is_of_table}
use Rattle.row_tables.specs.Walks.{left}
use Rattle.image_checks.specs.Checks.{ytd_agrees, ytds_agree}
use Rattle.image_checks.proofs.OfKinds.{all-filter, no-warehouse}
use Rattle.image_checks.proofs.checks.ytds_agree.Goals as goal

pub returns-then-not-ytd_agrees : goal.returns-then-not-ytd_agrees
unfolding ytds_agree
returns-then-not-ytd_agrees c =
    let rows = c.args.rows.now in
    let agrees = ytd_agrees rows in
    ap (λ b. b && list_all agrees (left c.next.new.self)) (c.if-not-ytd_agrees.ensures rows c.district_sums-sums.ensures) ∙ ap (list_all agrees) (sym c.in-Some.ensures.some)
    ∙ c.loop-key.invariant ∙ all-filter (is_of_table 0) agrees (no-warehouse rows) (entries rows)

pub returns : goal.returns
unfolding ytds_agree
returns c =
    let rows = c.args.rows.now in
    let agrees = ytd_agrees rows in
    ap (list_all agrees) (sym c.in_default.ensures.none) ∙ c.loop-key.invariant ∙ all-filter (is_of_table 0) agrees (no-warehouse rows) (entries rows)
