use Rattle.std.proofs.Common.{◌∙◌, ap, arith, length}
use Rattle.std.specs.FinMap.{entries}
use Rattle.tpcc_model.specs.Conditions.{district_share}
use Rattle.tpcc_rows.specs.References.{row_of}
use Rattle.tpcc_rows.specs.Totals.{sum_entries}
use Rattle.row_tables.specs.Parts.{is_of_table}
use Rattle.row_tables.specs.Walks.{left}
use Rattle.image_checks.proofs.OfKinds.{filter-shorter, no-share, sum-filter}
use Rattle.image_checks.proofs.Sums.{all_added, none_added, one_added, still_within, zeros_within}
use Rattle.image_checks.proofs.checks.district_sums.Goals as goal

pub loop-key-init : goal.loop-key-init
loop-key-init c =
    let rows = c.args.rows.now in
    let is = c.district_ytds-walk.ensures.left in
    let few = c.district_ytds-walk.ensures.few in
    let fewer = filter-shorter (is_of_table 7) (entries rows) in
    let long = ap length is in (
      omega (arith, few, fewer, long),
      zeros_within _,
      none_added (left c.district_ytds-walk.result) rows (λ w. ap (sum_entries (district_share w)) is ∙ sum-filter (is_of_table 7) (district_share w) (no-share w) (entries rows)),
    )

pub loop-key-preserved : goal.loop-key-preserved
loop-key-preserved c =
    let (few, near, so_far) = c.loop-key.invariant in
    let is = c.in-Some.ensures.some in (
      let fewer = ap length is in omega (arith, few, fewer),
      still_within _ _ (c.in-Some.key, row_of c.in-Some.row) _ _ is few c.add_share.ensures.sums c.add_share.ensures.near near,
      one_added _ _ (c.in-Some.key, row_of c.in-Some.row) _ _ _ is c.add_share.ensures.sums so_far,
    )

pub returns : goal.returns
returns c = let (few, near, so_far) = c.loop-key.invariant in all_added _ _ _ c.in_default.ensures.none so_far
