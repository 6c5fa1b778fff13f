use Rattle.std.proofs.Common.{◌≡◌, ap, arith, length, replicate, rules}
use Rattle.tpcc_rows.specs.References.{row_of}
use Rattle.image_checks.specs.Totals.{empty_totals}
use Rattle.image_checks.proofs.TotalsLemmas.{all_added, empty_small, none_added, one_added, small_enough, still_small}
use Rattle.image_checks.proofs.totals.totals_of.Goals as goal

pub loop-key-init : goal.loop-key-init
loop-key-init c =
    let empty : c.in_ok-totals.totals.districts.items ≡ replicate 1011 empty_totals = search rules in
    let is = c.walk-walk.ensures.left in
    let few = c.walk-walk.ensures.few in
    let long = ap length is in
    (omega (arith, few, long), empty_small _ _ empty, none_added _ _ _ empty is)

pub add_row-requires : goal.add_row-requires
add_row-requires c = let (few, small, so_far) = c.loop-key.invariant in small_enough _ _ _ (omega arith) small

pub loop-key-preserved : goal.loop-key-preserved
loop-key-preserved c =
    let (few, small, so_far) = c.loop-key.invariant in
    let is = c.in-Some.ensures.some in
    let fewer = ap length is in (
      omega (arith, few, fewer),
      still_small _ _ _ _ (c.in-Some.key, row_of c.in-Some.row) (omega (arith, few, fewer)) c.add_row.ensures.totals c.add_row.ensures.small small,
      one_added _ _ (c.in-Some.key, row_of c.in-Some.row) _ _ _ is c.add_row.ensures.totals so_far,
    )

pub returns : goal.returns
returns c = let (few, small, so_far) = c.loop-key.invariant in all_added _ _ _ c.in_default.ensures.none so_far
