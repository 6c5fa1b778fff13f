use Rattle.std.proofs.Common.{◌∙◌, ap}
use Rattle.tpcc_rows.specs.References.{row_of}
use Rattle.image_checks.specs.Districts.{both_hold, line_counts_agree, next_orders_agree, spans_agree}
use Rattle.image_checks.proofs.ConditionLemmas.{all_seen, none_seen, one_seen}
use Rattle.image_checks.proofs.districts.order_conditions.Goals as goal

pub loop-key-init : goal.loop-key-init
loop-key-init c = none_seen c.args.rows.now _ c.district_nexts-walk.ensures

pub loop-key-preserved : goal.loop-key-preserved
loop-key-preserved c =
    let rows = c.args.rows.now in
    one_seen rows _ _ (c.in-Some.key, row_of c.in-Some.row) _ _ c.in-Some.ensures.some
    (c.and-all.ensures ∙ ap (both_hold c.loop-key.all) (c.conditions_at.ensures rows c.requires)) c.loop-key.invariant

pub returns : goal.returns
unfolding next_orders_agree spans_agree line_counts_agree
returns c =
    let is = all_seen c.args.rows.now _ _ c.in_default.ensures.none c.loop-key.invariant in
    record { next_order = ap (λ d. d.next_order) is; new_orders = ap (λ d. d.new_orders) is; lines = ap (λ d. d.lines) is }
