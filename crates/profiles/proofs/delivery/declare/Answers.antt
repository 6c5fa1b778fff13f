use Rattle.std.proofs.Common.{rules, ◌≡◌, map, is_some, sym, ap, ◌∙◌, true}
use Rattle.catalog.specs.Lookups.{warehouse_card}
use Rattle.serializability.specs.Footprints.{Footprint, joined, joined_all, untouched}
use Rattle.tpcc_model.specs.Touches.{delivered_touch}
use Rattle.tpcc_rows.specs.Limits.{ten}
use Rattle.tpcc_rows.specs.declared.granule.Granule.{Granule}
use Rattle.profiles.specs.Declarations.{later_delivery, nth_new_order}
use Rattle.profiles.proofs.FoundCards.{touched_there}
use Rattle.profiles.proofs.delivery.declare.Goals as goal

pub returns : goal.returns
unfolding later_delivery
returns c = λ sound.
    let rows = c.args.store.now.rows in
    let p = c.args.p.now in
    let touch : Footprint Granule = joined_all (map (λ d. delivered_touch rows p d (nth_new_order rows p.warehouse d c.args.n)) ten) in
    let start : c.new-footprint.result ≡ untouched = search rules in
    let there : is_some (warehouse_card c.args.catalog.now p.warehouse) ≡ true = search rules in
    c.in_ok-touch_districts.ensures c.args.catalog.now sound ∙ ap (λ (e : Footprint Granule). joined e touch) start ∙ sym (touched_there (warehouse_card c.args.catalog.now p.warehouse) touch there)
