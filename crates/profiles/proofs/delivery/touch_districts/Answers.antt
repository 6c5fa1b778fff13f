use Rattle.std.proofs.Common.{◌≡◌, ℕ, Option, get_or, length, ap, ◌∙◌, arith}
use Rattle.serializability.specs.Footprints.{Footprint, joined}
use Rattle.tpcc_model.specs.Touches.{delivered_touch}
use Rattle.tpcc_rows.specs.declared.granule.Granule.{Granule}
use Rattle.profiles.specs.Declarations.{nth_new_order}
use Rattle.profiles.proofs.Joining.{joined-end, joined-next}
use Rattle.profiles.proofs.delivery.touch_districts.Goals as goal

pub loop-district-preserved : goal.loop-district-preserved
loop-district-preserved c = λ cards sound.
    let rows = c.args.store.now.rows in
    let p = c.args.p.now in
    let touch : ℕ → Footprint Granule = λ d. delivered_touch rows p d (nth_new_order rows p.warehouse d c.args.n) in
    let items = c.all.result in
    let i = c.loop-district.district-index in
    let d : ℕ = get_or items i c.district-item.result in
    let long : length items ≡ 10 = ap length c.all.ensures in
    let below = c.loop-district-test.true in
    let one : c.touch_district.new.footprint ≡ joined c.loop-district.footprint (touch d) =
    c.in_ok-touch_district.ensures ∙ ap (λ (o : Option ℕ). joined c.loop-district.footprint (delivered_touch rows p d o)) (c.nth_new_order-order.ensures cards sound) in
    joined-next touch items i d c.loop-district.footprint c.touch_district.new.footprint (omega (arith, long, below)) (ap (λ (y : ℕ). get_or items i y) c.district-item.is) one
    ∙ c.loop-district.invariant cards sound

pub returns : goal.returns
returns c = λ cards sound.
    let rows = c.args.store.now.rows in
    let p = c.args.p.now in
    let long : length c.all.result ≡ 10 = ap length c.all.ensures in
    let past = c.loop-district-test.false in
    joined-end (λ d. delivered_touch rows p d (nth_new_order rows p.warehouse d c.args.n)) c.all.result c.loop-district.district-index c.loop-district.footprint (omega (arith, long, past))
    ∙ c.loop-district.invariant cards sound
