use Rattle.std.proofs.Common.{◌≡◌, drop, map}
use Rattle.catalog.specs.CardMap.{Cards}
use Rattle.serializability.specs.Footprints.{joined, joined_all}
use Rattle.tpcc_model.specs.Database.{database}
use Rattle.tpcc_model.specs.Soundness.{IsSound}
use Rattle.tpcc_model.specs.Touches.{delivered_touch}
use Rattle.tpcc_rows.specs.Limits.{ten}
use Rattle.profiles.specs.Declarations.{nth_new_order}
use Rattle.profiles.proofs.delivery.touch_districts.Given as goal

-- the districts that are left lead to where all of them lead
abbrev pub invariant-loop-district : goal.invariant-loop-district
invariant-loop-district l = (cards : Cards) → IsSound (database cards l.store.rows)
    → joined l.footprint (joined_all (map (λ d. delivered_touch l.store.rows l.p d (nth_new_order l.store.rows l.p.warehouse d l.n)) (drop l.district-index l.district-items)))
    ≡ joined l.fn.footprint (joined_all (map (λ d. delivered_touch l.store.rows l.p d (nth_new_order l.store.rows l.p.warehouse d l.n)) ten))
