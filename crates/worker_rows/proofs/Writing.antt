-- What may be written may be read.
use Rattle.std.proofs.Common.{◌≡◌, true, List, refl, sym, ◌∙◌, ap}
use Rattle.std.specs.List.{list_any}
use Rattle.serializability.specs.Footprints.{Footprint}
use Rattle.serializability.proofs.Footprints.{Has-from_test, list_any-Has}
use Rattle.tpcc_rows.specs.Footprints.{WritesAreRead}
use Rattle.tpcc_rows.specs.Granules.{same_granule}
use Rattle.tpcc_rows.specs.declared.granule.Granule.{Granule}
use Rattle.tpcc_rows.proofs.Footprints.{same_granule-Decides}

pub read_too : (f : Footprint Granule) → WritesAreRead f → (g : Granule) (writes : List Granule) → writes ≡ f.writes → list_any (same_granule g) writes ≡ true → list_any (same_granule g) f.reads ≡ true
read_too f read g writes is written =
    let has = Has-from_test (λ x y. (same_granule-Decides x y).0) g f.writes (ap (list_any (same_granule g)) (sym is) ∙ written) in
    list_any-Has (same_granule g) f.reads g (read g has) ((same_granule-Decides g g).1 refl)
