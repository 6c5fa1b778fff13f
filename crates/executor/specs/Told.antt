-- What the requests of a batch told of what they declared, in order of places.
use Rattle.std.specs.Prelude.{List, Option, Some, map}
use Rattle.serializability.specs.Footprints.{Footprint}
use Rattle.tpcc_rows.specs.declared.granule.Granule.{Granule}
use Rattle.executor.specs.declared.footprints.Footprints.{Footprints}
use Rattle.executor.specs.declared.footprints.Footprints.TheVariants as footprints

abbrev pub told_by : Footprints → List (Option (Footprint Granule))
told_by (footprints.All each) = map Some each.now
told_by (footprints.Deliveries told) = told.now
