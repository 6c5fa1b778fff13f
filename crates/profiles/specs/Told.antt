-- What is told of the requests of a batch that is executed in order: what the deliveries declare.
use Rattle.std.specs.Prelude.{Bool, true, false, if◌then◌else◌, List, [], ◌∷◌, Option, None, Some}
use Rattle.requests.specs.declared.request.Request.{Request}
use Rattle.requests.specs.declared.request.Request.TheVariants as request
use Rattle.serializability.specs.Footprints.{Footprint}
use Rattle.tpcc_rows.specs.declared.granule.Granule.{Granule}

abbrev pub is_delivery : Request → Bool
is_delivery (request.Delivery p) = true
is_delivery _ = false

-- the footprint of a delivery; none of any other request
abbrev pub told_of : Request → Footprint Granule → Option (Footprint Granule)
told_of q footprint = if is_delivery q then Some footprint else None

-- so of requests that declared these
abbrev pub told_of_deliveries : List Request → List (Footprint Granule) → List (Option (Footprint Granule))
told_of_deliveries [] footprints = []
told_of_deliveries (q ∷ requests) [] = []
told_of_deliveries (q ∷ requests) (footprint ∷ footprints) = told_of q footprint ∷ told_of_deliveries requests footprints
