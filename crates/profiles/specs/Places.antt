-- What the requests of a batch declare on a sound database, computed place by place, in any order.
use Rattle.std.specs.Prelude.{◌≡◌, ℕ, List, Option, IfSome, Some, length, slice_get}
use Rattle.requests.specs.declared.request.Request.{Request}
use Rattle.serializability.specs.Footprints.{Footprint}
use Rattle.tpcc_model.specs.Database.{Database}
use Rattle.tpcc_model.specs.Soundness.{IsSound}
use Rattle.tpcc_rows.specs.declared.granule.Granule.{Granule}
use Rattle.profiles.specs.Declarations.{declared}

-- if this is a footprint, it is the one that the request at the place declares
abbrev pub IsDeclared : Database → List Request → ℕ → Option (Footprint Granule) → Type 0
IsDeclared db requests n told = IsSound db → IfSome told (λ footprint. slice_get (declared db requests) n ≡ Some footprint)

-- so at each place
abbrev pub AreDeclared : Database → List Request → List (Option (Footprint Granule)) → Type 0
AreDeclared db requests told =
    (length told ≡ length requests) × ((n : ℕ) (place : Option (Footprint Granule)) → slice_get told n ≡ Some place → IsDeclared db requests n place)
